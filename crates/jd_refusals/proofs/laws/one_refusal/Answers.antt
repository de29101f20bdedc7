use Rattle.jd_refusals.proofs.OneRefusal.{in_files, one}
use Rattle.jd_refusals.proofs.laws.one_refusal.Goals as goal

pub returns : goal.returns
returns c = record { one = λ units r s stand. one c.declarations_are_one.ensures units stand r s; in_files = in_files }
