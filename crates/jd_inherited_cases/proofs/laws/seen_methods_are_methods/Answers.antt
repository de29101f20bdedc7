use Rattle.jd_inherited_cases.proofs.Inherited.{method_seen}
use Rattle.jd_inherited_cases.proofs.laws.seen_methods_are_methods.Goals as goal

pub returns : goal.returns
returns c = λ units stand d are. method_seen units d are
