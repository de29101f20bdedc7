use Rattle.jd_field_sorts.proofs.Sorts.{program_sorted}
use Rattle.jd_field_sorts.proofs.laws.fields_have_sorts.Goals as goal

pub returns : goal.returns
returns c = λ units j is. program_sorted units j is
