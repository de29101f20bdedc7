use Rattle.jd_spelled_first_steps.proofs.ToSorted.{spelled_formulas_are_sorted}
use Rattle.jd_spelled_first_steps.proofs.laws.spelled_formulas_are_sorted.Goals as goal

pub returns : goal.returns
returns c = spelled_formulas_are_sorted
