use Rattle.jd_spelled_steps.proofs.IntegerRows as integer
use Rattle.jd_spelled_steps.proofs.LogicRows as logic
use Rattle.jd_spelled_steps.proofs.laws.rows_keep.Goals as goal

pub returns : goal.returns
returns c = record { logic = logic.all_keep; integers = integer.all_keep }
