use Rattle.jd_spelled_steps.proofs.Conditions.{integers_are_met, logic_are_met}
use Rattle.jd_spelled_steps.proofs.laws.rows_are_met.Goals as goal

pub returns : goal.returns
returns c = record { logic = logic_are_met; integers = integers_are_met }
