use Rattle.jd_model.proofs.ControlExamples.{break_through_finally, break_to_other, loop_is_left}
use Rattle.jd_model.proofs.examples.break_examples.Goals as goal

pub returns-clause-break_through_finally : goal.returns-clause-break_through_finally
returns-clause-break_through_finally c = break_through_finally

pub returns-clause-break_to_other : goal.returns-clause-break_to_other
returns-clause-break_to_other c = break_to_other

pub returns-clause-loop_is_left : goal.returns-clause-loop_is_left
returns-clause-loop_is_left c = loop_is_left
