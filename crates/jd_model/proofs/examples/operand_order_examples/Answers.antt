use Rattle.jd_model.proofs.ValueExamples.{left_throws, left_throws_in_sum, right_throws, right_sees_left, left_is_kept, argument_throws, short_circuits, one_is_chosen}
use Rattle.jd_model.proofs.examples.operand_order_examples.Goals as goal

pub returns-clause-left_throws : goal.returns-clause-left_throws
returns-clause-left_throws c = left_throws

pub returns-clause-left_throws_in_sum : goal.returns-clause-left_throws_in_sum
returns-clause-left_throws_in_sum c = left_throws_in_sum

pub returns-clause-right_throws : goal.returns-clause-right_throws
returns-clause-right_throws c = right_throws

pub returns-clause-right_sees_left : goal.returns-clause-right_sees_left
returns-clause-right_sees_left c = right_sees_left

pub returns-clause-left_is_kept : goal.returns-clause-left_is_kept
returns-clause-left_is_kept c = left_is_kept

pub returns-clause-argument_throws : goal.returns-clause-argument_throws
returns-clause-argument_throws c = argument_throws

pub returns-clause-short_circuits : goal.returns-clause-short_circuits
returns-clause-short_circuits c = short_circuits

pub returns-clause-one_is_chosen : goal.returns-clause-one_is_chosen
returns-clause-one_is_chosen c = one_is_chosen
