use Rattle.jd_model.proofs.ValueExamples.{zero_divisor, one_by_zero_throws}
use Rattle.jd_model.proofs.examples.zero_divisor_examples.Goals as goal

pub returns-clause-zero_divisor : goal.returns-clause-zero_divisor
returns-clause-zero_divisor c = zero_divisor

pub returns-clause-one_by_zero : goal.returns-clause-one_by_zero
returns-clause-one_by_zero c = one_by_zero_throws
