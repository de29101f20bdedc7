use Rattle.jd_model.proofs.ControlExamples.{loop_counts, endless_loop}
use Rattle.jd_model.proofs.examples.loop_examples.Goals as goal

pub returns-clause-loop_counts : goal.returns-clause-loop_counts
returns-clause-loop_counts c = loop_counts

pub returns-clause-endless_loop : goal.returns-clause-endless_loop
returns-clause-endless_loop c = endless_loop
