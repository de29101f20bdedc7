use Rattle.jd_jclasses.proofs.Worked as examples
use Rattle.jd_jclasses.proofs.examples.class_examples.Goals as goal

pub returns : goal.returns
returns c = examples.class_examples
