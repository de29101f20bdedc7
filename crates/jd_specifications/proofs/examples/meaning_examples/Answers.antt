use Rattle.jd_specifications.proofs.Worked.{meaning_examples}
use Rattle.jd_specifications.proofs.examples.meaning_examples.Goals as goal

pub returns : goal.returns
returns c = meaning_examples
