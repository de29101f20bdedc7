use Rattle.jd_java_texts.proofs.Trees.{texts_kept}
use Rattle.jd_java_texts.proofs.laws.texts_are_kept.Goals as goal

pub returns : goal.returns
returns c = texts_kept
