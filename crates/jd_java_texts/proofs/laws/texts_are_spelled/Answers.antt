use Rattle.jd_java_texts.proofs.Spellings.{text_spelled}
use Rattle.jd_java_texts.proofs.laws.texts_are_spelled.Goals as goal

pub returns : goal.returns
returns c = text_spelled
