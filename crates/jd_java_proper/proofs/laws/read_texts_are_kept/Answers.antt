use Rattle.jd_java_proper.proofs.Reading.{texts_read}
use Rattle.jd_java_proper.proofs.laws.read_texts_are_kept.Goals as goal

pub returns : goal.returns
returns c = texts_read c.texts_are_kept.ensures c.faultless_is_proper.ensures
