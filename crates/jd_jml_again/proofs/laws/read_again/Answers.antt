use Rattle.jd_jml_again.proofs.Reading.{texts_read, read_elsewhere}
use Rattle.jd_jml_again.proofs.laws.read_again.Goals as goal

pub returns : goal.returns
returns c = record {
  texts = texts_read c.texts_are_kept.ensures c.faultless_is_proper.ensures;
  elsewhere = read_elsewhere c.places_are_apart.ensures;
}
