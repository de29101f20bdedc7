use Rattle.jd_java_heights.proofs.Reading.{read_low, low_read, deep_high}
use Rattle.jd_java_heights.proofs.laws.read_heights.Goals as goal

pub returns : goal.returns
returns c = record {
  read = read_low c.faultless_is_proper.ensures c.heights_are_told.ensures;
  reads = low_read c.faultless_is_proper.ensures c.heights_are_told.ensures;
  too_deep = deep_high c.faultless_is_proper.ensures c.heights_are_told.ensures;
}
