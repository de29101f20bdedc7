use Rattle.jd_jml_heights.proofs.Trees.{height_told, high_told}
use Rattle.jd_jml_heights.proofs.laws.heights_are_told.Goals as goal

pub returns : goal.returns
returns c = record {
  height = height_told;
  high = high_told;
}
