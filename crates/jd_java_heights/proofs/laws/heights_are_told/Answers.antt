use Rattle.jd_java_heights.proofs.Trees.{height_told, nesting_told, high_told}
use Rattle.jd_java_heights.proofs.laws.heights_are_told.Goals as goal

pub returns : goal.returns
returns c = record {
  expressions = height_told;
  statements = nesting_told;
  high = high_told;
}
