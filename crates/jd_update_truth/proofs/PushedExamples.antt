-- The worked examples, by the law.
use Rattle.std.proofs.Common.{refl}
use Rattle.jd_term.specs.Terms.{ProgramVariable}
use Rattle.jd_term.specs.Formulas.{Less, Modal}
use Rattle.jd_update_truth.specs.PushedExamples.{variable_x, variable_y, swap, four_pairs, copy_y, x_below_w, PushedExamples}
use Rattle.jd_update_truth.proofs.AllLaws.{pushed_update}

pub pushed_examples : PushedExamples
pushed_examples = record {
  swapped = λ g d i s b. pushed_update g d i s b swap (refl, (refl, tt)) (Less (ProgramVariable variable_x) (ProgramVariable variable_y)) tt;
  before_modality = λ g d i s b m. pushed_update g d i s b four_pairs (refl, (refl, (refl, (refl, tt)))) (Modal m copy_y x_below_w) ((refl, tt), tt);
}
