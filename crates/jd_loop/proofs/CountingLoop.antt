-- The step of the counting loop, computed.
use Rattle.std.proofs.Common.{◌+◌, ◌<◌, ◌^◌, Some, refl, arith}
use Rattle.std.specs.Fmt.{digits}
use Rattle.jd_term.specs.declared.formula.Modality.TheVariants as modalities
use Rattle.jd_model.specs.SpecialNames.{thrown_variable}
use Rattle.jd_syntax.specs.Codes.{Done}
use Rattle.jd_model.specs.Contexts.{Here, InFrame, InCatch}
use Rattle.jd_model.specs.Occurrences.{AllOf}
use Rattle.jd_sequent.specs.Freshness.{IsNewVariable, IsNewConstant}
use Rattle.jd_loop.specs.LoopNames.{new_variables, new_constants, loop_names}
use Rattle.jd_loop.specs.LoopInstances.{IsLoopInstance}
use Rattle.jd_loop.specs.CountingMethod.{int_result, test, body, return_zero, counting_code, counting_loop}
use Rattle.jd_loop.specs.CountingLoop.{goal, counting_sequent, counting_place, counting_task, counting_premises}

variables_new : AllOf (IsNewVariable counting_sequent) (new_variables (loop_names 1 test body))
unfolding digits
variables_new = (record { absent = refl; not_special = refl }, (record { absent = refl; not_special = refl }, (record { absent = refl; not_special = refl }, (record { absent = refl; not_special = refl }, (record { absent = refl; not_special = refl }, tt)))))

constants_new : AllOf (IsNewConstant counting_task.obligation counting_sequent) (new_constants (loop_names 1 test body))
unfolding digits
constants_new = (record { absent = refl; not_known = refl }, (record { absent = refl; not_known = refl }, (record { absent = refl; not_known = refl }, tt)))

few : 1 + 2 < 2 ^ 64
few = omega arith

pub counting_instance : IsLoopInstance counting_task counting_sequent counting_place 1 counting_premises
unfolding digits
counting_instance = record {
  modality = modalities.Possibility;
  code = counting_code;
  formula = goal;
  at_place = record { right = refl; found = refl };
  context = InCatch (InFrame (Some int_result) (Here return_zero) Done) thrown_variable Done Done;
  number = 1;
  test = test;
  body = body;
  at_focus = refl;
  loop = counting_loop;
  of_obligation = refl;
  has_variant = tt;
  assigns_no_heap = (refl, (refl, tt));
  few = few;
  variables_new = variables_new;
  constants_new = constants_new;
  premises_are = refl;
}
