-- The written allocations are instances.
use Rattle.std.specs.Fmt.{digits}
use Rattle.std.proofs.Common.{Some, refl}
use Rattle.jd_call.specs.NewObject.{ArrayOf, ObjectOf}
use Rattle.jd_call.specs.RecursiveCall.{goal, int_result, method_with, n}
use Rattle.jd_task_classes.specs.OneClass.{the_class}
use Rattle.jd_call.specs.WrittenAllocations.{AllocationsAreWritten, a, return_n}
use Rattle.jd_model.specs.Contexts.{Here, InCatch, InFrame}
use Rattle.jd_model.specs.SpecialNames.{thrown_variable}
use Rattle.jd_syntax.specs.Codes.{AllocArray, AllocObject, Done, Then, Variable}
use Rattle.jd_term.specs.declared.formula.Modality.TheVariants as modalities

pub allocations_are_written : AllocationsAreWritten
unfolding digits
allocations_are_written = record {
  of_object = record {
    modality = modalities.Necessity;
    code = method_with (Then (AllocObject a the_class) return_n);
    after = goal;
    at_place = record { right = refl; found = refl };
    context = InCatch (InFrame (Some int_result) (Here return_n) Done) thrown_variable Done Done;
    variable = a;
    allocation = ObjectOf the_class;
    at_focus = refl;
    variable_sort = refl;
    length_simple = tt;
    constant_new = record { absent = refl; not_known = refl };
    premises_are = refl;
  };
  of_array = record {
    modality = modalities.Necessity;
    code = method_with (Then (AllocArray a (Variable n)) return_n);
    after = goal;
    at_place = record { right = refl; found = refl };
    context = InCatch (InFrame (Some int_result) (Here return_n) Done) thrown_variable Done Done;
    variable = a;
    allocation = ArrayOf (Variable n);
    at_focus = refl;
    variable_sort = refl;
    length_simple = refl;
    constant_new = record { absent = refl; not_known = refl };
    premises_are = refl;
  };
}
