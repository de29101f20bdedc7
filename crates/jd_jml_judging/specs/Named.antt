-- What names and calls come to, by what is known of a name.
use Rattle.std.specs.Prelude.{ℕ, Bool, not, ◌&&◌, Option, Some, None, Result}
use Rattle.jd_bodies.specs.Declarations.{Declarations}
use Rattle.jd_bodies.specs.declared.value.ValueType.{ValueType}
use Rattle.jd_bodies.specs.declared.value.ValueType.TheVariants as types
use Rattle.jd_bodies.specs.declared.value.Variable.{Variable}
use Rattle.jd_specifications.specs.Scopes.{and_then, only_if, refused}
use Rattle.jd_specifications.specs.Types.{array, own_variable, receiver, wanted}
use Rattle.jd_specifications.specs.declared.fault.SpecCause.TheVariants.{CallInSpec, OldHere}
use Rattle.jd_specifications.specs.declared.fault.SpecFault.{SpecFault}
use Rattle.jd_jml_judging.specs.declared.method_names.Known.{Known}

abbrev pub name_by : Bool → Bool → ℕ → Option Known → Option Variable → Result ValueType SpecFault
name_by inside static at None v = own_variable static at v
name_by inside static at (Some k) v = only_if (not (inside && k.is_local)) at OldHere k.value

abbrev pub class_by : Option Known → Option Variable → Option ℕ → Option ℕ
class_by None None c = c
class_by k v c = None

-- a call is refused behind its parts
abbrev pub call_by : ℕ → Result ValueType SpecFault → Result ValueType SpecFault
call_by at parts = and_then (λ (t : ValueType). refused at CallInSpec) parts

abbrev pub method_call_by : Declarations → ℕ → Option ℕ → Result ValueType SpecFault → Result ValueType SpecFault → Result ValueType SpecFault
method_call_by d at class value arguments = and_then (λ (t : ValueType). call_by at arguments) (receiver d class value)

-- a range of an array
abbrev pub range_by : Declarations → ℕ → Result ValueType SpecFault → ℕ → Result ValueType SpecFault → ℕ → Result ValueType SpecFault → Result ValueType SpecFault
range_by d first a second i third j =
    and_then (λ t. and_then (λ u. and_then (λ v. and_then (λ w. and_then (λ x. wanted d types.Int third v) (wanted d types.Int second u)) (array d first t)) j) i) a
