-- What classes have of their own by their names, from what the tables of classes list.
use Rattle.std.specs.Prelude.{ℕ, ℤ, List, ◌++◌, map, filter_map, Option, option_map}
use Rattle.std.specs.List.{slice_get}
use Rattle.jd_syntax.specs.JavaTrees.{JavaUnit}
use Rattle.jd_jclasses.specs.Members.{declared_members}
use Rattle.jd_jinfos.specs.Infos.{PlainFieldInfo, PlainMethodInfo, PlainOwnMembers, field_infos, method_infos, own_of}
use Rattle.jd_bodies.specs.Declarations.{Signature, type_by}
use Rattle.jd_bodies.specs.declared.value.Variable.{Variable}
use Rattle.jd_bodies.specs.declared.value.Variable.TheVariants.{Constant, Field}

abbrev pub field_pair : (List ℕ → Option ℕ) → ℕ → PlainFieldInfo → List ℕ × Variable
field_pair named f i = (i.name, Field f (type_by named i.ty))

-- of the fields of these numbers
abbrev pub field_pairs : List PlainFieldInfo → (List ℕ → Option ℕ) → List ℕ → List (List ℕ × Variable)
field_pairs infos named fs = filter_map (λ f. option_map (field_pair named f) (slice_get infos f)) fs

abbrev pub constant_pair : List ℕ × ℤ → List ℕ × Variable
constant_pair c = (c.0, Constant c.1)

-- fields and constants
abbrev pub variables_in : List PlainFieldInfo → (List ℕ → Option ℕ) → PlainOwnMembers → List (List ℕ × Variable)
variables_in infos named own = field_pairs infos named own.fields ++ map constant_pair own.constants

abbrev pub method_pair : ℕ → PlainMethodInfo → List ℕ × ℕ
method_pair m i = (i.name, m)

abbrev pub methods_in : List PlainMethodInfo → List ℕ → List (List ℕ × ℕ)
methods_in infos ms = filter_map (λ m. option_map (method_pair m) (slice_get infos m)) ms

-- of the class of this number
abbrev pub variables_of : List JavaUnit → (List ℕ → Option ℕ) → ℕ → List (List ℕ × Variable)
variables_of units named c = variables_in (field_infos units) named (own_of (declared_members units) c)

abbrev pub methods_of : List JavaUnit → ℕ → List (List ℕ × ℕ)
methods_of units c = methods_in (method_infos units) (own_of (declared_members units) c).methods

-- what a routine takes and gives
abbrev pub signature_by : (List ℕ → Option ℕ) → PlainMethodInfo → Signature
signature_by named i = record { class = i.class; static = i.static; parameters = map (type_by named) i.params; result = option_map (type_by named) i.result }
