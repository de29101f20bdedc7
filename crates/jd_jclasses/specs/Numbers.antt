-- Numbers for the members of a program, the same for those that agree in something.
use Rattle.std.specs.Prelude.{◌≡◌, ◌↔◌, ◌<◌, ℕ, List, length, Some, slice_index}
use Rattle.std.specs.List.{slice_get}
use Rattle.jd_jclasses.specs.Members.{Declared, parameter_types, result_of, is_static}
use Rattle.jd_jclasses.specs.Refusals.{SameName}

-- of one name and one list of parameter types (JLS 8.4.2); what is no routine has no parameters
abbrev pub SameSignature : Declared → Declared → Type 0
SameSignature a b = SameName a b × (parameter_types a.kind ≡ parameter_types b.kind)

-- of one name and one result, and both static or both not (JLS 8.4.5, 8.4.3.2)
abbrev pub SameReturn : Declared → Declared → Type 0
SameReturn a b = SameName a b × (result_of a.kind ≡ result_of b.kind) × (is_static a.kind ≡ is_static b.kind)

-- each member has a number below the count, and two have one number where they agree so
pub record AreNumbers (Same : Declared → Declared → Type 0) (members : List Declared) (numbers : List ℕ) (count : ℕ) : Type 0 where
  pub each : length numbers ≡ length members
  pub below : (i : ℕ) → i < length members → slice_index numbers i < count
  pub same : (i j : ℕ) (a b : Declared) → slice_get members i ≡ Some a → slice_get members j ≡ Some b → (slice_index numbers i ≡ slice_index numbers j) ↔ Same a b
