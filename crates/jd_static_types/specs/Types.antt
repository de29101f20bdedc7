-- The type of what is given.
use Rattle.std.specs.Prelude.{◌≡◌, ⊤, ℕ, List, [], ◌∷◌, Option, Some, None, Result, Ok, Err}
use Rattle.jd_syntax.specs.JavaTrees.{JavaExpr}
use Rattle.jd_bodies.specs.declared.fault.Fault.{Fault}
use Rattle.jd_bodies.specs.declared.given.Given.{Given}
use Rattle.jd_bodies.specs.declared.place.Place.{Place}
use Rattle.jd_bodies.specs.declared.value.ValueType.{ValueType}
use Rattle.jd_bodies.specs.declared.value.ValueType.TheVariants as types
use Rattle.jd_bodies.specs.declared.value.Variable.TheVariants as variables
use Rattle.jd_bodies.specs.Declarations.{Declarations}
use Rattle.jd_bodies.specs.Expressions.{given}
use Rattle.jd_bodies.specs.Scopes.{Local}
use Rattle.jd_bodies.specs.StaticTypes.{static_type}

-- a type that some file declares, where it is a class
abbrev pub IsKnown : ValueType → Type 0
IsKnown types.Missing = ⊥
IsKnown t = ⊤

-- those of fields and results are
pub record HaveKnownTypes (d : Declarations) : Type 0 where
  pub fields_ : (c : ℕ) (name : List ℕ) (f : ℕ) (t : ValueType) → d.variable c name ≡ Some (variables.Field f t) → IsKnown t
  pub results_ : (m : ℕ) (t : ValueType) → (d.signature m).result ≡ Some t → IsKnown t

-- and those of locals
abbrev pub AreKnown : List Local → Type 0
AreKnown [] = ⊤
AreKnown (l ∷ ls) = IsKnown l.type × AreKnown ls

-- a value, if there is one, is of this type
abbrev pub ValueHas : Option ValueType → ValueType → Type 0
ValueHas None s = ⊤
ValueHas (Some t) s = (t ≡ s) × IsKnown t

-- what is given, where no token is refused
abbrev pub Gives : Result Given Fault → ValueType → Type 0
Gives (Ok g) s = ValueHas g.value s
Gives (Err f) s = ⊤

abbrev pub GivenTypes : Type 0
GivenTypes = (d : Declarations) (place : Place) (locals : List Local) → HaveKnownTypes d → AreKnown locals → (e : JavaExpr) → Gives (given d place locals e) (static_type d place locals e)
