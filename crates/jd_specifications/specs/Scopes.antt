-- What names in JML stand for, and what may stand where (JML Reference Manual, 12; JLS 6.5).
use Rattle.std.specs.Prelude.{ℕ, Bool, true, false, List, [], ◌∷◌, if◌then◌else◌, Option, Some, None, Result, Ok, Err}
use Rattle.std.specs.Str.{bytes_eq}
use Rattle.jd_bodies.specs.Declarations.{Declarations}
use Rattle.jd_bodies.specs.declared.place.Place.{Place}
use Rattle.jd_bodies.specs.declared.value.ValueType.{ValueType}
use Rattle.jd_bodies.specs.declared.value.Variable.{Variable}
use Rattle.jd_specifications.specs.declared.fault.SpecCause.{SpecCause}
use Rattle.jd_specifications.specs.declared.fault.SpecFault.{SpecFault}

-- what is named: a parameter, a local of the method, the exception of a `signals`, or what a quantifier binds
pub data Named : Type 0 where
  AParameter ALocal AnException ABound : Named

abbrev pub is_local : Named → Bool
is_local ALocal = true
is_local n = false

pub record SpecLocal : Type 0 where
  pub name : List ℕ
  pub named : Named
  pub type : ValueType

-- the innermost of the name
abbrev pub local_named : List SpecLocal → List ℕ → Option SpecLocal
local_named [] name = None
local_named (l ∷ ls) name = if bytes_eq l.name name then Some l else local_named ls name

-- where an expression stands: in which class, with or without `this`; the type of `\result`, where it may stand; whether `\old` and
-- `\fresh` may; whether `\invariant_for` may
pub record SpecPlace : Type 0 where
  pub place : Place
  pub result : Option ValueType
  pub old : Bool
  pub invariants : Bool

-- ---- what is said of a part, or the token that is refused in it

-- Parts stand in the order in which they are written, and a whole is refused by itself only where no part is: so what comes first
-- here is the first refused token.
abbrev pub and_then : {A B : Type 0} → (A → Result B SpecFault) → Result A SpecFault → Result B SpecFault
and_then f (Ok a) = f a
and_then f (Err e) = Err e

abbrev pub refused : {A : Type 0} → ℕ → SpecCause → Result A SpecFault
refused at cause = Err (record { at = at; cause = cause })

-- that, where it is so; else the token is refused
abbrev pub only_if : {A : Type 0} → Bool → ℕ → SpecCause → A → Result A SpecFault
only_if true at cause a = Ok a
only_if false at cause a = refused at cause

-- ---- the class that stands before a dot: a name that is no variable's (JLS 6.5.2)

abbrev pub class_unless : Option SpecLocal → Option Variable → Option ℕ → Option ℕ
class_unless None None c = c
class_unless l v c = None

module _ (d : Declarations) (place : Place) where
  abbrev pub class_meant : List SpecLocal → List ℕ → Option ℕ
  class_meant locals name = class_unless (local_named locals name) (d.variable place.class name) (d.class_named name)
