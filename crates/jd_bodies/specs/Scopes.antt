-- What a name in a body stands for (JLS 6.3, 6.4.1, 6.5).
use Rattle.std.specs.Prelude.{ℕ, Bool, false, List, [], ◌∷◌, if◌then◌else◌, Option, Some, None}
use Rattle.std.specs.Str.{bytes_eq}
use Rattle.jd_bodies.specs.Declarations.{Declarations}
use Rattle.jd_bodies.specs.declared.place.Meaning.{Meaning}
use Rattle.jd_bodies.specs.declared.place.Meaning.TheVariants as meanings
use Rattle.jd_bodies.specs.declared.place.Place.{Place}
use Rattle.jd_bodies.specs.declared.value.ValueType.{ValueType}
use Rattle.jd_bodies.specs.declared.value.Variable.{Variable}
use Rattle.jd_bodies.specs.declared.value.Variable.TheVariants as variables

-- a parameter or local in scope
pub record Local : Type 0 where
  pub name : List ℕ
  pub type : ValueType

-- what is in scope in a body: the locals, the newest first; the labels around it, the innermost last, each with whether it is a loop's; and
-- whether a loop stands around
pub record Scope : Type 0 where
  pub locals : List Local
  pub labels : List (List ℕ × Bool)
  pub in_loop : Bool

abbrev pub empty_scope : Scope
empty_scope = record { locals = []; labels = []; in_loop = false }

-- the last of the name
abbrev pub local_named : List Local → List ℕ → Option ValueType
local_named [] name = None
local_named (l ∷ ls) name = if bytes_eq l.name name then Some l.type else local_named ls name

abbrev pub variable_meaning : Option Variable → Meaning
variable_meaning None = meanings.Nothing
variable_meaning (Some (variables.Field f t)) = meanings.Field f t
variable_meaning (Some (variables.Constant n)) = meanings.Constant n

abbrev pub meaning_by : Option ValueType → Option Variable → Meaning
meaning_by (Some t) v = meanings.Local t
meaning_by None v = variable_meaning v

module _ (d : Declarations) (place : Place) where
  -- the newest local stands first
  abbrev pub meaning : List Local → List ℕ → Meaning
  meaning locals name = meaning_by (local_named locals name) (d.variable place.class name)

  abbrev pub class_unless : Meaning → Option ℕ → Option ℕ
  class_unless meanings.Nothing c = c
  class_unless m c = None

  -- the class that a name before a dot stands for, where it is no variable's (JLS 6.5.2)
  abbrev pub class_meant : List Local → List ℕ → Option ℕ
  class_meant locals name = class_unless (meaning locals name) (d.class_named name)
