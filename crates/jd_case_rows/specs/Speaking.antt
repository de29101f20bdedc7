-- What the expressions of a contract speak of: no local, `this` where there is a receiver, the result in postconditions alone, and what
-- was thrown in `signals` alone.
use Rattle.std.specs.Prelude.{◌≡◌, Bool, true, false, List, [], ◌∷◌, ℕ}
use Rattle.jd_model.specs.Cases.{Role, Static, Ordinary, Helper, ConstructorOf}
use Rattle.jd_jml_meaning.specs.Resolved.{JmlExpr, This, Result, Thrown, Local, FieldAccess, ElementAccess, LengthOf, Arithmetic, Minus, Plus, Sum, Cast, Old, Equal, Unequal, Less, LessOrEqual, Greater, GreaterOrEqual, Not, And, Or, Implies, Equivalent, Inequivalent, Conditional, InstanceOf, Fresh, InvariantFor, Forall, Exists, ForallIn, ExistsIn, JmlLocation, Nothing, Everything, FieldLocation, AllFields, Element, Elements, AllElements}
use Rattle.jd_jml_meaning.specs.JmlContracts.{JmlContract}

-- whether the receiver, the result and what was thrown are spoken of
pub record Allowed : Type 0 where
  pub receiver : Bool
  pub result : Bool
  pub thrown : Bool

module _ (u : Allowed) where
  abbrev pub Speaks : JmlExpr → Type 0
  Speaks This = u.receiver ≡ true
  Speaks Result = u.result ≡ true
  Speaks Thrown = u.thrown ≡ true
  Speaks (Local x) = ⊥
  Speaks (FieldAccess e f) = Speaks e
  Speaks (LengthOf e) = Speaks e
  Speaks (Minus e) = Speaks e
  Speaks (Plus e) = Speaks e
  Speaks (Cast e) = Speaks e
  Speaks (Old e) = Speaks e
  Speaks (Not e) = Speaks e
  Speaks (Fresh e) = Speaks e
  Speaks (InvariantFor e) = Speaks e
  Speaks (InstanceOf k e) = Speaks e
  Speaks (Forall k e) = Speaks e
  Speaks (Exists k e) = Speaks e
  Speaks (ElementAccess x y) = Speaks x × Speaks y
  Speaks (Arithmetic op x y) = Speaks x × Speaks y
  Speaks (Equal x y) = Speaks x × Speaks y
  Speaks (Unequal x y) = Speaks x × Speaks y
  Speaks (Less x y) = Speaks x × Speaks y
  Speaks (LessOrEqual x y) = Speaks x × Speaks y
  Speaks (Greater x y) = Speaks x × Speaks y
  Speaks (GreaterOrEqual x y) = Speaks x × Speaks y
  Speaks (And x y) = Speaks x × Speaks y
  Speaks (Or x y) = Speaks x × Speaks y
  Speaks (Implies x y) = Speaks x × Speaks y
  Speaks (Equivalent x y) = Speaks x × Speaks y
  Speaks (Inequivalent x y) = Speaks x × Speaks y
  Speaks (ForallIn k x y) = Speaks x × Speaks y
  Speaks (ExistsIn k x y) = Speaks x × Speaks y
  Speaks (Sum x y e) = Speaks x × Speaks y × Speaks e
  Speaks (Conditional e x y) = Speaks e × Speaks x × Speaks y
  Speaks e = Unit {0}

  abbrev pub AllSpeak : List JmlExpr → Type 0
  AllSpeak [] = Unit {0}
  AllSpeak (e ∷ es) = Speaks e × AllSpeak es

  abbrev pub LocationSpeaks : JmlLocation → Type 0
  LocationSpeaks Nothing = Unit {0}
  LocationSpeaks Everything = Unit {0}
  LocationSpeaks (FieldLocation e f) = Speaks e
  LocationSpeaks (AllFields e) = Speaks e
  LocationSpeaks (Element a e) = Speaks a × Speaks e
  LocationSpeaks (Elements a x y) = Speaks a × Speaks x × Speaks y
  LocationSpeaks (AllElements a) = Speaks a

  abbrev pub LocationsSpeak : List JmlLocation → Type 0
  LocationsSpeak [] = Unit {0}
  LocationsSpeak (l ∷ ls) = LocationSpeaks l × LocationsSpeak ls

  abbrev pub SignalsSpeak : List (ℕ × JmlExpr) → Type 0
  SignalsSpeak [] = Unit {0}
  SignalsSpeak (e ∷ es) = Speaks e.1 × SignalsSpeak es

abbrev pub has_receiver : Role → Bool
has_receiver Static = false
has_receiver Ordinary = true
has_receiver Helper = true
has_receiver (ConstructorOf a) = true

abbrev pub at_entry : Role → Allowed
at_entry r = record { receiver = has_receiver r; result = false; thrown = false }

abbrev pub of_result : Role → Allowed
of_result r = record { receiver = has_receiver r; result = true; thrown = false }

abbrev pub of_thrown : Role → Allowed
of_thrown r = record { receiver = has_receiver r; result = false; thrown = true }

pub record ContractSpeaks (c : JmlContract) : Type 0 where
  pub required : AllSpeak (at_entry c.role) c.requires_
  pub ensured : AllSpeak (of_result c.role) c.ensures_
  pub signalled : SignalsSpeak (of_thrown c.role) c.signals
  pub assigned : LocationsSpeak (at_entry c.role) c.assignable
  pub measured : Speaks (at_entry c.role) c.measure
