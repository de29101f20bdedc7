-- Expressions whose bound variables have a binder around them.
use Rattle.std.specs.Prelude.{ℕ, suc, List, [], ◌∷◌}
use Rattle.jd_model.specs.Closed.{IsBelow, Below}
use Rattle.jd_jml_meaning.specs.Resolved.{JmlExpr, BoundVariable, FieldAccess, ElementAccess, LengthOf, Arithmetic, Minus, Plus, Sum, Cast, Old, Equal, Unequal, Less, LessOrEqual, Greater, GreaterOrEqual, Not, And, Or, Implies, Equivalent, Inequivalent, Conditional, InstanceOf, Fresh, InvariantFor, Forall, Exists, ForallIn, ExistsIn, JmlLocation, Nothing, Everything, FieldLocation, AllFields, Element, Elements, AllElements}
use Rattle.jd_jml_meaning.specs.Meaning.{When}
use Rattle.jd_jml_meaning.specs.Translation.{Spelling}

-- each bound variable is one of the innermost c
abbrev pub Scoped : ℕ → JmlExpr → Type 0
Scoped c (BoundVariable k s) = IsBelow k c
Scoped c (FieldAccess e f) = Scoped c e
Scoped c (LengthOf e) = Scoped c e
Scoped c (Minus e) = Scoped c e
Scoped c (Plus e) = Scoped c e
Scoped c (Cast e) = Scoped c e
Scoped c (Old e) = Scoped c e
Scoped c (Not e) = Scoped c e
Scoped c (Fresh e) = Scoped c e
Scoped c (InvariantFor e) = Scoped c e
Scoped c (InstanceOf k e) = Scoped c e
Scoped c (ElementAccess x y) = Scoped c x × Scoped c y
Scoped c (Equal x y) = Scoped c x × Scoped c y
Scoped c (Unequal x y) = Scoped c x × Scoped c y
Scoped c (Less x y) = Scoped c x × Scoped c y
Scoped c (LessOrEqual x y) = Scoped c x × Scoped c y
Scoped c (Greater x y) = Scoped c x × Scoped c y
Scoped c (GreaterOrEqual x y) = Scoped c x × Scoped c y
Scoped c (And x y) = Scoped c x × Scoped c y
Scoped c (Or x y) = Scoped c x × Scoped c y
Scoped c (Implies x y) = Scoped c x × Scoped c y
Scoped c (Equivalent x y) = Scoped c x × Scoped c y
Scoped c (Inequivalent x y) = Scoped c x × Scoped c y
Scoped c (Arithmetic op x y) = Scoped c x × Scoped c y
Scoped c (Sum x y e) = Scoped c x × Scoped c y × Scoped (suc c) e
Scoped c (Conditional e x y) = Scoped c e × Scoped c x × Scoped c y
Scoped c (Forall k e) = Scoped (suc c) e
Scoped c (Exists k e) = Scoped (suc c) e
Scoped c (ForallIn k r e) = Scoped (suc c) r × Scoped (suc c) e
Scoped c (ExistsIn k r e) = Scoped (suc c) r × Scoped (suc c) e
Scoped c e = Unit {0}

abbrev pub LocationScoped : ℕ → JmlLocation → Type 0
LocationScoped c Nothing = Unit {0}
LocationScoped c Everything = Unit {0}
LocationScoped c (FieldLocation e f) = Scoped c e
LocationScoped c (AllFields e) = Scoped c e
LocationScoped c (Element a e) = Scoped c a × Scoped c e
LocationScoped c (Elements a x y) = Scoped c a × Scoped c x × Scoped c y
LocationScoped c (AllElements a) = Scoped c a

abbrev pub AllScoped : List JmlExpr → Type 0
AllScoped [] = Unit {0}
AllScoped (e ∷ es) = Scoped 0 e × AllScoped es

abbrev pub LocationsScoped : ℕ → List JmlLocation → Type 0
LocationsScoped c [] = Unit {0}
LocationsScoped c (l ∷ ls) = LocationScoped c l × LocationsScoped c ls

-- the terms of a spelling have no free index, under any binders
pub record ClosedSpelling (sp : Spelling) : Type 0 where
  pub heap : (c : ℕ) (t : When) → Below c (sp.heap t)
  pub argument : (c : ℕ) (t : When) (k : ℕ) → Below c (sp.argument t k)
  pub this : (c : ℕ) → Below c sp.this
  pub result : (c : ℕ) → Below c sp.result
  pub thrown : (c : ℕ) → Below c sp.thrown
