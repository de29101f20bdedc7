-- Formulas without free indices.
use Rattle.std.specs.Prelude.{ℕ, zero, suc, List, [], ◌∷◌}
use Rattle.jd_term.specs.Formulas.{Pairs, PlainFormula, TrueFormula, FalseFormula, Not, And, Or, Implies, Iff, Equal, Less, LessOrEqual, Forall, Exists, Updated, Modal, InLocations, InInt, WellFormed, Invariant, IsInstance, IsExactInstance}
use Rattle.jd_term.specs.Terms.{PlainTerm, Number, Boolean, NullTerm, ProgramVariable, Constant, Bound, Arithmetic, Negation, Wrap, Length, Select, Sum, Store, Create, Anon, NamedField, CreatedField, ElementField, PlainLoc, NoLocations, AllLocations, Single, ObjectFields, ArrayElements, ElementRange, Union}

abbrev pub IsBelow : ℕ → ℕ → Type 0
IsBelow k zero = ⊥
IsBelow zero (suc c) = Unit {0}
IsBelow (suc k) (suc c) = IsBelow k c

-- each index is below c, more under binders
abbrev mutual
  pub Below : ℕ → PlainTerm → Type 0
  Below c (Number z) = Unit {0}
  Below c (Boolean x) = Unit {0}
  Below c NullTerm = Unit {0}
  Below c (ProgramVariable x) = Unit {0}
  Below c (Constant x) = Unit {0}
  Below c (Bound k s) = IsBelow k c
  Below c (Arithmetic op t u) = Below c t × Below c u
  Below c (Negation t) = Below c t
  Below c (Wrap t) = Below c t
  Below c (Length t) = Below c t
  Below c (Select s h o f) = Below c h × Below c o × Below c f
  Below c (Sum t u a) = Below c t × Below c u × Below (suc c) a
  Below c (Store h o f t) = Below c h × Below c o × Below c f × Below c t
  Below c (Create h o) = Below c h × Below c o
  Below c (Anon h l g) = Below c h × BelowLoc c l × Below c g
  Below c (NamedField f) = Unit {0}
  Below c CreatedField = Unit {0}
  Below c (ElementField t) = Below c t

  pub BelowLoc : ℕ → PlainLoc → Type 0
  BelowLoc c NoLocations = Unit {0}
  BelowLoc c AllLocations = Unit {0}
  BelowLoc c (Single o f) = Below c o × Below c f
  BelowLoc c (ObjectFields o) = Below c o
  BelowLoc c (ArrayElements o) = Below c o
  BelowLoc c (ElementRange o t u) = Below c o × Below c t × Below c u
  BelowLoc c (Union l m) = BelowLoc c l × BelowLoc c m

abbrev pub BelowUpdate : ℕ → Pairs → Type 0
BelowUpdate c [] = Unit {0}
BelowUpdate c (e ∷ u) = Below c e.1 × BelowUpdate c u

abbrev pub BelowIn : ℕ → PlainFormula → Type 0
BelowIn c TrueFormula = Unit {0}
BelowIn c FalseFormula = Unit {0}
BelowIn c (Not a) = BelowIn c a
BelowIn c (And a e) = BelowIn c a × BelowIn c e
BelowIn c (Or a e) = BelowIn c a × BelowIn c e
BelowIn c (Implies a e) = BelowIn c a × BelowIn c e
BelowIn c (Iff a e) = BelowIn c a × BelowIn c e
BelowIn c (Equal t u) = Below c t × Below c u
BelowIn c (Less t u) = Below c t × Below c u
BelowIn c (LessOrEqual t u) = Below c t × Below c u
BelowIn c (Forall s a) = BelowIn (suc c) a
BelowIn c (Exists s a) = BelowIn (suc c) a
BelowIn c (Updated u a) = BelowUpdate c u × BelowIn c a
BelowIn c (Modal m k a) = BelowIn c a
BelowIn c (InLocations o f l) = Below c o × Below c f × BelowLoc c l
BelowIn c (InInt t) = Below c t
BelowIn c (WellFormed h) = Below c h
BelowIn c (Invariant h o) = Below c h × Below c o
BelowIn c (IsInstance k o) = Below c o
BelowIn c (IsExactInstance k o) = Below c o

abbrev pub Closed : PlainFormula → Type 0
Closed a = BelowIn 0 a

abbrev pub AllClosed : List PlainFormula → Type 0
AllClosed [] = Unit {0}
AllClosed (a ∷ l) = Closed a × AllClosed l
