-- Whether a term may be put for the index 0 of a formula: it has no program variable, or the index stands in no update's body and in no
-- modality's formula.
use Rattle.std.specs.Prelude.{Bool, [], ◌∷◌, ◌||◌, ◌&&◌, false, nat_eq, not, suc, true, ℕ}
use Rattle.jd_term.specs.Folds.{Gathering, fold_term}
use Rattle.jd_term.specs.Formulas.{PlainFormula, Pairs, TrueFormula, FalseFormula, Not, And, Or, Implies, Iff, Equal, Less, LessOrEqual, Forall, Exists, Updated, Modal, InLocations, InInt, WellFormed, Invariant, IsInstance, IsExactInstance}
use Rattle.jd_term.specs.Terms.{PlainTerm, Number, Boolean, NullTerm, ProgramVariable, Constant, Bound, Arithmetic, Negation, Wrap, Length, Select, Sum, Store, Create, Anon, NamedField, CreatedField, ElementField, PlainLoc, NoLocations, AllLocations, Single, ObjectFields, ArrayElements, ElementRange, Union}

-- ---- program variables

abbrev pub is_any_variable : PlainTerm → Bool → Bool
is_any_variable (ProgramVariable x) inside = true
is_any_variable t inside = inside

abbrev pub any_variable : Gathering Bool
any_variable = record {
  none = false;
  join = λ a b. a || b;
  term = is_any_variable;
  loc = λ l inside. inside;
  formula = λ f inside. inside;
  pair = λ x inside. true;
  code = λ c. true;
}

abbrev pub has_variable : PlainTerm → Bool
has_variable t = fold_term any_variable t

-- ---- an index

abbrev mutual
  pub index_in_term : ℕ → PlainTerm → Bool
  index_in_term c (Number z) = false
  index_in_term c (Boolean x) = false
  index_in_term c NullTerm = false
  index_in_term c (ProgramVariable x) = false
  index_in_term c (Constant x) = false
  index_in_term c (Bound k s) = nat_eq k c
  index_in_term c (Arithmetic op t u) = index_in_term c t || index_in_term c u
  index_in_term c (Negation t) = index_in_term c t
  index_in_term c (Wrap t) = index_in_term c t
  index_in_term c (Length t) = index_in_term c t
  index_in_term c (Select s h o f) = index_in_term c h || index_in_term c o || index_in_term c f
  index_in_term c (Sum t u a) = index_in_term c t || index_in_term c u || index_in_term (suc c) a
  index_in_term c (Store h o f t) = index_in_term c h || index_in_term c o || index_in_term c f || index_in_term c t
  index_in_term c (Create h o) = index_in_term c h || index_in_term c o
  index_in_term c (Anon h l g) = index_in_term c h || index_in_loc c l || index_in_term c g
  index_in_term c (NamedField f) = false
  index_in_term c CreatedField = false
  index_in_term c (ElementField t) = index_in_term c t

  pub index_in_loc : ℕ → PlainLoc → Bool
  index_in_loc c NoLocations = false
  index_in_loc c AllLocations = false
  index_in_loc c (Single o f) = index_in_term c o || index_in_term c f
  index_in_loc c (ObjectFields o) = index_in_term c o
  index_in_loc c (ArrayElements o) = index_in_term c o
  index_in_loc c (ElementRange o t u) = index_in_term c o || index_in_term c t || index_in_term c u
  index_in_loc c (Union l m) = index_in_loc c l || index_in_loc c m

abbrev pub index_in_pairs : ℕ → Pairs → Bool
index_in_pairs c [] = false
index_in_pairs c (e ∷ u) = index_in_term c e.1 || index_in_pairs c u

abbrev pub index_in : ℕ → PlainFormula → Bool
index_in c TrueFormula = false
index_in c FalseFormula = false
index_in c (Not a) = index_in c a
index_in c (And a e) = index_in c a || index_in c e
index_in c (Or a e) = index_in c a || index_in c e
index_in c (Implies a e) = index_in c a || index_in c e
index_in c (Iff a e) = index_in c a || index_in c e
index_in c (Equal t u) = index_in_term c t || index_in_term c u
index_in c (Less t u) = index_in_term c t || index_in_term c u
index_in c (LessOrEqual t u) = index_in_term c t || index_in_term c u
index_in c (Forall s a) = index_in (suc c) a
index_in c (Exists s a) = index_in (suc c) a
index_in c (Updated u a) = index_in_pairs c u || index_in c a
index_in c (Modal m k a) = index_in c a
index_in c (InLocations o f l) = index_in_term c o || index_in_term c f || index_in_loc c l
index_in c (InInt t) = index_in_term c t
index_in c (WellFormed h) = index_in_term c h
index_in c (Invariant h o) = index_in_term c h || index_in_term c o
index_in c (IsInstance k o) = index_in_term c o
index_in c (IsExactInstance k o) = index_in_term c o

-- ---- where it stands

abbrev pub is_outside : ℕ → PlainFormula → Bool
is_outside c (Not a) = is_outside c a
is_outside c (And a e) = is_outside c a && is_outside c e
is_outside c (Or a e) = is_outside c a && is_outside c e
is_outside c (Implies a e) = is_outside c a && is_outside c e
is_outside c (Iff a e) = is_outside c a && is_outside c e
is_outside c (Forall s a) = is_outside (suc c) a
is_outside c (Exists s a) = is_outside (suc c) a
is_outside c (Updated u a) = not (index_in c a)
is_outside c (Modal m k a) = not (index_in c a)
is_outside c a = true

abbrev pub is_steady : PlainTerm → PlainFormula → Bool
is_steady t a = not (has_variable t) || is_outside 0 a
