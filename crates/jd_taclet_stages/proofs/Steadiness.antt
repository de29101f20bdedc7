-- Whether a term may be put for an index is decided by the test.
use Rattle.std.proofs.Common.{Decides, [], ne_eqb, not, suc, true≢false, ◌∷◌, ℕ}
use Rattle.std.proofs.lemmas.Bool.{eqb-false}
use Rattle.jd_model.specs.Occurrences.{LocIn}
use Rattle.jd_model.specs.Substitutions.{NoVariable, NotBound, NotBoundIn, NotBoundLoc, NotBoundPairs, Outside, Steady}
use Rattle.jd_taclet_stages.proofs.Deciding.{Misses, always, both, either, four, negated, nowhere, three, two}
use Rattle.jd_taclet_stages.specs.Steadiness.{any_variable, has_variable, index_in, index_in_loc, index_in_pairs, index_in_term, is_outside, is_steady}
use Rattle.jd_term.specs.Folds.{fold_loc}
use Rattle.jd_term.specs.Formulas.{PlainFormula, Pairs, TrueFormula, FalseFormula, Not, And, Or, Implies, Iff, Equal, Less, LessOrEqual, Forall, Exists, Updated, Modal, InLocations, InInt, WellFormed, Invariant, IsInstance, IsExactInstance}
use Rattle.jd_term.specs.Terms.{PlainTerm, Number, Boolean, NullTerm, ProgramVariable, Constant, Bound, Arithmetic, Negation, Wrap, Length, Select, Sum, Store, Create, Anon, NamedField, CreatedField, ElementField, PlainLoc, NoLocations, AllLocations, Single, ObjectFields, ArrayElements, ElementRange, Union}

-- ---- program variables

mutual
  variable_misses : (t : PlainTerm) → Misses (has_variable t) (NoVariable t)
  variable_misses (Number z) = nowhere
  variable_misses (Boolean x) = nowhere
  variable_misses NullTerm = nowhere
  variable_misses (ProgramVariable x) = (λ e. true≢false e, λ h. absurd h)
  variable_misses (Constant x) = nowhere
  variable_misses (Bound k s) = nowhere
  variable_misses (Arithmetic op t u) = two _ _ _ _ (variable_misses t) (variable_misses u)
  variable_misses (Negation t) = variable_misses t
  variable_misses (Wrap t) = variable_misses t
  variable_misses (Length t) = variable_misses t
  variable_misses (Select s h o f) = three _ _ _ _ _ _ (variable_misses h) (variable_misses o) (variable_misses f)
  variable_misses (Sum t u a) = three _ _ _ _ _ _ (variable_misses t) (variable_misses u) (variable_misses a)
  variable_misses (Store h o f t) = four _ _ _ _ _ _ _ _ (variable_misses h) (variable_misses o) (variable_misses f) (variable_misses t)
  variable_misses (Create h o) = two _ _ _ _ (variable_misses h) (variable_misses o)
  variable_misses (Anon h l g) = three _ _ _ _ _ _ (variable_misses h) (no_variable_in l) (variable_misses g)
  variable_misses (NamedField f) = nowhere
  variable_misses CreatedField = nowhere
  variable_misses (ElementField t) = variable_misses t

  no_variable_in : (l : PlainLoc) → Misses (fold_loc any_variable l) (LocIn (λ _. ⊥) (λ _. Unit {0}) l)
  no_variable_in NoLocations = nowhere
  no_variable_in AllLocations = nowhere
  no_variable_in (Single o f) = two _ _ _ _ (variable_misses o) (variable_misses f)
  no_variable_in (ObjectFields o) = variable_misses o
  no_variable_in (ArrayElements o) = variable_misses o
  no_variable_in (ElementRange o t u) = three _ _ _ _ _ _ (variable_misses o) (variable_misses t) (variable_misses u)
  no_variable_in (Union l m) = two _ _ _ _ (no_variable_in l) (no_variable_in m)

-- ---- an index

mutual
  term_misses : (c : ℕ) (t : PlainTerm) → Misses (index_in_term c t) (NotBound c t)
  term_misses c (Number z) = nowhere
  term_misses c (Boolean x) = nowhere
  term_misses c NullTerm = nowhere
  term_misses c (ProgramVariable x) = nowhere
  term_misses c (Constant x) = nowhere
  term_misses c (Bound k s) = (eqb-false k c, ne_eqb k c)
  term_misses c (Arithmetic op t u) = two _ _ _ _ (term_misses c t) (term_misses c u)
  term_misses c (Negation t) = term_misses c t
  term_misses c (Wrap t) = term_misses c t
  term_misses c (Length t) = term_misses c t
  term_misses c (Select s h o f) = three _ _ _ _ _ _ (term_misses c h) (term_misses c o) (term_misses c f)
  term_misses c (Sum t u a) = three _ _ _ _ _ _ (term_misses c t) (term_misses c u) (term_misses (suc c) a)
  term_misses c (Store h o f t) = four _ _ _ _ _ _ _ _ (term_misses c h) (term_misses c o) (term_misses c f) (term_misses c t)
  term_misses c (Create h o) = two _ _ _ _ (term_misses c h) (term_misses c o)
  term_misses c (Anon h l g) = three _ _ _ _ _ _ (term_misses c h) (loc_misses c l) (term_misses c g)
  term_misses c (NamedField f) = nowhere
  term_misses c CreatedField = nowhere
  term_misses c (ElementField t) = term_misses c t

  loc_misses : (c : ℕ) (l : PlainLoc) → Misses (index_in_loc c l) (NotBoundLoc c l)
  loc_misses c NoLocations = nowhere
  loc_misses c AllLocations = nowhere
  loc_misses c (Single o f) = two _ _ _ _ (term_misses c o) (term_misses c f)
  loc_misses c (ObjectFields o) = term_misses c o
  loc_misses c (ArrayElements o) = term_misses c o
  loc_misses c (ElementRange o t u) = three _ _ _ _ _ _ (term_misses c o) (term_misses c t) (term_misses c u)
  loc_misses c (Union l m) = two _ _ _ _ (loc_misses c l) (loc_misses c m)

pairs_miss : (c : ℕ) (u : Pairs) → Misses (index_in_pairs c u) (NotBoundPairs c u)
pairs_miss c [] = nowhere
pairs_miss c (e ∷ u) = two _ _ _ _ (term_misses c e.1) (pairs_miss c u)

formula_misses : (c : ℕ) (a : PlainFormula) → Misses (index_in c a) (NotBoundIn c a)
formula_misses c TrueFormula = nowhere
formula_misses c FalseFormula = nowhere
formula_misses c (Not a) = formula_misses c a
formula_misses c (And a e) = two _ _ _ _ (formula_misses c a) (formula_misses c e)
formula_misses c (Or a e) = two _ _ _ _ (formula_misses c a) (formula_misses c e)
formula_misses c (Implies a e) = two _ _ _ _ (formula_misses c a) (formula_misses c e)
formula_misses c (Iff a e) = two _ _ _ _ (formula_misses c a) (formula_misses c e)
formula_misses c (Equal t u) = two _ _ _ _ (term_misses c t) (term_misses c u)
formula_misses c (Less t u) = two _ _ _ _ (term_misses c t) (term_misses c u)
formula_misses c (LessOrEqual t u) = two _ _ _ _ (term_misses c t) (term_misses c u)
formula_misses c (Forall s a) = formula_misses (suc c) a
formula_misses c (Exists s a) = formula_misses (suc c) a
formula_misses c (Updated u a) = two _ _ _ _ (pairs_miss c u) (formula_misses c a)
formula_misses c (Modal m k a) = formula_misses c a
formula_misses c (InLocations o f l) = three _ _ _ _ _ _ (term_misses c o) (term_misses c f) (loc_misses c l)
formula_misses c (InInt t) = term_misses c t
formula_misses c (WellFormed h) = term_misses c h
formula_misses c (Invariant h o) = two _ _ _ _ (term_misses c h) (term_misses c o)
formula_misses c (IsInstance k o) = term_misses c o
formula_misses c (IsExactInstance k o) = term_misses c o

-- ---- where it stands

outside : (c : ℕ) (a : PlainFormula) → Decides (is_outside c a) (Outside c a)
outside c (Not a) = outside c a
outside c (And a e) = both _ _ _ _ (outside c a) (outside c e)
outside c (Or a e) = both _ _ _ _ (outside c a) (outside c e)
outside c (Implies a e) = both _ _ _ _ (outside c a) (outside c e)
outside c (Iff a e) = both _ _ _ _ (outside c a) (outside c e)
outside c (Forall s a) = outside (suc c) a
outside c (Exists s a) = outside (suc c) a
outside c (Updated u a) = negated _ _ (formula_misses c a)
outside c (Modal m k a) = negated _ _ (formula_misses c a)
outside c a = always

pub steady_decides : (t : PlainTerm) (a : PlainFormula) → Decides (is_steady t a) (Steady 0 t a)
steady_decides t a = either (not (has_variable t)) (is_outside 0 a) (NoVariable t) (Outside 0 a) (negated (has_variable t) (NoVariable t) (variable_misses t)) (outside 0 a)
