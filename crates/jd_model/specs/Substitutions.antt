-- Indices of bound variables: raising those from a cut on, and a term in place of one.
use Rattle.std.specs.Prelude.{if◌then◌else◌, nat_lt, ◌-◌, false, cond, pos, ◌≢◌, ℕ, suc, ◌+◌, ◌⊎◌, [], ◌∷◌}
use Rattle.jd_base.specs.declared.sort.Sort.{Sort}
use Rattle.jd_base.specs.declared.sort.Sort.TheVariants.{Int as IntSort, Bool as BoolSort, Ref as RefSort, Heap as HeapSort, Field as FieldSort}
use Rattle.jd_heap.specs.Codings.{same}
use Rattle.jd_model.specs.NameCodings.{sort_coding}
use Rattle.jd_model.specs.Occurrences.{TermIn}
use Rattle.jd_term.specs.Formulas.{Pairs, PlainFormula, TrueFormula, FalseFormula, Not, And, Or, Implies, Iff, Equal, Less, LessOrEqual, Forall, Exists, Updated, Modal, InLocations, InInt, WellFormed, Invariant, IsInstance, IsExactInstance}
use Rattle.jd_term.specs.Shifts.{term_shift}
use Rattle.jd_term.specs.Terms.{PlainTerm, sort_of_term, Number, Boolean, NullTerm, ProgramVariable, Constant, Bound, Arithmetic, Negation, Wrap, Length, Select, Sum, Store, Create, Anon, NamedField, CreatedField, ElementField, PlainLoc, NoLocations, AllLocations, Single, ObjectFields, ArrayElements, ElementRange, Union}

-- a term of a sort
abbrev pub plain_term : Sort → PlainTerm
plain_term IntSort = Number (pos 0)
plain_term BoolSort = Boolean false
plain_term RefSort = NullTerm
plain_term HeapSort = Bound 0 HeapSort
plain_term FieldSort = CreatedField

-- the term as it is put for an index of a sort: where the sorts differ, which no formula that is read gives, a term of the index's sort
abbrev pub fitted : ℕ → Sort → PlainTerm → PlainTerm
fitted up HeapSort t = Bound 0 HeapSort
fitted up s t = cond (same sort_coding s (sort_of_term t)) (term_shift 0 up t) (plain_term s)

-- what stands for the index k where t is put for the index c: t itself, below c binders; higher indices fall by one
abbrev pub put_index : ℕ → PlainTerm → ℕ → Sort → PlainTerm
put_index c t k s = if nat_lt k c then Bound k s else (if nat_lt c k then Bound (k - 1) s else fitted c s t)

abbrev mutual
  pub subst_term : ℕ → PlainTerm → PlainTerm → PlainTerm
  subst_term c r (Number z) = Number z
  subst_term c r (Boolean x) = Boolean x
  subst_term c r NullTerm = NullTerm
  subst_term c r (ProgramVariable x) = ProgramVariable x
  subst_term c r (Constant x) = Constant x
  subst_term c r (Bound k s) = put_index c r k s
  subst_term c r (Arithmetic op t u) = Arithmetic op (subst_term c r t) (subst_term c r u)
  subst_term c r (Negation t) = Negation (subst_term c r t)
  subst_term c r (Wrap t) = Wrap (subst_term c r t)
  subst_term c r (Length t) = Length (subst_term c r t)
  subst_term c r (Select s h o f) = Select s (subst_term c r h) (subst_term c r o) (subst_term c r f)
  subst_term c r (Sum t u a) = Sum (subst_term c r t) (subst_term c r u) (subst_term (c + 1) r a)
  subst_term c r (Store h o f t) = Store (subst_term c r h) (subst_term c r o) (subst_term c r f) (subst_term c r t)
  subst_term c r (Create h o) = Create (subst_term c r h) (subst_term c r o)
  subst_term c r (Anon h l g) = Anon (subst_term c r h) (subst_loc c r l) (subst_term c r g)
  subst_term c r (NamedField f) = NamedField f
  subst_term c r CreatedField = CreatedField
  subst_term c r (ElementField t) = ElementField (subst_term c r t)

  pub subst_loc : ℕ → PlainTerm → PlainLoc → PlainLoc
  subst_loc c r NoLocations = NoLocations
  subst_loc c r AllLocations = AllLocations
  subst_loc c r (Single o f) = Single (subst_term c r o) (subst_term c r f)
  subst_loc c r (ObjectFields o) = ObjectFields (subst_term c r o)
  subst_loc c r (ArrayElements o) = ArrayElements (subst_term c r o)
  subst_loc c r (ElementRange o t u) = ElementRange (subst_term c r o) (subst_term c r t) (subst_term c r u)
  subst_loc c r (Union l m) = Union (subst_loc c r l) (subst_loc c r m)

abbrev pub subst_pairs : ℕ → PlainTerm → Pairs → Pairs
subst_pairs c r [] = []
subst_pairs c r (e ∷ u) = (e.0, subst_term c r e.1) ∷ subst_pairs c r u

abbrev pub subst_formula : ℕ → PlainTerm → PlainFormula → PlainFormula
subst_formula c r TrueFormula = TrueFormula
subst_formula c r FalseFormula = FalseFormula
subst_formula c r (Not a) = Not (subst_formula c r a)
subst_formula c r (And a e) = And (subst_formula c r a) (subst_formula c r e)
subst_formula c r (Or a e) = Or (subst_formula c r a) (subst_formula c r e)
subst_formula c r (Implies a e) = Implies (subst_formula c r a) (subst_formula c r e)
subst_formula c r (Iff a e) = Iff (subst_formula c r a) (subst_formula c r e)
subst_formula c r (Equal t u) = Equal (subst_term c r t) (subst_term c r u)
subst_formula c r (Less t u) = Less (subst_term c r t) (subst_term c r u)
subst_formula c r (LessOrEqual t u) = LessOrEqual (subst_term c r t) (subst_term c r u)
subst_formula c r (Forall s a) = Forall s (subst_formula (c + 1) r a)
subst_formula c r (Exists s a) = Exists s (subst_formula (c + 1) r a)
subst_formula c r (Updated u a) = Updated (subst_pairs c r u) (subst_formula c r a)
subst_formula c r (Modal m k a) = Modal m k (subst_formula c r a)
subst_formula c r (InLocations o f l) = InLocations (subst_term c r o) (subst_term c r f) (subst_loc c r l)
subst_formula c r (InInt t) = InInt (subst_term c r t)
subst_formula c r (WellFormed h) = WellFormed (subst_term c r h)
subst_formula c r (Invariant h o) = Invariant (subst_term c r h) (subst_term c r o)
subst_formula c r (IsInstance k o) = IsInstance k (subst_term c r o)
subst_formula c r (IsExactInstance k o) = IsExactInstance k (subst_term c r o)

-- the index c stands nowhere
abbrev mutual
  pub NotBound : ℕ → PlainTerm → Type 0
  NotBound c (Number z) = Unit {0}
  NotBound c (Boolean x) = Unit {0}
  NotBound c NullTerm = Unit {0}
  NotBound c (ProgramVariable x) = Unit {0}
  NotBound c (Constant x) = Unit {0}
  NotBound c (Bound k s) = k ≢ c
  NotBound c (Arithmetic op t u) = NotBound c t × NotBound c u
  NotBound c (Negation t) = NotBound c t
  NotBound c (Wrap t) = NotBound c t
  NotBound c (Length t) = NotBound c t
  NotBound c (Select s h o f) = NotBound c h × NotBound c o × NotBound c f
  NotBound c (Sum t u a) = NotBound c t × NotBound c u × NotBound (suc c) a
  NotBound c (Store h o f t) = NotBound c h × NotBound c o × NotBound c f × NotBound c t
  NotBound c (Create h o) = NotBound c h × NotBound c o
  NotBound c (Anon h l g) = NotBound c h × NotBoundLoc c l × NotBound c g
  NotBound c (NamedField f) = Unit {0}
  NotBound c CreatedField = Unit {0}
  NotBound c (ElementField t) = NotBound c t

  pub NotBoundLoc : ℕ → PlainLoc → Type 0
  NotBoundLoc c NoLocations = Unit {0}
  NotBoundLoc c AllLocations = Unit {0}
  NotBoundLoc c (Single o f) = NotBound c o × NotBound c f
  NotBoundLoc c (ObjectFields o) = NotBound c o
  NotBoundLoc c (ArrayElements o) = NotBound c o
  NotBoundLoc c (ElementRange o t u) = NotBound c o × NotBound c t × NotBound c u
  NotBoundLoc c (Union l m) = NotBoundLoc c l × NotBoundLoc c m

abbrev pub NotBoundPairs : ℕ → Pairs → Type 0
NotBoundPairs c [] = Unit {0}
NotBoundPairs c (e ∷ u) = NotBound c e.1 × NotBoundPairs c u

abbrev pub NotBoundIn : ℕ → PlainFormula → Type 0
NotBoundIn c TrueFormula = Unit {0}
NotBoundIn c FalseFormula = Unit {0}
NotBoundIn c (Not a) = NotBoundIn c a
NotBoundIn c (And a e) = NotBoundIn c a × NotBoundIn c e
NotBoundIn c (Or a e) = NotBoundIn c a × NotBoundIn c e
NotBoundIn c (Implies a e) = NotBoundIn c a × NotBoundIn c e
NotBoundIn c (Iff a e) = NotBoundIn c a × NotBoundIn c e
NotBoundIn c (Equal t u) = NotBound c t × NotBound c u
NotBoundIn c (Less t u) = NotBound c t × NotBound c u
NotBoundIn c (LessOrEqual t u) = NotBound c t × NotBound c u
NotBoundIn c (Forall s a) = NotBoundIn (suc c) a
NotBoundIn c (Exists s a) = NotBoundIn (suc c) a
NotBoundIn c (Updated u a) = NotBoundPairs c u × NotBoundIn c a
NotBoundIn c (Modal m k a) = NotBoundIn c a
NotBoundIn c (InLocations o f l) = NotBound c o × NotBound c f × NotBoundLoc c l
NotBoundIn c (InInt t) = NotBound c t
NotBoundIn c (WellFormed h) = NotBound c h
NotBoundIn c (Invariant h o) = NotBound c h × NotBound c o
NotBoundIn c (IsInstance k o) = NotBound c o
NotBoundIn c (IsExactInstance k o) = NotBound c o

-- the index c stands in no update's body and no modality's formula
abbrev pub Outside : ℕ → PlainFormula → Type 0
Outside c (Not a) = Outside c a
Outside c (And a e) = Outside c a × Outside c e
Outside c (Or a e) = Outside c a × Outside c e
Outside c (Implies a e) = Outside c a × Outside c e
Outside c (Iff a e) = Outside c a × Outside c e
Outside c (Forall s a) = Outside (suc c) a
Outside c (Exists s a) = Outside (suc c) a
Outside c (Updated u a) = NotBoundIn c a
Outside c (Modal m k a) = NotBoundIn c a
Outside c a = Unit {0}

abbrev pub NoVariable : PlainTerm → Type 0
NoVariable t = TermIn (λ _. ⊥) (λ _. Unit {0}) t

-- the term may be put for the index: it has no program variable, or the index stands where no state changes
abbrev pub Steady : ℕ → PlainTerm → PlainFormula → Type 0
Steady c t a = NoVariable t ⊎ Outside c a
