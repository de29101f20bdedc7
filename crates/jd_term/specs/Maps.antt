-- Trees with other leaves, and what holds of each leaf: a variable, a constant or an index, at a number that binders may change.
use Rattle.std.specs.Prelude.{ℕ, All, map}
use Rattle.jd_term.specs.Formulas.{PlainFormula, Pairs, TrueFormula, FalseFormula, Not, And, Or, Implies, Iff, Equal, Less, LessOrEqual, Forall, Exists, Updated, Modal, InLocations, InInt, WellFormed, Invariant, IsInstance, IsExactInstance}
use Rattle.jd_term.specs.Terms.{PlainTerm, Number, Boolean, NullTerm, ProgramVariable, Constant, Bound, Arithmetic, Negation, Wrap, Length, Select, Sum, Store, Create, Anon, NamedField, CreatedField, ElementField, PlainLoc, NoLocations, AllLocations, Single, ObjectFields, ArrayElements, ElementRange, Union}

-- what stands for a leaf at a number, and the number below one more binder
pub record LeafMap : Type 0 where
  pub leaf : ℕ → PlainTerm → PlainTerm
  pub below : ℕ → ℕ

module _ (m : LeafMap) where
  abbrev mutual
    pub map_term : ℕ → PlainTerm → PlainTerm
    map_term k (Number n) = Number n
    map_term k (Boolean b) = Boolean b
    map_term k NullTerm = NullTerm
    map_term k (ProgramVariable x) = m.leaf k (ProgramVariable x)
    map_term k (Constant c) = m.leaf k (Constant c)
    map_term k (Bound i s) = m.leaf k (Bound i s)
    map_term k (Arithmetic op a b) = Arithmetic op (map_term k a) (map_term k b)
    map_term k (Negation a) = Negation (map_term k a)
    map_term k (Wrap a) = Wrap (map_term k a)
    map_term k (Length a) = Length (map_term k a)
    map_term k (Select s a b d) = Select s (map_term k a) (map_term k b) (map_term k d)
    map_term k (Sum a b d) = Sum (map_term k a) (map_term k b) (map_term (m.below k) d)
    map_term k (Store a b d e) = Store (map_term k a) (map_term k b) (map_term k d) (map_term k e)
    map_term k (Create a b) = Create (map_term k a) (map_term k b)
    map_term k (Anon a b d) = Anon (map_term k a) (map_loc k b) (map_term k d)
    map_term k (NamedField f) = NamedField f
    map_term k CreatedField = CreatedField
    map_term k (ElementField a) = ElementField (map_term k a)

    pub map_loc : ℕ → PlainLoc → PlainLoc
    map_loc k NoLocations = NoLocations
    map_loc k AllLocations = AllLocations
    map_loc k (Single a b) = Single (map_term k a) (map_term k b)
    map_loc k (ObjectFields a) = ObjectFields (map_term k a)
    map_loc k (ArrayElements a) = ArrayElements (map_term k a)
    map_loc k (ElementRange a b d) = ElementRange (map_term k a) (map_term k b) (map_term k d)
    map_loc k (Union a b) = Union (map_loc k a) (map_loc k b)

  -- an update's variables are no terms
  abbrev pub map_pairs : ℕ → Pairs → Pairs
  map_pairs k ps = map (λ p. (p.0, map_term k p.1)) ps

  abbrev pub map_formula : ℕ → PlainFormula → PlainFormula
  map_formula k TrueFormula = TrueFormula
  map_formula k FalseFormula = FalseFormula
  map_formula k (Not a) = Not (map_formula k a)
  map_formula k (And a b) = And (map_formula k a) (map_formula k b)
  map_formula k (Or a b) = Or (map_formula k a) (map_formula k b)
  map_formula k (Implies a b) = Implies (map_formula k a) (map_formula k b)
  map_formula k (Iff a b) = Iff (map_formula k a) (map_formula k b)
  map_formula k (Equal a b) = Equal (map_term k a) (map_term k b)
  map_formula k (Less a b) = Less (map_term k a) (map_term k b)
  map_formula k (LessOrEqual a b) = LessOrEqual (map_term k a) (map_term k b)
  map_formula k (Forall s a) = Forall s (map_formula (m.below k) a)
  map_formula k (Exists s a) = Exists s (map_formula (m.below k) a)
  map_formula k (Updated a b) = Updated (map_pairs k a) (map_formula k b)
  map_formula k (Modal m c a) = Modal m c (map_formula k a)
  map_formula k (InLocations a b d) = InLocations (map_term k a) (map_term k b) (map_loc k d)
  map_formula k (InInt a) = InInt (map_term k a)
  map_formula k (WellFormed a) = WellFormed (map_term k a)
  map_formula k (Invariant a b) = Invariant (map_term k a) (map_term k b)
  map_formula k (IsInstance w a) = IsInstance w (map_term k a)
  map_formula k (IsExactInstance w a) = IsExactInstance w (map_term k a)

-- the leaves stay, whatever the binders
abbrev pub unchanged_leaves : LeafMap
unchanged_leaves = record { leaf = λ k t. t; below = λ k. k }

-- at every leaf
abbrev pub Anything : ℕ → PlainTerm → Type 0
Anything k t = Unit {0}

-- each leaf fits its number, which `below` gives below one more binder
module _ (below : ℕ → ℕ) (Fits : ℕ → PlainTerm → Type 0) where
  abbrev mutual
    pub EachLeaf : ℕ → PlainTerm → Type 0
    EachLeaf k (Number n) = Unit {0}
    EachLeaf k (Boolean b) = Unit {0}
    EachLeaf k NullTerm = Unit {0}
    EachLeaf k (ProgramVariable x) = Fits k (ProgramVariable x)
    EachLeaf k (Constant c) = Fits k (Constant c)
    EachLeaf k (Bound i s) = Fits k (Bound i s)
    EachLeaf k (Arithmetic op a b) = EachLeaf k a × EachLeaf k b
    EachLeaf k (Negation a) = EachLeaf k a
    EachLeaf k (Wrap a) = EachLeaf k a
    EachLeaf k (Length a) = EachLeaf k a
    EachLeaf k (Select s a b d) = EachLeaf k a × EachLeaf k b × EachLeaf k d
    EachLeaf k (Sum a b d) = EachLeaf k a × EachLeaf k b × EachLeaf (below k) d
    EachLeaf k (Store a b d e) = EachLeaf k a × EachLeaf k b × EachLeaf k d × EachLeaf k e
    EachLeaf k (Create a b) = EachLeaf k a × EachLeaf k b
    EachLeaf k (Anon a b d) = EachLeaf k a × EachLeafOfLoc k b × EachLeaf k d
    EachLeaf k (NamedField f) = Unit {0}
    EachLeaf k CreatedField = Unit {0}
    EachLeaf k (ElementField a) = EachLeaf k a

    pub EachLeafOfLoc : ℕ → PlainLoc → Type 0
    EachLeafOfLoc k NoLocations = Unit {0}
    EachLeafOfLoc k AllLocations = Unit {0}
    EachLeafOfLoc k (Single a b) = EachLeaf k a × EachLeaf k b
    EachLeafOfLoc k (ObjectFields a) = EachLeaf k a
    EachLeafOfLoc k (ArrayElements a) = EachLeaf k a
    EachLeafOfLoc k (ElementRange a b d) = EachLeaf k a × EachLeaf k b × EachLeaf k d
    EachLeafOfLoc k (Union a b) = EachLeafOfLoc k a × EachLeafOfLoc k b

  abbrev pub EachLeafOfPairs : ℕ → Pairs → Type 0
  EachLeafOfPairs k ps = All (λ p. EachLeaf k p.1) ps

  abbrev pub EachLeafOfFormula : ℕ → PlainFormula → Type 0
  EachLeafOfFormula k TrueFormula = Unit {0}
  EachLeafOfFormula k FalseFormula = Unit {0}
  EachLeafOfFormula k (Not a) = EachLeafOfFormula k a
  EachLeafOfFormula k (And a b) = EachLeafOfFormula k a × EachLeafOfFormula k b
  EachLeafOfFormula k (Or a b) = EachLeafOfFormula k a × EachLeafOfFormula k b
  EachLeafOfFormula k (Implies a b) = EachLeafOfFormula k a × EachLeafOfFormula k b
  EachLeafOfFormula k (Iff a b) = EachLeafOfFormula k a × EachLeafOfFormula k b
  EachLeafOfFormula k (Equal a b) = EachLeaf k a × EachLeaf k b
  EachLeafOfFormula k (Less a b) = EachLeaf k a × EachLeaf k b
  EachLeafOfFormula k (LessOrEqual a b) = EachLeaf k a × EachLeaf k b
  EachLeafOfFormula k (Forall s a) = EachLeafOfFormula (below k) a
  EachLeafOfFormula k (Exists s a) = EachLeafOfFormula (below k) a
  EachLeafOfFormula k (Updated a b) = EachLeafOfPairs k a × EachLeafOfFormula k b
  EachLeafOfFormula k (Modal m c a) = EachLeafOfFormula k a
  EachLeafOfFormula k (InLocations a b d) = EachLeaf k a × EachLeaf k b × EachLeafOfLoc k d
  EachLeafOfFormula k (InInt a) = EachLeaf k a
  EachLeafOfFormula k (WellFormed a) = EachLeaf k a
  EachLeafOfFormula k (Invariant a b) = EachLeaf k a × EachLeaf k b
  EachLeafOfFormula k (IsInstance w a) = EachLeaf k a
  EachLeafOfFormula k (IsExactInstance w a) = EachLeaf k a
