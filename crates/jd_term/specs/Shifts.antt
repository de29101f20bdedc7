-- The shift of the variables that binders outside bind: indices from `from` on are raised by `by`.
use Rattle.std.specs.Prelude.{ℕ, ◌+◌, ◌<◌, ◌≤◌, ◌^◌, if◌then◌else◌, nat_lt}
use Rattle.jd_term.specs.Formulas.{PlainFormula, Pairs}
use Rattle.jd_term.specs.Maps.{LeafMap, EachLeafOfLoc, EachLeafOfFormula, EachLeafOfPairs, EachLeaf, map_formula, map_loc, map_pairs, map_term}
use Rattle.jd_term.specs.Terms.{PlainTerm, Bound, PlainLoc}

-- what stands for a leaf where the indices from k on are raised
abbrev pub shift_leaf : ℕ → ℕ → PlainTerm → PlainTerm
shift_leaf by k (Bound i s) = Bound (if nat_lt i k then i else i + by) s
shift_leaf by k t = t

abbrev pub shift_leaves : ℕ → LeafMap
shift_leaves by = record { leaf = shift_leaf by; below = λ k. k + 1 }

abbrev pub term_shift : ℕ → ℕ → PlainTerm → PlainTerm
term_shift from by t = map_term (shift_leaves by) from t

abbrev pub loc_shift : ℕ → ℕ → PlainLoc → PlainLoc
loc_shift from by l = map_loc (shift_leaves by) from l

-- an update's variables are no terms
abbrev pub pairs_shift : ℕ → ℕ → Pairs → Pairs
pairs_shift from by ps = map_pairs (shift_leaves by) from ps

abbrev pub formula_shift : ℕ → ℕ → PlainFormula → PlainFormula
formula_shift from by f = map_formula (shift_leaves by) from f

-- the sums that the shift makes fit 32 bits: those of the indices that it raises
abbrev pub LeafFits : ℕ → ℕ → PlainTerm → Type 0
LeafFits by k (Bound i s) = k ≤ i → i + by < 2 ^ 32
LeafFits by k t = Unit {0}

abbrev pub TermFits : ℕ → ℕ → PlainTerm → Type 0
TermFits from by t = EachLeaf (shift_leaves by).below (LeafFits by) from t

abbrev pub LocFits : ℕ → ℕ → PlainLoc → Type 0
LocFits from by l = EachLeafOfLoc (shift_leaves by).below (LeafFits by) from l

abbrev pub PairsFit : ℕ → ℕ → Pairs → Type 0
PairsFit from by ps = EachLeafOfPairs (shift_leaves by).below (LeafFits by) from ps

abbrev pub ShiftFits : ℕ → ℕ → PlainFormula → Type 0
ShiftFits from by f = EachLeafOfFormula (shift_leaves by).below (LeafFits by) from f
