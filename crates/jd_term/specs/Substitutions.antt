-- A term put for an index. Below n binders the index is n more, and the term's own indices are raised by n; higher indices fall by one
-- (de Bruijn's substitution).
use Rattle.std.specs.Prelude.{ℕ, ◌≡◌, ◌+◌, ◌-◌, if◌then◌else◌, nat_lt}
use Rattle.jd_base.specs.declared.sort.Sort.{Sort}
use Rattle.jd_term.specs.Formulas.{PlainFormula, Pairs}
use Rattle.jd_term.specs.Maps.{LeafMap, EachLeafOfLoc, EachLeafOfFormula, EachLeafOfPairs, EachLeaf, map_formula, map_loc, map_pairs, map_term}
use Rattle.jd_term.specs.Shifts.{TermFits, term_shift}
use Rattle.jd_term.specs.Terms.{PlainTerm, Bound, PlainLoc}

-- what stands for the index k of sort s below n binders, where t is put for the index c
abbrev pub index_subst : ℕ → ℕ → PlainTerm → ℕ → Sort → PlainTerm
index_subst n c t k s = if nat_lt k (c + n) then Bound k s else (if nat_lt (c + n) k then Bound (k - 1) s else term_shift 0 n t)

abbrev pub subst_leaf : ℕ → PlainTerm → ℕ → PlainTerm → PlainTerm
subst_leaf c t n (Bound k s) = index_subst n c t k s
subst_leaf c t n u = u

abbrev pub subst_leaves : ℕ → PlainTerm → LeafMap
subst_leaves c t = record { leaf = subst_leaf c t; below = λ n. n + 1 }

abbrev pub term_subst : ℕ → ℕ → PlainTerm → PlainTerm → PlainTerm
term_subst n c t u = map_term (subst_leaves c t) n u

abbrev pub loc_subst : ℕ → ℕ → PlainTerm → PlainLoc → PlainLoc
loc_subst n c t l = map_loc (subst_leaves c t) n l

-- an update's variables are no terms
abbrev pub pairs_subst : ℕ → ℕ → PlainTerm → Pairs → Pairs
pairs_subst n c t ps = map_pairs (subst_leaves c t) n ps

abbrev pub formula_subst : ℕ → ℕ → PlainTerm → PlainFormula → PlainFormula
formula_subst n c t f = map_formula (subst_leaves c t) n f

-- where the term is put, its own indices, raised by the binders above, fit 32 bits
abbrev pub LeafSubstFits : ℕ → PlainTerm → ℕ → PlainTerm → Type 0
LeafSubstFits c t n (Bound k s) = k ≡ c + n → TermFits 0 n t
LeafSubstFits c t n u = Unit {0}

abbrev pub TermSubstFits : ℕ → ℕ → PlainTerm → PlainTerm → Type 0
TermSubstFits n c t u = EachLeaf (subst_leaves c t).below (LeafSubstFits c t) n u

abbrev pub LocSubstFits : ℕ → ℕ → PlainTerm → PlainLoc → Type 0
LocSubstFits n c t l = EachLeafOfLoc (subst_leaves c t).below (LeafSubstFits c t) n l

abbrev pub PairsSubstFit : ℕ → ℕ → PlainTerm → Pairs → Type 0
PairsSubstFit n c t ps = EachLeafOfPairs (subst_leaves c t).below (LeafSubstFits c t) n ps

abbrev pub SubstFits : ℕ → ℕ → PlainTerm → PlainFormula → Type 0
SubstFits n c t f = EachLeafOfFormula (subst_leaves c t).below (LeafSubstFits c t) n f

-- the index c has the sort r wherever it stands
abbrev pub LeafSortAgrees : Sort → ℕ → PlainTerm → Type 0
LeafSortAgrees r c (Bound k s) = k ≡ c → s ≡ r
LeafSortAgrees r c u = Unit {0}

abbrev pub TermSortsAgree : ℕ → Sort → PlainTerm → Type 0
TermSortsAgree c r u = EachLeaf (λ n. n + 1) (LeafSortAgrees r) c u

abbrev pub LocSortsAgree : ℕ → Sort → PlainLoc → Type 0
LocSortsAgree c r l = EachLeafOfLoc (λ n. n + 1) (LeafSortAgrees r) c l

abbrev pub PairsSortsAgree : ℕ → Sort → Pairs → Type 0
PairsSortsAgree c r ps = EachLeafOfPairs (λ n. n + 1) (LeafSortAgrees r) c ps

abbrev pub SortsAgree : ℕ → Sort → PlainFormula → Type 0
SortsAgree c r f = EachLeafOfFormula (λ n. n + 1) (LeafSortAgrees r) c f
