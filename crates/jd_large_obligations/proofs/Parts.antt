-- A formula is no larger than what it is a part of.
use Rattle.std.proofs.Common.{◌≡◌, inl, inr, ◌<◌, ◌≤◌, ℕ, Bool, true, false, ◌&&◌, List, [], ◌∷◌, ◌++◌, refl, arith}
use Rattle.std.specs.Prelude.{nat_le}
use Rattle.std.proofs.lemmas.Bool.{leb-true}
use Rattle.jd_syntax.specs.Codes.{PlainCode}
use Rattle.jd_term.specs.declared.formula.Modality.{Modality}
use Rattle.jd_term.specs.Formulas.{PlainFormula, Pairs, And, Implies, Modal, Updated}
use Rattle.jd_term.specs.FormulaSizes.{formula_depth, formula_size}
use Rattle.jd_term.specs.Terms.{Constant, PlainLoc, NoLocations, AllLocations, Single, ObjectFields, ArrayElements, ElementRange, Union}
use Rattle.jd_term.specs.TermSizes.{loc_depth}
use Rattle.jd_model.specs.Conjunctions.{conjunction, frame}
use Rattle.jd_model.specs.SpecialNames.{entry_heap}
use Rattle.jd_oblig.specs.CaseObligations.{frame_members}
use Rattle.jd_sequent.specs.Limits.{is_small_formula}
use Rattle.jd_case_clauses.specs.Said.{IsLarge, OneIsLarge, level_limit}
use Rattle.jd_large_obligations.specs.Laws.{node_limit}
use Rattle.jd_large_obligations.proofs.Levels.{loc_levels}

abbrev IsPart : PlainFormula → PlainFormula → Type 0
IsPart a b = (formula_size a ≤ formula_size b) × (formula_depth a ≤ formula_depth b)

module _ (limit : ℕ) where
  large_whole : (a b : PlainFormula) → IsPart a b → IsLarge limit a → IsLarge limit b
  large_whole a b part (inl many) = inl (omega (arith, part.0, many))
  large_whole a b part (inr deep) = inr (omega (arith, part.1, deep))

  large_left : (a b : PlainFormula) → IsLarge limit a → IsLarge limit (And a b)
  large_left a b large = large_whole a (And a b) (omega arith, omega arith) large

  large_right : (a b : PlainFormula) → IsLarge limit b → IsLarge limit (And a b)
  large_right a b large = large_whole b (And a b) (omega arith, omega arith) large

  pub large_implied : (a b : PlainFormula) → IsLarge limit b → IsLarge limit (Implies a b)
  large_implied a b large = large_whole b (Implies a b) (omega arith, omega arith) large

  pub large_updated : (u : Pairs) (a : PlainFormula) → IsLarge limit a → IsLarge limit (Updated u a)
  large_updated u a large = large_whole a (Updated u a) (omega arith, omega arith) large

  pub large_modal : (m : Modality) (c : PlainCode) (a : PlainFormula) → IsLarge limit a → IsLarge limit (Modal m c a)
  large_modal m c a large = large_whole a (Modal m c a) (omega arith, omega arith) large

  -- ---- one of a list

  pub large_conjunction : (l : List PlainFormula) → OneIsLarge limit l → IsLarge limit (conjunction l)
  large_conjunction [] one = absurd one
  large_conjunction (a ∷ []) (inl large) = large
  large_conjunction (a ∷ []) (inr none) = absurd none
  large_conjunction (a ∷ (b ∷ l)) (inl large) = large_left a (conjunction (b ∷ l)) large
  large_conjunction (a ∷ (b ∷ l)) (inr one) = large_right a (conjunction (b ∷ l)) (large_conjunction (b ∷ l) one)

  pub one_before : (l more : List PlainFormula) → OneIsLarge limit l → OneIsLarge limit (l ++ more)
  one_before [] more one = absurd one
  one_before (a ∷ l) more (inl large) = inl large
  one_before (a ∷ l) more (inr one) = inr (one_before l more one)

  pub one_behind : (front l : List PlainFormula) → OneIsLarge limit l → OneIsLarge limit (front ++ l)
  one_behind [] l one = one
  one_behind (a ∷ front) l one = inr (one_behind front l one)

  -- ---- frames

  large_frame : (l : PlainLoc) → level_limit < loc_depth l → IsLarge limit (frame l (Constant entry_heap))
  large_frame l deep = inr (omega (arith, loc_levels 2 0 l, deep))

  pub one_frame : (l : PlainLoc) → level_limit < loc_depth l → OneIsLarge limit (frame_members l)
  one_frame NoLocations deep = inl (large_frame NoLocations deep)
  one_frame AllLocations deep = absurd (omega (arith, deep))
  one_frame (Single a b) deep = inl (large_frame (Single a b) deep)
  one_frame (ObjectFields a) deep = inl (large_frame (ObjectFields a) deep)
  one_frame (ArrayElements a) deep = inl (large_frame (ArrayElements a) deep)
  one_frame (ElementRange a b d) deep = inl (large_frame (ElementRange a b d) deep)
  one_frame (Union a b) deep = inl (large_frame (Union a b) deep)

-- ---- what is large is not small

pub and_left : (a b : Bool) → (a && b) ≡ true → a ≡ true
and_left true b is = refl
and_left false b is = is

and_right : (a b : Bool) → (a && b) ≡ true → b ≡ true
and_right true b is = is
and_right false b is = absurd cc

pub not_small : (a : PlainFormula) → is_small_formula a ≡ true → IsLarge node_limit a → ⊥
not_small a small (inl many) = omega (arith, leb-true (formula_size a) node_limit (and_left (nat_le (formula_size a) node_limit) (nat_le (formula_depth a) level_limit) small), many)
not_small a small (inr deep) = omega (arith, leb-true (formula_depth a) level_limit (and_right (nat_le (formula_size a) node_limit) (nat_le (formula_depth a) level_limit) small), deep)
