-- Formulas that have few nodes together are small, since none is deeper than it is large.
use Rattle.std.proofs.Common.{◌≡◌, ℕ, ◌≤◌, ◌^◌, ◌-◌, min, Bool, true, List, [], ◌∷◌, refl, arith}
use Rattle.std.specs.Prelude.{◌&&◌, sum_by}
use Rattle.std.specs.List.{list_all}
use Rattle.std.proofs.lemmas.Bool.{le-leb}
use Rattle.std.proofs.lemmas.List.Sums.{sum_by-cons}
use Rattle.jd_term.specs.Formulas.{PlainFormula}
use Rattle.jd_term.specs.FormulaSizes.{formula_size, formula_depth}
use Rattle.jd_term.proofs.Depths.{formula_within}
use Rattle.jd_sequent.specs.Limits.{is_small_formula}

and_true : {a b : Bool} → a ≡ true → b ≡ true → (a && b) ≡ true
and_true p q = cc

small : (f : PlainFormula) → formula_size f ≤ 1000 → is_small_formula f ≡ true
small f few = and_true (le-leb (formula_size f) 100000 (omega (arith, few))) (le-leb (formula_depth f) 1000 (omega (arith, few, formula_within f)))

all_small : (fs : List PlainFormula) → sum_by formula_size fs ≤ 1000 → list_all is_small_formula fs ≡ true
all_small [] few = refl
all_small (f ∷ fs) few =
    let both = rw (sum_by-cons formula_size f fs) at few in and_true (small f (omega (arith, both))) (all_small fs (omega (arith, both)))

-- the same by a count that stops at the greatest 64-bit number
pub counted_small : (fs : List PlainFormula) (nodes : ℕ) → nodes ≡ min (sum_by formula_size fs) (2 ^ 64 - 1) → nodes ≤ 1000 → list_all is_small_formula fs ≡ true
counted_small fs nodes is few = all_small fs (omega (arith, is, few))
