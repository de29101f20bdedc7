-- Formulas in place of one.
use Rattle.std.proofs.Common.{List, [], add-one, ap, arith, drop, length, map, subst, suc, sym, take, zero, ◌+◌, ◌++◌, ◌<◌, ◌∙◌, ◌∷◌, ◌≡◌, ℕ}
use Rattle.std.proofs.lemmas.List.{map-append}
use Rattle.jd_taclet_scripts.specs.Steps.{instead_of}
use Rattle.jd_term.specs.Formulas.{formula_view}
use Rattle.jd_term.specs.declared.formula.Formula.{Formula}

moved_parts : (fs new : List Formula) (k : ℕ) → k < length fs → map formula_view ((take k (take (suc k) fs) ++ new) ++ drop (suc k) fs) ≡ instead_of (map formula_view fs) (suc k) (map formula_view new)
moved_parts [] new k lt = absurd (omega arith)
moved_parts (g ∷ fs) new zero lt = map-append formula_view new fs
moved_parts (g ∷ fs) new (suc k) lt = ap (λ l. formula_view g ∷ l) (moved_parts fs new k (omega arith))

-- the formulas before the place, those in its stead, and those behind it
pub instead_moved : (fs new made : List Formula) (n k : ℕ) → n ≡ k + 1 → k < length fs → made ≡ (take k (take n fs) ++ new) ++ drop n fs → map formula_view made ≡ instead_of (map formula_view fs) n (map formula_view new)
instead_moved fs new made n k is lt e =
    let next : n ≡ suc k = is ∙ add-one k in
    ap (map formula_view) e ∙ subst (λ j. map formula_view ((take k (take j fs) ++ new) ++ drop j fs) ≡ instead_of (map formula_view fs) j (map formula_view new)) (sym next) (moved_parts fs new k lt)
