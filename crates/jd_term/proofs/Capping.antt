-- What is counted in 64 bits is the number itself, or the greatest of 64 bits.
use Rattle.std.proofs.Common.{◌≡◌, ◌+◌, ◌-◌, ◌^◌, ℕ, max, min, refl, arith}
use Rattle.jd_term.specs.Capped.{capped_levels, capped_trees}
use Rattle.jd_term.specs.Folds.{fold_formula, fold_term}
use Rattle.jd_term.specs.Formulas.{PlainFormula}
use Rattle.jd_term.specs.FormulaSizes.{formula_depth, formula_size}
use Rattle.jd_term.specs.Terms.{PlainTerm}
use Rattle.jd_term.specs.TermSizes.{counted_levels, counted_trees, term_depth, term_size}
use Rattle.jd_term.proofs.Related.{related_formula, related_term}

both_capped : (m a b c d : ℕ) → c ≡ min a m → d ≡ min b m → min (c + d) m ≡ min (a + b) m
both_capped m a b c d p q = omega (arith, p, q)

greater_capped : (m a b c d : ℕ) → c ≡ min a m → d ≡ min b m → max c d ≡ min (max a b) m
greater_capped m a b c d p q = omega (arith, p, q)

one_capped : (m a c : ℕ) → c ≡ min a m → min (c + 1) m ≡ min (1 + a) m
one_capped m a c p = omega (arith, p)

abbrev most : ℕ
most = 2 ^ 64 - 1

abbrev IsCapped : ℕ → ℕ → Type 0
IsCapped a c = c ≡ min a most

pub term_size_capped : (t : PlainTerm) → fold_term capped_trees t ≡ min (term_size t) (2 ^ 64 - 1)
term_size_capped t =
    related_term IsCapped counted_trees capped_trees refl (both_capped most) (λ u. one_capped most) (λ l. one_capped most) (λ f. one_capped most) (λ x a c e. e) (λ c. refl) t

pub formula_size_capped : (f : PlainFormula) → fold_formula capped_trees f ≡ min (formula_size f) (2 ^ 64 - 1)
formula_size_capped f =
    related_formula IsCapped counted_trees capped_trees refl (both_capped most) (λ u. one_capped most) (λ l. one_capped most) (λ h. one_capped most) (λ x a c e. e) (λ c. refl) f

pub term_depth_capped : (t : PlainTerm) → fold_term capped_levels t ≡ min (term_depth t) (2 ^ 64 - 1)
term_depth_capped t =
    related_term IsCapped counted_levels capped_levels refl (greater_capped most) (λ u. one_capped most) (λ l. one_capped most) (λ f. one_capped most) (λ x a c e. e) (λ c. refl) t

pub formula_depth_capped : (f : PlainFormula) → fold_formula capped_levels f ≡ min (formula_depth f) (2 ^ 64 - 1)
formula_depth_capped f =
    related_formula IsCapped counted_levels capped_levels refl (greater_capped most) (λ u. one_capped most) (λ l. one_capped most) (λ h. one_capped most) (λ x a c e. e) (λ c. refl) f
