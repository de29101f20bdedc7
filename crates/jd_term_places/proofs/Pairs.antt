-- An update's pairs one after the other, with a term below the one of a number.
use Rattle.std.proofs.Common.{List, [], ◌∙◌, ◌∷◌, ◌≡◌, ap, cond, refl, suc, zero, ℕ}
use Rattle.std.proofs.Math.Dec.{eqb-suc-suc, eqb-suc-zero, eqb-zero-suc}
use Rattle.std.specs.Prelude.{nat_eq}
use Rattle.jd_syntax.specs.Names.{Name}
use Rattle.jd_term.specs.Formulas.{Pairs}
use Rattle.jd_term.specs.Terms.{PlainTerm}
use Rattle.jd_taclet_steps.specs.PutTerms.{put_pairs, put_term}

-- one of them, of which so many stand before
abbrev pub pair_with : ℕ → ℕ → List ℕ → PlainTerm → Name × PlainTerm → Name × PlainTerm
pair_with k i path new p = cond (nat_eq k (suc i)) (p.0, put_term path new p.1) p

abbrev pub pairs_from : ℕ → ℕ → List ℕ → PlainTerm → Pairs → Pairs
pairs_from k i path new [] = []
pairs_from k i path new (p ∷ u) = pair_with k i path new p ∷ pairs_from k (suc i) path new u

module _ (path : List ℕ) (new : PlainTerm) where
  -- counted from a later one on
  later : (k i : ℕ) (u : Pairs) → pairs_from (suc k) (suc i) path new u ≡ pairs_from k i path new u
  later k i [] = refl
  later k i (p ∷ u) =
      ap (λ b. cond b (p.0, put_term path new p.1) p ∷ pairs_from (suc k) (suc (suc i)) path new u) (eqb-suc-suc k (suc i))
      ∙ ap (λ l. pair_with k i path new p ∷ l) (later k (suc i) u)

  none : (i : ℕ) (u : Pairs) → pairs_from 0 i path new u ≡ u
  none i [] = refl
  none i (p ∷ u) = ap (λ b. cond b (p.0, put_term path new p.1) p ∷ pairs_from 0 (suc i) path new u) (eqb-zero-suc i) ∙ ap (λ l. p ∷ l) (none (suc i) u)

  pub all_pairs : (k : ℕ) (u : Pairs) → pairs_from k 0 path new u ≡ put_pairs k path new u
  all_pairs zero [] = refl
  all_pairs zero (p ∷ u) = ap (λ l. p ∷ l) (none 1 u)
  all_pairs (suc zero) [] = refl
  all_pairs (suc zero) (p ∷ u) = ap (λ l. (p.0, put_term path new p.1) ∷ l) (later 0 0 u ∙ none 0 u)
  all_pairs (suc (suc k)) [] = refl
  all_pairs (suc (suc k)) (p ∷ u) =
      ap (λ b. cond b (p.0, put_term path new p.1) p ∷ pairs_from (suc (suc k)) 1 path new u) (eqb-suc-suc (suc k) 0 ∙ eqb-suc-zero k)
      ∙ ap (λ l. p ∷ l) (later (suc k) 0 u ∙ all_pairs (suc k) u)
