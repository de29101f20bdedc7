-- The first place at which something holds, where it holds exactly where something else does.
use Rattle.std.proofs.Common.{ℕ, ◌⊎◌, Option, Some, None, inl, inr, arith, subst, ◌≡◌, min}
use Rattle.std.proofs.lemmas.Bool.{cases_lt}
use Rattle.jd_jclasses.specs.Refusals.{FirstAt, Nowhere}
use Rattle.jd_jclashes.specs.Firsts.{IsFoundFirst, earlier_of}

module _ (P Q : ℕ → Type 0) (there : (i : ℕ) → P i → Q i) (back : (i : ℕ) → Q i → P i) where
  pub first_too : (i : ℕ) → FirstAt P i → FirstAt Q i
  first_too i f = record { here = there i f.here; first = λ j lt q. f.first j lt (back j q) }

  pub nowhere_too : Nowhere P → Nowhere Q
  nowhere_too none = λ i q. none i (back i q)

  pub found_too : (found : Option ℕ) → IsFoundFirst P found → IsFoundFirst Q found
  found_too None h = nowhere_too h
  found_too (Some i) h = first_too i h

-- of two things the earlier
pub one_of_two : (P Q : ℕ → Type 0) (p q : Option ℕ) → IsFoundFirst P p → IsFoundFirst Q q → IsFoundFirst (λ i. P i ⊎ Q i) (earlier_of p q)
one_of_two P Q None None f g = λ i h. elim h [ inl a ↦ f i a | inr b ↦ g i b ]
one_of_two P Q None (Some j) f g = record { here = inr g.here; first = λ i lt h. elim h [ inl a ↦ f i a | inr b ↦ g.first i lt b ] }
one_of_two P Q (Some i) None f g = record { here = inl f.here; first = λ k lt h. elim h [ inl a ↦ f.first k lt a | inr b ↦ g k b ] }
one_of_two P Q (Some i) (Some j) f g =
    record {
      here = elim (cases_lt j i) [
        | inl less ↦ let same : j ≡ min i j = omega arith in inr (subst Q same g.here)
        | inr more ↦ let same : i ≡ min i j = omega arith in inl (subst P same f.here)
      ];
      first = λ k lt h. elim h [ inl a ↦ f.first k (omega (arith, lt)) a | inr b ↦ g.first k (omega (arith, lt)) b ];
    }
