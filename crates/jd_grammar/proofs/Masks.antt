-- Sets of kinds as masks.
use Rattle.std.proofs.Common.{◌≡◌, ⊎_elim, ℕ, zero, suc, ◌+◌, ◌/◌, ◌%◌, ◌<◌, true, ◌||◌, nat_eq, List, [], ◌∷◌, get_or, sym, ap, subst, ◌∙◌, arith, eqb-true, eq-eqb}
use Rattle.std.specs.Int.{bit_at}
use Rattle.std.specs.Prelude.{bit_or}
use Rattle.std.specs.Int.Bits.{or_self}
use Rattle.std.proofs.lemmas.Bool.{and_parts, or_cases}
use Rattle.std.proofs.lemmas.Nat.Bits.{bit_at_or, bit_at-lt, bit_at-zero, bit_at-suc, bit_at_lowest, same_from_bits}
use Rattle.jd_grammar.specs.Tests.{within, covers}

pub has-or_left : (m n k : ℕ) → bit_at m k ≡ 1 → bit_at (bit_or m n) k ≡ 1
has-or_left m n k h = omega (arith, bit_at_or m n k, bit_at-lt (bit_or m n) k, h)

pub has-or_right : (m n k : ℕ) → bit_at n k ≡ 1 → bit_at (bit_or m n) k ≡ 1
has-or_right m n k h = omega (arith, bit_at_or m n k, bit_at-lt (bit_or m n) k, h)

pub has-within : (m n k : ℕ) → within m n ≡ true → bit_at m k ≡ 1 → bit_at n k ≡ 1
has-within m n k w h = subst (λ x. bit_at x k ≡ 1) (eqb-true (bit_or m n) n w) (has-or_left m n k h)

-- where m has a bit, the row has its entry
pub covers-entry : (w k unless m : ℕ) (xs : List ℕ) (e i : ℕ) → covers w k unless m xs e ≡ true → bit_at m i ≡ 1 → (unless ≡ k + i → ⊥) → (i < w) × (get_or xs i 0 ≡ e)
covers-entry zero k unless m xs e i c h u =
    absurd (let none : bit_at 0 i ≡ 1 = subst (λ x. bit_at x i ≡ 1) (eqb-true m 0 c) h in omega (arith, bit_at-zero i, none))
covers-entry (suc w) k unless m [] e i c h u =
    absurd (let none : bit_at 0 i ≡ 1 = subst (λ x. bit_at x i ≡ 1) (eqb-true m 0 c) h in omega (arith, bit_at-zero i, none))
covers-entry (suc w) k unless m (x ∷ xs) e zero c h u = (
  omega arith,
  ⊎_elim (λ z. absurd (omega (arith, bit_at_lowest m, eqb-true (m % 2) 0 z, h)))
      (λ z. ⊎_elim (λ y. absurd (u (omega (arith, eqb-true unless k y)))) (λ y. eqb-true x e y) (or_cases (nat_eq unless k) (nat_eq x e) z))
      (or_cases (nat_eq (m % 2) 0) (nat_eq unless k || nat_eq x e) (and_parts (nat_eq (m % 2) 0 || (nat_eq unless k || nat_eq x e)) (covers w (suc k) unless (m / 2) xs e) c).0),
)
covers-entry (suc w) k unless m (x ∷ xs) e (suc i) c h u =
    let r = covers-entry w (suc k) unless (m / 2) xs e i (and_parts (nat_eq (m % 2) 0 || (nat_eq unless k || nat_eq x e)) (covers w (suc k) unless (m / 2) xs e) c).1 (sym (bit_at-suc m i) ∙ h) (λ z. u (omega (arith, z))) in
    let less : i < w = r.0 in
    (omega (arith, less), r.1)

pub within-all : (m : ℕ) → within m m ≡ true
within-all m = eq-eqb (bit_or m m) m (or_self m)

pub within-trans : (m n l : ℕ) → within m n ≡ true → within n l ≡ true → within m l ≡ true
within-trans m n l h g =
    eq-eqb (bit_or m l) l (same_from_bits (bit_or m l) l (λ i. omega (arith, bit_at_or m l i, bit_at_or m n i, bit_at_or n l i, ap (λ x. bit_at x i) (eqb-true (bit_or m n) n h), ap (λ x. bit_at x i) (eqb-true (bit_or n l) l g))))

pub within-or : (x m n : ℕ) → within m n ≡ true → within (bit_or x m) (bit_or x n) ≡ true
within-or x m n h =
    eq-eqb (bit_or (bit_or x m) (bit_or x n)) (bit_or x n) (same_from_bits (bit_or (bit_or x m) (bit_or x n)) (bit_or x n) (λ i. omega (arith, bit_at_or (bit_or x m) (bit_or x n) i, bit_at_or x m i, bit_at_or x n i, bit_at_or m n i, ap (λ y. bit_at y i) (eqb-true (bit_or m n) n h))))
