-- Sums over a range.
use Rattle.std.proofs.Common.{◌≡◌, suc, true, ℤ, pos, negsuc, ◌+ℤ◌, ◌-ℤ◌, int_lt, int_le, refl, sym, ap, ◌∙◌, true≢false, arith}
use Rattle.std.proofs.lemmas.Int.{ints}
use Rattle.jd_model.specs.Runs.{magnitude}
use Rattle.jd_model.specs.TermValues.{sum_from, sum_range}

-- as many numbers as the range is long
no_more : (z : ℤ) → int_le z (pos 0) ≡ true → magnitude z ≡ 0
no_more (pos n) p = omega (arith, ints)
no_more (negsuc n) p = refl

length_is : (z : ℤ) → int_le (pos 0) z ≡ true → pos (magnitude z) ≡ z
length_is (pos n) p = refl
length_is (negsuc n) p = absurd (true≢false (sym p))

pub sum_empty : (x y : ℤ) (f : ℤ → ℤ) → int_le y x ≡ true → sum_range x y f ≡ pos 0
sum_empty x y f p = let below : int_le (y -ℤ x) (pos 0) ≡ true = sym (omega (arith, ints)) in ap (λ n. sum_from x n f) (no_more (y -ℤ x) below)

pub sum_last : (x y : ℤ) (f : ℤ → ℤ) → int_lt x y ≡ true → sum_range x y f ≡ sum_range x (y -ℤ pos 1) f +ℤ f (y -ℤ pos 1)
sum_last x y f p =
    let z = y -ℤ pos 1 -ℤ x in
    let n = magnitude z in
    let length : pos n ≡ z = length_is z (sym (omega (arith, ints))) in
    let longer : y -ℤ x ≡ pos (suc n) = omega (arith, ints) in
    let last : x +ℤ pos n ≡ y -ℤ pos 1 = omega (arith, ints) in
    ap (λ (w : ℤ). sum_from x (magnitude w) f) longer ∙ ap (λ w. sum_from x n f +ℤ f w) last
