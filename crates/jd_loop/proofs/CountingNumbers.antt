-- The numbers of the counting loop.
use Rattle.std.proofs.Common.{◌≡◌, Bool, true, false, ◌&&◌, ℤ, pos, negsuc, ◌+ℤ◌, ◌-ℤ◌, int_lt, int_le, FitsSigned, refl, sym, true≢false, arith}
use Rattle.std.specs.Int.{w32}
use Rattle.std.proofs.lemmas.Int.{ints, int_wrap_fits}
use Rattle.jd_model.specs.Runs.{wrap32}
use Rattle.jd_model.specs.WellFormedHeaps.{in_int}

holds : (b : Bool) → (b ≡ false → ⊥) → b ≡ true
holds true h = refl
holds false h = absurd (h refl)

second_of : (a b : Bool) → (a && b) ≡ true → b ≡ true
second_of true b e = e
second_of false b e = absurd (true≢false (sym e))

-- where the loop ends
pub no_more : (x n : ℤ) → int_lt x n ≡ false → int_le x n ≡ true → x ≡ n
no_more x n p q = omega (arith, ints)

-- what one turn does
pub record Counted (x n : ℤ) : Type 0 where
  pub wraps : wrap32 (x +ℤ pos 1) ≡ x +ℤ pos 1
  pub in_range : in_int (x +ℤ pos 1) ≡ true
  pub not_negative : int_le (pos 0) (x +ℤ pos 1) ≡ true
  pub below : int_le (x +ℤ pos 1) n ≡ true
  pub bound : int_le (pos 0) (n -ℤ x) ≡ true
  pub falls : int_lt (n -ℤ (x +ℤ pos 1)) (n -ℤ x) ≡ true

pub counted : (x n : ℤ) → int_le (pos 0) x ≡ true → int_lt x n ≡ true → in_int n ≡ true → Counted x n
counted x n p q r =
    let most : int_le n (pos 2147483647) ≡ true = second_of _ (int_le n (pos 2147483647)) r in
    let fits : FitsSigned w32 (x +ℤ pos 1) = omega (arith, ints) in
    let least : int_le (negsuc 2147483647) (x +ℤ pos 1) ≡ true = holds (int_le (negsuc 2147483647) (x +ℤ pos 1)) (λ e. omega (arith, ints)) in
    let greatest : int_le (x +ℤ pos 1) (pos 2147483647) ≡ true = holds (int_le (x +ℤ pos 1) (pos 2147483647)) (λ e. omega (arith, ints)) in
    record {
      wraps = int_wrap_fits w32 (x +ℤ pos 1) fits;
      in_range = λ i. least i && greatest i;
      not_negative = holds (int_le (pos 0) (x +ℤ pos 1)) (λ e. omega (arith, ints));
      below = holds (int_le (x +ℤ pos 1) n) (λ e. omega (arith, ints));
      bound = holds (int_le (pos 0) (n -ℤ x)) (λ e. omega (arith, ints));
      falls = holds (int_lt (n -ℤ (x +ℤ pos 1)) (n -ℤ x)) (λ e. omega (arith, ints));
    }
