-- The order of integers.
use Rattle.std.proofs.Common.{◌≡◌, Bool, true, false, ℤ, pos, negsuc, ◌+ℤ◌, ◌*ℤ◌, int_lt, int_le, refl, sym, ap, true≢false, arith}
use Rattle.std.proofs.Math.Nat.{mul-le-mul_right}
use Rattle.std.proofs.lemmas.Bool.{and_parts, and_from}
use Rattle.std.proofs.lemmas.Int.{ints}
use Rattle.jd_heap.specs.Values.{IntValue, as_int}
use Rattle.jd_taclets.specs.Conditions.{IsEqual, passes}
use borrow.Author.Differences.{le-true}

-- each is true where the other is
abbrev pub SameTest : Bool → Bool → Type 0
SameTest a b = (a ≡ true → b ≡ true) × (b ≡ true → a ≡ true)

-- one is true where the other is not
abbrev pub Denies : Bool → Bool → Type 0
Denies a b = (¬ (a ≡ true) → b ≡ true) × (b ≡ true → ¬ (a ≡ true))

fails : (a : Bool) → ¬ (a ≡ true) → a ≡ false
fails true h = absurd (h refl)
fails false h = refl

pub less_is_next : (x y : ℤ) → SameTest (int_lt x y) (int_le (x +ℤ pos 1) y)
less_is_next x y = (λ e. sym (omega (arith, ints)), λ e. sym (omega (arith, ints)))

pub not_at_most : (x y : ℤ) → Denies (int_le x y) (int_lt y x)
not_at_most x y = (λ h. let e : int_le x y ≡ false = fails (int_le x y) h in sym (omega (arith, ints)), λ e h. omega (arith, ints))

pub not_less : (x y : ℤ) → Denies (int_lt x y) (int_le y x)
not_less x y = (λ h. let e : int_lt x y ≡ false = fails (int_lt x y) h in sym (omega (arith, ints)), λ e h. omega (arith, ints))

pub at_most_itself : (x : ℤ) → int_le x x ≡ true
at_most_itself x = sym (omega (arith, ints))

pub at_most_same : (x y : ℤ) → x ≡ y → int_le x y ≡ true
at_most_same x y e = sym (omega (arith, ints))

pub not_less_itself : (x : ℤ) → ¬ (int_lt x x ≡ true)
not_less_itself x e = omega (arith, ints)

pub at_most_then : (x y z : ℤ) → int_le x y ≡ true → int_le y z ≡ true → int_le x z ≡ true
at_most_then x y z p q = sym (omega (arith, ints))

pub both_at_most : (x y : ℤ) → int_le x y ≡ true → int_le y x ≡ true → x ≡ y
both_at_most x y p q = omega (arith, ints)

pub at_most_sums : (x y z w : ℤ) → int_le x y ≡ true → int_le z w ≡ true → int_le (x +ℤ z) (y +ℤ w) ≡ true
at_most_sums x y z w p q = sym (omega (arith, ints))

pub at_most_shifted : (x y z : ℤ) → SameTest (int_le x y) (int_le (x +ℤ z) (y +ℤ z))
at_most_shifted x y z = (λ e. sym (omega (arith, ints)), λ e. sym (omega (arith, ints)))

pub at_most_more : (x y m : ℤ) → int_le x y ≡ true → int_le (pos 0) m ≡ true → int_le x (y +ℤ m) ≡ true
at_most_more x y m p q = sym (omega (arith, ints))

pub at_most_scaled : (x y m : ℤ) → int_le x y ≡ true → int_le (pos 0) m ≡ true → int_le (x *ℤ m) (y *ℤ m) ≡ true
at_most_scaled x y (pos n) p q = let scaled = mul-le-mul_right n (le-true x y p) in sym (omega (arith, ints))
at_most_scaled x y (negsuc n) p q = absurd (true≢false (sym q))

pub never_both : (x y : ℤ) → int_le x y ≡ true → ¬ (int_lt y x ≡ true)
never_both x y p q = omega (arith, ints)

-- one of three
pub compared : (x y : ℤ) → ¬ ((¬ (int_lt x y ≡ true)) × (¬ (x ≡ y)) × (¬ (int_lt y x ≡ true)))
compared x y n =
    let p : int_lt x y ≡ false = fails (int_lt x y) n.0 in
    let q : int_lt y x ≡ false = fails (int_lt y x) n.2 in
    n.1 (omega (arith, ints))

-- the test of equal numbers
pub equal_numbers : (x y : ℤ) → (IntValue x ≡ IntValue y → passes IsEqual x y ≡ true) × (passes IsEqual x y ≡ true → IntValue x ≡ IntValue y)
equal_numbers x y = (λ e. let same : x ≡ y = ap as_int e in and_from _ _ (at_most_same x y same) (at_most_same y x (sym same)), λ e. let parts = and_parts (int_le x y) (int_le y x) e in ap IntValue (both_at_most x y parts.0 parts.1))
