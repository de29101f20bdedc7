-- Integers cut to 32 bits.
use Rattle.std.proofs.Common.{◌≡◌, true, ℤ, pos, negsuc, ◌+ℤ◌, ◌*ℤ◌, neg_ℤ, int_le, FitsSigned, sym, ap, ◌∙◌, arith}
use Rattle.std.specs.Int.{int_wrap, w32}
use Rattle.std.proofs.Math.IntN.{+ℤ_idl}
use Rattle.std.proofs.lemmas.Bool.{and_parts, and_from}
use Rattle.std.proofs.lemmas.Int.{ints, int_wrap_fits, SFits-int_wrap, int_wrap-add_left, int_wrap-mul_left, int_wrap-sub_right}
use Rattle.jd_model.specs.Runs.{wrap32}
use Rattle.jd_model.specs.WellFormedHeaps.{in_int}

pub wrap_in : (z : ℤ) → int_le (negsuc 2147483647) z ≡ true → int_le z (pos 2147483647) ≡ true → wrap32 z ≡ z
wrap_in z p q = let fits : FitsSigned w32 z = omega (arith, ints) in int_wrap_fits w32 z fits

pub in_int_of : (z : ℤ) → FitsSigned w32 z → in_int z ≡ true
in_int_of z fits =
    let least : int_le (negsuc 2147483647) z ≡ true = sym (omega (arith, ints)) in
    let greatest : int_le z (pos 2147483647) ≡ true = sym (omega (arith, ints)) in
    and_from _ _ least greatest

pub in_int_parts : (z : ℤ) → (in_int z ≡ true → (int_le (negsuc 2147483647) z ≡ true) × (int_le z (pos 2147483647) ≡ true)) × ((int_le (negsuc 2147483647) z ≡ true) × (int_le z (pos 2147483647) ≡ true) → in_int z ≡ true)
in_int_parts z = (λ e. and_parts (int_le (negsuc 2147483647) z) (int_le z (pos 2147483647)) e, λ p. and_from _ _ p.0 p.1)

pub wrap_range : (z : ℤ) → in_int (wrap32 z) ≡ true
wrap_range z = in_int_of (wrap32 z) (SFits-int_wrap w32 z)

pub wrap_wrap : (z : ℤ) → wrap32 (wrap32 z) ≡ wrap32 z
wrap_wrap z = int_wrap_fits w32 (wrap32 z) (SFits-int_wrap w32 z)

pub wrap_add : (x y : ℤ) → wrap32 (wrap32 x +ℤ y) ≡ wrap32 (x +ℤ y)
wrap_add x y = int_wrap-add_left w32 x y

pub wrap_mul : (x y : ℤ) → wrap32 (wrap32 x *ℤ y) ≡ wrap32 (x *ℤ y)
wrap_mul x y = int_wrap-mul_left w32 x y

-- the negation is the difference from 0
pub wrap_neg : (x : ℤ) → wrap32 (neg_ℤ (wrap32 x)) ≡ wrap32 (neg_ℤ x)
wrap_neg x = ap (int_wrap w32) (sym (+ℤ_idl (neg_ℤ (wrap32 x)))) ∙ int_wrap-sub_right w32 (pos 0) x ∙ ap (int_wrap w32) (+ℤ_idl (neg_ℤ x))
