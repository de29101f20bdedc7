-- Division toward zero, by 0 too (JLS 15.17.2 and 15.17.3).
use Rattle.std.proofs.Common.{◌≡◌, ℕ, zero, suc, true, ◌/◌, ◌%◌, ◌*◌, ◌+◌, ℤ, pos, negsuc, ◌+ℤ◌, ◌-ℤ◌, ◌*ℤ◌, neg_ℤ, int_lt, int_le, int_div, int_rem, refl, sym, ap, ◌∙◌, true≢false, arith}
use Rattle.std.proofs.Math.IntN.{+ℤ_idr, neg_ℤ-neg_ℤ}
use Rattle.std.proofs.Math.Nat.{zero-div, mod-lt}
use Rattle.std.proofs.lemmas.Nat.{div-add-mod'}
use Rattle.std.proofs.lemmas.Int.{ints, quot-rem}
use Rattle.jd_term.specs.declared.term.ArithmeticOp.TheVariants.{Divide, Remainder}
use Rattle.jd_model.specs.TermValues.{arithmetic}

left_over : (x d q r : ℤ) → q *ℤ d +ℤ r ≡ x → r ≡ x -ℤ d *ℤ q
left_over x d q r e = omega (arith, ints)

-- the remainder is what the quotient leaves: it has the dividend's sign
pub remainder_is : (x y : ℤ) → arithmetic Remainder x y ≡ x -ℤ y *ℤ arithmetic Divide x y
remainder_is x (pos zero) = sym (+ℤ_idr x)
remainder_is x (pos (suc n)) = left_over x (pos (suc n)) (int_div x (pos (suc n))) (int_rem x (pos (suc n))) (quot-rem x (pos (suc n)))
remainder_is x (negsuc n) = left_over x (negsuc n) (int_div x (negsuc n)) (int_rem x (negsuc n)) (quot-rem x (negsuc n))

zero_negated : (n : ℕ) → n ≡ 0 → pos n ≡ neg_ℤ (pos n)
zero_negated n e = ap pos e ∙ sym (ap (λ k. neg_ℤ (pos k)) e)

pub quotient_of_negated : (x y : ℤ) → arithmetic Divide (neg_ℤ x) y ≡ neg_ℤ (arithmetic Divide x y)
quotient_of_negated x (pos zero) = refl
quotient_of_negated (pos zero) (pos (suc b)) = zero_negated (0 / suc b) (zero-div (suc b))
quotient_of_negated (pos zero) (negsuc b) = ap neg_ℤ (zero_negated (0 / suc b) (zero-div (suc b)))
quotient_of_negated (pos (suc a)) (pos (suc b)) = refl
quotient_of_negated (pos (suc a)) (negsuc b) = sym (neg_ℤ-neg_ℤ (pos (suc a / suc b)))
quotient_of_negated (negsuc a) (pos (suc b)) = sym (neg_ℤ-neg_ℤ (pos (suc a / suc b)))
quotient_of_negated (negsuc a) (negsuc b) = refl

pub quotient_by_negated : (x y : ℤ) → arithmetic Divide x (neg_ℤ y) ≡ neg_ℤ (arithmetic Divide x y)
quotient_by_negated x (pos zero) = refl
quotient_by_negated (pos a) (pos (suc b)) = refl
quotient_by_negated (negsuc a) (pos (suc b)) = sym (neg_ℤ-neg_ℤ (pos (suc a / suc b)))
quotient_by_negated (pos a) (negsuc b) = sym (neg_ℤ-neg_ℤ (pos (a / suc b)))
quotient_by_negated (negsuc a) (negsuc b) = refl

pub quotient_bounds : (x y : ℤ) → int_le (pos 0) x ≡ true → int_lt (pos 0) y ≡ true → (int_le (y *ℤ arithmetic Divide x y) x ≡ true) × (int_lt x (y *ℤ arithmetic Divide x y +ℤ y) ≡ true)
quotient_bounds (pos a) (pos (suc b)) p q =
    let split : a / suc b * suc b + a % suc b ≡ a = div-add-mod' a (suc b) in
    let small = mod-lt a {m = suc b} (omega arith) in
    (sym (omega (arith, ints)), sym (omega (arith, ints)))
quotient_bounds (pos a) (pos zero) p q = absurd (true≢false (sym q))
quotient_bounds (pos a) (negsuc b) p q = absurd (true≢false (sym q))
quotient_bounds (negsuc a) y p q = absurd (true≢false (sym p))
