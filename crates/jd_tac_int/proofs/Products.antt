-- Products of integers. An integer z is read as `up z - down z`.
use Rattle.std.proofs.Common.{◌≡◌, ℕ, ℤ, pos, negsuc, ◌+ℤ◌, ◌*ℤ◌, neg_ℤ, ◌+◌, ◌*◌, sym, ap, arith}
use Rattle.std.proofs.lemmas.Int.{ints}
use borrow.Author.Differences.{up, down, same_in, product_is, sum_is_lem}

times : (k : ℕ) {m n : ℕ} → m ≡ n → m * k ≡ n * k
times k e = ap (λ x. x * k) e

pub product_one : (x : ℤ) → x *ℤ pos 1 ≡ x
product_one x = omega (arith, ints)

pub product_zero : (x : ℤ) → x *ℤ pos 0 ≡ pos 0
product_zero x = omega (arith, ints)

pub negated : (x : ℤ) → neg_ℤ x ≡ x *ℤ negsuc 0
negated x = omega (arith, ints)

pub product_assoc : (x y z : ℤ) → (x *ℤ y) *ℤ z ≡ x *ℤ (y *ℤ z)
product_assoc x y z =
    let xy = product_is x y in
    let yz = product_is y z in
    let left = product_is (x *ℤ y) z in
    let right = product_is x (y *ℤ z) in
    let ups : up ((x *ℤ y) *ℤ z) ≡ up (x *ℤ (y *ℤ z)) = omega (arith, times (up z) xy.0, times (down z) xy.1, times (up x) yz.0, times (down x) yz.1) in
    let downs : down ((x *ℤ y) *ℤ z) ≡ down (x *ℤ (y *ℤ z)) = omega (arith, times (down z) xy.0, times (up z) xy.1, times (down x) yz.0, times (up x) yz.1) in
    same_in _ _ (λ i. ups i + sym downs i)

pub product_of_sum : (x y z : ℤ) → x *ℤ (y +ℤ z) ≡ x *ℤ y +ℤ x *ℤ z
product_of_sum x y z =
    let sum = sum_is_lem y z in
    let above = times (up x) sum in
    let below = times (down x) sum in
    omega (arith, ints)

pub product_of_next : (x n : ℤ) → x +ℤ x *ℤ n ≡ x *ℤ (n +ℤ pos 1)
product_of_next x n =
    let sum : x *ℤ (n +ℤ pos 1) ≡ x *ℤ n +ℤ x *ℤ pos 1 = product_of_sum x n (pos 1) in
    let one : x *ℤ pos 1 ≡ x = product_one x in
    omega (arith, ints)
