-- What lists of lists have, ranges, and lists from their ends.
use Rattle.std.proofs.Common.{◌≡◌, ◌⊎◌, ◌||◌, inl, inr, ⊎_elim, ℕ, zero, suc, ◌+◌, ◌<◌, Bool, true, false, nat_eq, List, [], ◌∷◌, reverse, flat_map, refl, sym, subst, arith}
use Rattle.std.specs.List.{list_any, range_with_len}
use Rattle.std.proofs.lemmas.Bool.Decides.{nat_tests}
use mathlib.Core.List.{reverse-cons}
use Rattle.jd_declared.proofs.Lists.{In, in_either, in_left, in_right}

-- ---- lists of lists

pub in_flat : {X Y : Type 0} (f : X → List Y) (xs : List X) (x : X) (y : Y) → In x xs → In y (f x) → In y (flat_map f xs)
in_flat f [] x y h at = absurd h
in_flat f (z ∷ xs) x y (inl same) at = in_left y (f z) (flat_map f xs) (subst (λ w. In y (f w)) same at)
in_flat f (z ∷ xs) x y (inr behind) at = in_right y (f z) (flat_map f xs) (in_flat f xs x y behind at)

pub from_flat : {X Y : Type 0} (f : X → List Y) (xs : List X) (y : Y) → In y (flat_map f xs) → (x : X) × In x xs × In y (f x)
from_flat f [] y h = absurd h
from_flat f (z ∷ xs) y h =
    ⊎_elim (λ first. (z, inl refl, first)) (λ behind. let r = from_flat f xs y behind in (r.0, inr r.1, r.2)) (in_either y (f z) (flat_map f xs) h)

-- ---- ranges

pub in_range : (a n k : ℕ) → k < n → In (a + k) (range_with_len a n)
in_range a zero k lt = absurd (omega (arith, lt))
in_range a (suc n) zero lt = inl (omega arith)
in_range a (suc n) (suc k) lt = let same : a + 1 + k ≡ a + suc k = omega arith in inr (subst (λ i. In i (range_with_len (a + 1) n)) same (in_range (a + 1) n k (omega (arith, lt))))

pub from_range : (a n x : ℕ) → In x (range_with_len a n) → x < a + n
from_range a zero x h = absurd h
from_range a (suc n) x (inl same) = omega (arith, same)
from_range a (suc n) x (inr behind) = let r = from_range (a + 1) n x behind in omega (arith, r)

-- ---- numbers that are tested

pub same_number : (a b : ℕ) → nat_eq a b ≡ true → a ≡ b
same_number a b e = grind (arith, nat_tests)

pub among : (c : ℕ) (xs : List ℕ) → list_any (nat_eq c) xs ≡ true → In c xs
among c [] h = absurd cc
among c (x ∷ xs) h = by (nat_eq c x) refl h (among c xs)
  where
    by : (b : Bool) → nat_eq c x ≡ b → (b || list_any (nat_eq c) xs) ≡ true → (list_any (nat_eq c) xs ≡ true → In c xs) → In c (x ∷ xs)
    by true is e rest = inl (same_number c x is)
    by false is e rest = inr (rest e)

-- ---- from the end

pub in_reverse : {X : Type 0} (x : X) (xs : List X) → In x xs → In x (reverse xs)
in_reverse x [] h = absurd h
in_reverse x (z ∷ xs) (inl same) = subst (In x) (sym (reverse-cons z xs)) (in_right x (reverse xs) (z ∷ []) (inl same))
in_reverse x (z ∷ xs) (inr behind) = subst (In x) (sym (reverse-cons z xs)) (in_left x (reverse xs) (z ∷ []) (in_reverse x xs behind))

pub from_reverse : {X : Type 0} (x : X) (xs : List X) → In x (reverse xs) → In x xs
from_reverse x [] h = absurd h
from_reverse x (z ∷ xs) h =
    ⊎_elim (λ behind. inr (from_reverse x xs behind)) (⊎_elim inl (λ none. absurd none)) (in_either x (reverse xs) (z ∷ []) (subst (In x) (reverse-cons z xs) h))
