-- The parts behind a head are no larger than all.
use denote.Param.Weighed.{most}
use Rattle.std.proofs.Common.{◌≡◌, ◌+◌, ◌-◌, ◌*◌, ◌<◌, ◌≤◌, ℕ, zero, suc, max, List, [], ◌∷◌, length, take, drop, get_or, sym, ap, subst, arith, length-drop}
use Rattle.std.proofs.lemmas.List.{take_all}
use Rattle.jd_syntax.specs.declared.sx.Sx.{Sx}
use Rattle.jd_syntax.proofs.sx.Sx.TheLaws.{the_size}

pub rest_taken : (n : ℕ) (xs : List Sx) → take (length xs - n) (drop n xs) ≡ drop n xs
rest_taken n xs = take_all (length xs - n) (drop n xs) (omega (arith, length-drop n xs))

most_rest : (n : ℕ) (xs : List Sx) → most the_size (drop n xs) ≤ most the_size xs
most_rest zero xs = omega arith
most_rest (suc n) [] = omega arith
most_rest (suc n) (x ∷ xs) = let more : most the_size (drop n xs) ≤ most the_size xs = most_rest n xs in omega (arith, more)

pub rest_falls : (n t : ℕ) (xs : List Sx) → 4 * most the_size xs + 3 ≡ t → 4 * most the_size (take (length xs - n) (drop n xs)) + 1 < t
rest_falls n t xs is = omega (arith, is, most_rest n xs, ap (λ (l : List Sx). most the_size l) (rest_taken n xs))

part_within : (xs : List Sx) (i : ℕ) (x : Sx) → i < length xs → x ≡ get_or xs i x → the_size x ≤ most the_size xs
part_within [] i x lt is = absurd (omega arith)
part_within (y ∷ ys) zero x lt is = let whole : the_size y ≤ most the_size (y ∷ ys) = omega arith in subst (λ (z : Sx). the_size z ≤ most the_size (y ∷ ys)) (sym is) whole
part_within (y ∷ ys) (suc i) x lt is = let inside : the_size x ≤ most the_size ys = part_within ys i x (omega arith) is in omega (arith, inside)

pub one_falls : (t : ℕ) (xs : List Sx) (a : Sx) → 4 * most the_size xs + 3 ≡ t → 1 < length xs → a ≡ get_or xs 1 a → 4 * the_size a + 2 < t
one_falls t xs a is lt ea = omega (arith, is, part_within xs 1 a lt ea)

pub two_fall : (t : ℕ) (xs : List Sx) (a b : Sx) → 4 * most the_size xs + 3 ≡ t → 2 < length xs → a ≡ get_or xs 1 a → b ≡ get_or xs 2 b → 4 * max (the_size a) (the_size b) + 2 < t
two_fall t xs a b is lt ea eb = omega (arith, is, part_within xs 1 a (omega arith) ea, part_within xs 2 b lt eb)

pub three_fall : (t : ℕ) (xs : List Sx) (a b c : Sx) → 4 * most the_size xs + 3 ≡ t → 3 < length xs → a ≡ get_or xs 1 a → b ≡ get_or xs 2 b → c ≡ get_or xs 3 c → 4 * max (the_size a) (max (the_size b) (the_size c)) + 2 < t
three_fall t xs a b c is lt ea eb ec = omega (arith, is, part_within xs 1 a (omega arith) ea, part_within xs 2 b (omega arith) eb, part_within xs 3 c lt ec)
