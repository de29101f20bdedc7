-- Lists of the indices of items, each behind a number, and of nodes that are not missing.
use Rattle.std.specs.Prelude.{◌≡◌, ℕ, ◌<◌, List, IsPermutation, Option, Some, None, map, min, length, get_or}
use Rattle.std.specs.List.{range_with_len}

-- the indices are the numbers below the count, in some order
abbrev pub IsOrder : ℕ → List (ℕ × ℕ) → Type 0
IsOrder count order = IsPermutation (range_with_len 0 count) (map (λ p. p.1) order)

-- a node, if there is one, is below the count
abbrev pub IsBelow : ℕ → Option ℕ → Type 0
IsBelow count o = (n : ℕ) → o ≡ Some n → n < count

-- so is each in the list
abbrev pub AreAllBelow : ℕ → List (Option ℕ) → Type 0
AreAllBelow count nodes = (i : ℕ) → i < length nodes → IsBelow count (get_or nodes i None)

-- the lesser of two indices, of which the one may be missing
abbrev pub lesser_of : Option ℕ → ℕ → ℕ
lesser_of None i = i
lesser_of (Some first) i = min first i
