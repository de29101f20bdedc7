-- Walks from a node up, each along nodes that no earlier one passed.
use Rattle.std.specs.Prelude.{◌≡◌, ◌≢◌, ◌⊎◌, ℕ, zero, suc, ◌+◌, ◌<◌, ◌≤◌, ◌==◌, List, length, Option, Some, None, slice_index}
use Rattle.std.specs.List.{slice_get, count_by}
use Rattle.std.specs.Option.{option_and_then}
use Rattle.jd_ancestry.specs.Ancestors.{Above}

-- what a node stands directly below
abbrev pub parent_of : List (Option ℕ) → ℕ → Option ℕ
parent_of parents b = option_and_then (λ p. p) (slice_get parents b)

-- the node so many steps above a node
abbrev pub ancestor : List (Option ℕ) → ℕ → ℕ → Option ℕ
ancestor parents zero a = Some a
ancestor parents (suc k) a = option_and_then (parent_of parents) (ancestor parents k a)

-- how many nodes have no stamp
abbrev pub unstamped : List ℕ → ℕ
unstamped stamps = count_by (λ s. s == 0) stamps

-- a node is fewer steps above the start
abbrev pub IsWithin : List (Option ℕ) → ℕ → ℕ → ℕ → Type 0
IsWithin parents start count x = (k : ℕ) × (k < count) × (ancestor parents k start ≡ Some x)

-- a walk gave its stamp to so many nodes, and none of them had one
pub record IsWalk (parents : List (Option ℕ)) (old new : List ℕ) (start stamp count : ℕ) : Type 0 where
  pub counted : unstamped new + count ≡ unstamped old
  pub passed : (k : ℕ) → k < count → (x : ℕ) × (ancestor parents k start ≡ Some x) × (x < length parents) × (slice_index old x ≡ 0) × (slice_index new x ≡ stamp)
  pub others : (x : ℕ) → (slice_index new x ≡ slice_index old x) ⊎ IsWithin parents start count x

-- where so many steps from a node lead to another, that one has a stamp
abbrev pub EndsAtStamp : List (Option ℕ) → List ℕ → ℕ → ℕ → Type 0
EndsAtStamp parents stamps start count = (e : ℕ) → ancestor parents count start ≡ Some e → slice_index stamps e ≢ 0

-- what a node with a stamp stands directly below has one
abbrev pub AreClosed : List (Option ℕ) → List ℕ → Type 0
AreClosed parents stamps = (a b : ℕ) → slice_get parents b ≡ Some (Some a) → slice_index stamps b ≢ 0 → slice_index stamps a ≢ 0

-- the walks from all nodes below the start are done, and the nodes with a stamp that stand above themselves are marked
pub record IsMarked (parents : List (Option ℕ)) (stamps marks : List ℕ) (start : ℕ) : Type 0 where
  pub stamps_length : length stamps ≡ length parents
  pub marks_length : length marks ≡ length parents
  pub closed : AreClosed parents stamps
  pub marks_closed : AreClosed parents marks
  pub begun : (x : ℕ) → x < start → slice_index stamps x ≢ 0
  pub earlier : (x : ℕ) → slice_index stamps x ≤ start
  pub sound : (x : ℕ) → slice_index marks x ≢ 0 → Above parents x x
  pub complete : (x : ℕ) → slice_index stamps x ≢ 0 → Above parents x x → slice_index marks x ≢ 0

-- the walks from all nodes below the start are done, and the nodes with a stamp have their depths
pub record IsFilled (parents : List (Option ℕ)) (stamps depths : List ℕ) (start : ℕ) : Type 0 where
  pub stamps_length : length stamps ≡ length parents
  pub depths_length : length depths ≡ length parents
  pub closed : AreClosed parents stamps
  pub begun : (x : ℕ) → x < start → slice_index stamps x ≢ 0
  pub on_top : (b : ℕ) → slice_index stamps b ≢ 0 → slice_get parents b ≡ Some None → slice_index depths b ≡ 0
  pub below : (a b : ℕ) → slice_index stamps b ≢ 0 → slice_get parents b ≡ Some (Some a) → slice_index depths b ≡ 1 + slice_index depths a
  pub few : (x : ℕ) → slice_index stamps x ≢ 0 → slice_index depths x + unstamped stamps < length parents

-- so many nodes from the start up have the depths below a number, from the highest on, and no others have changed
pub record IsNumbered (parents : List (Option ℕ)) (old new : List ℕ) (start count end : ℕ) : Type 0 where
  pub numbered : (k x : ℕ) → k < count → ancestor parents k start ≡ Some x → slice_index new x + k + 1 ≡ end
  pub others : (x : ℕ) → (slice_index new x ≡ slice_index old x) ⊎ IsWithin parents start count x
