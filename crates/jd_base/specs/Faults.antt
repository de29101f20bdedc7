-- Counts of faults, and what a call does to them.
use Rattle.std.specs.Prelude.{◌≡◌, ◌<◌, ◌≤◌, ◌+◌, ◌-◌, ◌^◌, ℕ, List, Option, min}

-- a count rose, or stands at the greatest u64, its last value
abbrev pub Rose : ℕ → ℕ → Type 0
Rose before after = after < 2 ^ 64 - 1 → before < after

-- the count after one more, which stands still at the greatest u64
abbrev pub next_count : ℕ → ℕ
next_count count = min (count + 1) (2 ^ 64 - 1)

-- no name's count changed
abbrev pub SameCounts : (List ℕ → ℕ) → (List ℕ → ℕ) → Type 0
SameCounts before after = (name : List ℕ) → after name ≡ before name

-- no name's count fell
abbrev pub NoCountFell : (List ℕ → ℕ) → (List ℕ → ℕ) → Type 0
NoCountFell before after = (name : List ℕ) → before name ≤ after name

-- no file's contents changed
abbrev pub SameContents : (List ℕ → Option (List ℕ)) → (List ℕ → Option (List ℕ)) → Type 0
SameContents before after = (name : List ℕ) → after name ≡ before name

-- at the names at which reading did not fail it still does not
abbrev pub StaySteady : (List ℕ → Type 0) → (List ℕ → Type 0) → Type 0
StaySteady before after = (name : List ℕ) → before name → after name
