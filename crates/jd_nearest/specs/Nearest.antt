-- What the nodes have of their own in each of some columns, and the nearest to a node of what it and those above it have.
use Rattle.std.specs.Prelude.{◌≡◌, ◌⊎◌, ℕ, ◌+◌, ◌*◌, ◌<◌, List, length, get_or, Option, Some, None, MatchOption}
use Rattle.jd_ancestry.specs.Ancestors.{Above}

-- what each node has in a column, where the rows of the nodes stand one behind the other
abbrev pub column : ℕ → List (Option ℕ) → ℕ → ℕ → Option ℕ
column width values k a = get_or values (a * width + k) None

-- b is the node a, or stands above it
abbrev pub AtOrAbove : List (Option ℕ) → ℕ → ℕ → Type 0
AtOrAbove parents b a = (b ≡ a) ⊎ Above parents b a

-- the value is that of the nearest among the node a and those above it that have one
pub record IsNearest (parents : List (Option ℕ)) (own : ℕ → Option ℕ) (a v : ℕ) : Type 0 where
  pub owner : ℕ
  pub has : own owner ≡ Some v
  pub there : AtOrAbove parents owner a
  pub nearest : (other w : ℕ) → AtOrAbove parents other a → own other ≡ Some w → AtOrAbove parents other owner

-- none among the node a and those above it has one
abbrev pub HaveNone : List (Option ℕ) → (ℕ → Option ℕ) → ℕ → Type 0
HaveNone parents own a = (other w : ℕ) → AtOrAbove parents other a → own other ≡ Some w → ⊥

-- what a node takes from the nearest, or nothing where none has a value
abbrev pub IsInherited : List (Option ℕ) → (ℕ → Option ℕ) → ℕ → Option ℕ → Type 0
IsInherited parents own a value = MatchOption value (HaveNone parents own a) (IsNearest parents own a)

-- each node has in each column what it takes from the nearest
pub record AreNearest (parents : List (Option ℕ)) (width : ℕ) (own values : List (Option ℕ)) : Type 0 where
  pub count : length values ≡ length own
  pub each : (a k : ℕ) → a < length parents → k < width → IsInherited parents (column width own k) a (column width values k a)
