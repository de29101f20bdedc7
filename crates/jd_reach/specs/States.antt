-- The state of a search as its fields hold it.
use Rattle.std.specs.Prelude.{◌≡◌, ℕ, ◌+◌, ◌-◌, ◌*◌, ◌<◌, ◌≤◌, ◌++◌, ◌∷◌, [], Bool, length, replicate, slice_index, slice_set, sum_by}
use Rattle.jd_reach.specs.declared.search.Search.{Search}
use Rattle.jd_reach.specs.Rows.{row_bit}
use Rattle.jd_reach.specs.Searches.{IsSearch, IsSettled, IsVisited}

-- a search over rows of so many words
pub record IsState (nodes width : ℕ) (edges : ℕ → ℕ → Bool) (s : Search) : Type 0 where
  pub size : length s.closed.items ≡ nodes * width
  pub run : IsSearch nodes edges (row_bit width s.closed.items)
      s.opened.items s.starts.items s.frames.items s.place.items s.next.items

-- before the first node is visited
pub record IsNew (nodes size : ℕ) (s : Search) : Type 0 where
  pub closed : s.closed.items ≡ replicate size 0
  pub opened : s.opened.items ≡ []
  pub starts : s.starts.items ≡ []
  pub frames : s.frames.items ≡ []
  pub place : length s.place.items ≡ nodes
  pub next : s.next.items ≡ replicate nodes 0

-- whether a node was visited
abbrev pub HasVisited : ℕ → Search → ℕ → Type 0
HasVisited width s v = IsVisited (row_bit width s.closed.items) s.opened.items v

-- a node is opened, in a group of its own
pub record Opens (old new : Search) (node : ℕ) : Type 0 where
  pub closed : new.closed.items ≡ old.closed.items
  pub opened : new.opened.items ≡ old.opened.items ++ node ∷ []
  pub starts : new.starts.items ≡ old.starts.items ++ length old.opened.items ∷ []
  pub frames : new.frames.items ≡ old.frames.items ++ length old.opened.items ∷ []
  pub place : new.place.items ≡ slice_set old.place.items node (length old.opened.items)
  pub next : new.next.items ≡ old.next.items

-- an edge from the node at a position leads to a finished node or to an open one, in no lower group
pub record Settles (nodes width : ℕ) (edges : ℕ → ℕ → Bool) (old new : Search) (position to : ℕ) : Type 0 where
  pub state : IsState nodes width edges new
  pub next : new.next.items ≡ old.next.items
  pub frames : length new.frames.items ≤ length old.frames.items + 1
  pub inside : position < length new.opened.items
  pub node : slice_index new.opened.items position ≡ slice_index old.opened.items position
  pub settled : IsSettled (row_bit width new.closed.items) new.opened.items new.starts.items position to
  pub visited : (v : ℕ) → HasVisited width old v → HasVisited width new v

-- a bound on the steps that are left
abbrev pub steps_left : ℕ → Search → ℕ
steps_left nodes s = 2 * sum_by (λ k. nodes - k) s.next.items + length s.frames.items
