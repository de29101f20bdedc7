-- Which nodes reach which along the edges.
use Rattle.std.specs.Prelude.{◌≡◌, ℕ, Bool, true}

-- a node reaches itself, and what a node that it has an edge to reaches
pub data ReachesBy (edges : ℕ → ℕ → Bool) : ℕ → ℕ → Type 0 where
  reaches_itself : (a : ℕ) → ReachesBy edges a a
  reaches_by_edge : (a b c : ℕ) → edges a b ≡ true → ReachesBy edges b c → ReachesBy edges a c
