-- Nodes in the order of their depths.
use Rattle.std.specs.Prelude.{◌≡◌, ℕ, ◌<◌, List, length, slice_index}
use Rattle.std.specs.List.{All, Contains}
use Rattle.std.specs.List.Sorted.{IsNonDecreasingBy}

-- each is a node behind its depth
abbrev pub AreNodesAndDepths : List ℕ → List (ℕ × ℕ) → Type 0
AreNodesAndDepths depths order = All (λ p. (p.1 < length depths) × (p.0 ≡ slice_index depths p.1)) order

-- all nodes, each behind its depth, the lesser depths first
pub record IsByDepth (depths : List ℕ) (order : List (ℕ × ℕ)) : Type 0 where
  pub nodes : AreNodesAndDepths depths order
  pub complete : (n : ℕ) → n < length depths → Contains order (slice_index depths n, n)
  pub rising : IsNonDecreasingBy (λ p. p.0) order
