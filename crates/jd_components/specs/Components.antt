-- Components: nodes that are tied by standing directly below one another, over as many nodes as may be.
use Rattle.std.specs.Prelude.{◌≡◌, ◌↔◌, ℕ, ◌<◌, List, length, Option, Some, slice_index}
use Rattle.std.specs.List.{slice_get}

-- a way from a node to another, of steps up and down
pub data Tied (parents : List (Option ℕ)) : ℕ → ℕ → Type 0 where
  itself : (a : ℕ) → Tied parents a a
  up : (a b c : ℕ) → slice_get parents a ≡ Some (Some b) → Tied parents b c → Tied parents a c
  down : (a b c : ℕ) → slice_get parents b ≡ Some (Some a) → Tied parents b c → Tied parents a c

-- no node before it is tied to it
abbrev pub IsFirst : List (Option ℕ) → ℕ → Type 0
IsFirst parents a = (b : ℕ) → b < a → Tied parents b a → ⊥

-- for each node the number of its component: they are numbered from 0 in the order of their first nodes
pub record AreComponents (parents : List (Option ℕ)) (numbers : List ℕ) (count : ℕ) : Type 0 where
  pub each : length numbers ≡ length parents
  pub same : (a b : ℕ) → a < length parents → b < length parents → (slice_index numbers a ≡ slice_index numbers b) ↔ Tied parents a b
  pub ordered : (a b : ℕ) → a < length parents → b < length parents → IsFirst parents a → IsFirst parents b → a < b → slice_index numbers a < slice_index numbers b
  pub below : (a : ℕ) → a < length parents → slice_index numbers a < count
  pub reached : (f : ℕ) → f < count → (a : ℕ) × (a < length parents) × (slice_index numbers a ≡ f)
