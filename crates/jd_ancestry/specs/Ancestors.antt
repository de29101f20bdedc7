-- Nodes of which each stands below one other, or below none, and those above them.
use Rattle.std.specs.Prelude.{◌≡◌, ℕ, ◌<◌, List, length, Option, Some}
use Rattle.std.specs.List.{slice_get}

-- by the node that each stands directly below: a stands above another
pub data Above (parents : List (Option ℕ)) : ℕ → ℕ → Type 0 where
  above_child : (a b : ℕ) → slice_get parents b ≡ Some (Some a) → Above parents a b
  above_parent : (a b c : ℕ) → slice_get parents c ≡ Some (Some b) → Above parents a b → Above parents a c

-- what a node stands directly below is a node
abbrev pub AreNodes : List (Option ℕ) → Type 0
AreNodes parents = (a b : ℕ) → slice_get parents b ≡ Some (Some a) → a < length parents

-- no node stands above itself
abbrev pub HasNoCycle : List (Option ℕ) → Type 0
HasNoCycle parents = (a : ℕ) → Above parents a a → ⊥
