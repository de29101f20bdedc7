-- How many nodes stand above each node.
use Rattle.std.specs.Prelude.{◌≡◌, ℕ, ◌+◌, List, length, Option, Some, None, slice_index}
use Rattle.std.specs.List.{slice_get}

-- a node that stands below none has depth 0, and another 1 more than the node that it stands directly below
pub record IsDepths (parents : List (Option ℕ)) (depths : List ℕ) : Type 0 where
  pub count : length depths ≡ length parents
  pub on_top : (b : ℕ) → slice_get parents b ≡ Some None → slice_index depths b ≡ 0
  pub below : (a b : ℕ) → slice_get parents b ≡ Some (Some a) → slice_index depths b ≡ 1 + slice_index depths a
