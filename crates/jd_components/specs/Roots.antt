-- The root of each node: the highest node above it, or itself.
use Rattle.std.specs.Prelude.{◌≡◌, ℕ, ◌<◌, List, length, get_or, Option, Some, None, slice_index}
use Rattle.std.specs.List.{slice_get}
use Rattle.jd_nearest.specs.Nearest.{AtOrAbove}

-- each node below none has its own number, and each other nothing
pub record AreTops (parents tops : List (Option ℕ)) : Type 0 where
  pub count : length tops ≡ length parents
  pub own : (a : ℕ) → slice_get parents a ≡ Some None → get_or tops a None ≡ Some a
  pub only : (a v : ℕ) → get_or tops a None ≡ Some v → (v ≡ a) × (slice_get parents a ≡ Some None)

-- a node at or above this one stands below none
pub record IsRoot (parents : List (Option ℕ)) (root a : ℕ) : Type 0 where
  pub there : AtOrAbove parents root a
  pub on_top : slice_get parents root ≡ Some None

pub record AreRoots (parents : List (Option ℕ)) (roots : List ℕ) : Type 0 where
  pub count : length roots ≡ length parents
  pub each : (a : ℕ) → a < length parents → IsRoot parents (slice_index roots a) a
