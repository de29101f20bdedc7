-- What holds of the nearest, whichever nodes these are.
use Rattle.std.specs.Prelude.{◌≡◌, ℕ, List, Option}
use Rattle.jd_ancestry.specs.Depths.{IsDepths}
use Rattle.jd_nearest.specs.Nearest.{HaveNone, IsNearest}

-- where nodes have depths, a node has one nearest value at most
abbrev pub NearestIsOne : Type 0
NearestIsOne = (parents : List (Option ℕ)) (depths : List ℕ) → IsDepths parents depths → (own : ℕ → Option ℕ) (a v w : ℕ) → IsNearest parents own a v → IsNearest parents own a w → v ≡ w

-- where a node has a nearest value, one has a value
abbrev pub NearestExcludesNone : Type 0
NearestExcludesNone = (parents : List (Option ℕ)) (own : ℕ → Option ℕ) (a v : ℕ) → IsNearest parents own a v → HaveNone parents own a → ⊥
