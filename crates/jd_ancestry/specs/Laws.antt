-- What holds of all nodes, whichever they are.
use Rattle.std.specs.Prelude.{ℕ, ◌<◌, List, Option, slice_index}
use Rattle.jd_ancestry.specs.Ancestors.{Above, HasNoCycle}
use Rattle.jd_ancestry.specs.Depths.{IsDepths}

-- what stands above a node stands above all that the node stands above
abbrev pub AboveIsTransitive : Type 0
AboveIsTransitive = (parents : List (Option ℕ)) (a b c : ℕ) → Above parents a b → Above parents b c → Above parents a c

-- a node above another has the smaller depth
abbrev pub DepthsGrowDownwards : Type 0
DepthsGrowDownwards = (parents : List (Option ℕ)) (depths : List ℕ) → IsDepths parents depths → (a b : ℕ) → Above parents a b → slice_index depths a < slice_index depths b

-- where nodes have depths, none stands above itself
abbrev pub DepthsExcludeCycles : Type 0
DepthsExcludeCycles = (parents : List (Option ℕ)) (depths : List ℕ) → IsDepths parents depths → HasNoCycle parents
