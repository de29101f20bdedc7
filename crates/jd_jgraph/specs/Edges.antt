-- The edges of a graph of families.
use Rattle.std.specs.Prelude.{◌≡◌, ◌==◌, ◌&&◌, ◌||◌, ◌<◌, ℕ, Bool, true, List, slice_index, Some}
use Rattle.std.specs.List.{Contains, list_any, slice_get}
use Rattle.jd_jclasses.specs.Members.{Declared, is_routine}
use Rattle.jd_jgraph.specs.Callees.{Lookup, called_by}
use Rattle.jd_jseen.specs.Own.{routines_before}

-- these edges, and from one node to each of some
abbrev pub with_edges : (ℕ → ℕ → Bool) → ℕ → List ℕ → ℕ → ℕ → Bool
with_edges edges from to a b = edges a b || ((a == from) && list_any (λ t. b == t) to)

-- a routine of one family, among the first `done` members, reaches the other family
pub record IsCalledFrom (l : Lookup) (members : List Declared) (done a b : ℕ) : Type 0 where
  pub i : ℕ
  pub before : i < done
  pub member : Declared
  pub there : slice_get members i ≡ Some member
  pub routine : is_routine member.kind ≡ true
  pub of_one : slice_index l.families (routines_before members i) ≡ a
  pub of_other : Contains (called_by l member) b
