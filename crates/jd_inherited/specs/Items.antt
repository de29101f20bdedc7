-- Items of nodes, and the limits that their numbers keep.
use Rattle.std.specs.Prelude.{◌≡◌, ℕ, ◌<◌, List, Some}
use Rattle.std.specs.List.{slice_get}
use Rattle.jd_inherited.specs.declared.items.Item.{Item}

-- the numbers of an item are below these
pub record IsItem (nodes keys variants : ℕ) (x : Item) : Type 0 where
  pub node : x.node < nodes
  pub key : x.key < keys
  pub variant : x.variant < variants

-- the numbers of each item are below these
abbrev pub AreItems : ℕ → ℕ → ℕ → List Item → Type 0
AreItems nodes keys variants items = (i : ℕ) (x : Item) → slice_get items i ≡ Some x → IsItem nodes keys variants x

-- items of one variant have one key
abbrev pub HaveOneKey : List Item → Type 0
HaveOneKey items = (i j : ℕ) (x y : Item) → slice_get items i ≡ Some x → slice_get items j ≡ Some y → x.variant ≡ y.variant → x.key ≡ y.key
