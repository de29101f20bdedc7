-- Items that disagree with one of a node above.
use Rattle.std.specs.Prelude.{◌≡◌, ◌≢◌, ℕ, ◌<◌, List, Option, Some}
use Rattle.std.specs.List.{slice_get}
use Rattle.jd_ancestry.specs.Ancestors.{Above}
use Rattle.jd_inherited.specs.declared.items.Item.{Item}

-- an item of a node above that of this index has the same key and another variant
pub record Disagrees (parents : List (Option ℕ)) (items : List Item) (i : ℕ) : Type 0 where
  pub x : Item
  pub stands : slice_get items i ≡ Some x
  pub j : ℕ
  pub y : Item
  pub other_stands : slice_get items j ≡ Some y
  pub above : Above parents y.node x.node
  pub same_key : y.key ≡ x.key
  pub other_variant : y.variant ≢ x.variant

-- none of the items disagrees
abbrev pub NoneDisagrees : List (Option ℕ) → List Item → Type 0
NoneDisagrees parents items = (i : ℕ) → Disagrees parents items i → ⊥

-- this item disagrees, and none before it
pub record IsFirst (parents : List (Option ℕ)) (items : List Item) (i : ℕ) : Type 0 where
  pub disagrees : Disagrees parents items i
  pub none_before : (j : ℕ) → j < i → Disagrees parents items j → ⊥
