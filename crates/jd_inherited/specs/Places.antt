-- Places on the ways up from the nodes, past the items of each, from the last to the first.
use Rattle.std.specs.Prelude.{◌≡◌, ◌≢◌, ℕ, ◌+◌, ◌<◌, List, length, get_or, Option, Some, None, slice_index}
use Rattle.jd_inherited.specs.declared.items.Item.{Item}
use Rattle.jd_inherited.specs.declared.places.Place.{Place}
use Rattle.jd_inherited.specs.declared.places.Place.TheVariants.{AtItem, AtNode, Top}

abbrev pub item_at : List Item → ℕ → Item
item_at items i = get_or items i (record { node = 0; key = 0; variant = 0 })

-- the node of each item is below the number
abbrev pub HaveNodesBelow : ℕ → List Item → Type 0
HaveNodesBelow nodes items = (i : ℕ) → i < length items → (item_at items i).node < nodes

-- the item, or the node, is one of these
abbrev pub IsPlace : List Item → ℕ → Place → Type 0
IsPlace items nodes (AtItem i) = i < length items
IsPlace items nodes (AtNode n) = n < nodes
IsPlace items nodes Top = Unit {0}

-- the last item of the node that stands before the bound, or the node itself if there is none
abbrev pub IsLast : List Item → ℕ → ℕ → Place → Type 0
IsLast items bound n (AtItem i) = (i < bound) × ((item_at items i).node ≡ n) × ((j : ℕ) → i < j → j < bound → (item_at items j).node ≢ n)
IsLast items bound n (AtNode m) = (m ≡ n) × ((j : ℕ) → j < bound → (item_at items j).node ≢ n)
IsLast items bound n Top = ⊥

abbrev pub place_in : List Place → ℕ → Place
place_in places i = get_or places i Top

-- for each node the place where the way past its items begins, and for each item the place after it
pub record AreWays (items : List Item) (nodes : ℕ) (starts nexts : List Place) : Type 0 where
  pub start_count : length starts ≡ nodes
  pub next_count : length nexts ≡ length items
  pub last_of_node : (n : ℕ) → n < nodes → IsLast items (length items) n (place_in starts n)
  pub last_before : (i : ℕ) → i < length items → IsLast items i (item_at items i).node (place_in nexts i)

abbrev pub start_above : List Place → Option ℕ → Place
start_above starts None = Top
start_above starts (Some p) = place_in starts p

-- the place after this one
abbrev pub next_place : List (Option ℕ) → List Place → List Place → Place → Place
next_place parents starts nexts (AtItem i) = place_in nexts i
next_place parents starts nexts (AtNode n) = start_above starts (get_or parents n None)
next_place parents starts nexts Top = Top

-- how many nodes the way from here passes or stands at
abbrev pub height_of : List ℕ → List Item → Place → ℕ
height_of depths items (AtItem i) = slice_index depths (item_at items i).node + 1
height_of depths items (AtNode n) = slice_index depths n + 1
height_of depths items Top = 0

-- an item at the place is one of these
abbrev pub HasItem : List Item → Place → Type 0
HasItem items (AtItem i) = i < length items
HasItem items (AtNode n) = Unit {0}
HasItem items Top = Unit {0}
