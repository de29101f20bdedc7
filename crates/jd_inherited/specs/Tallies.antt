-- How many items stand on the way up from a place.
use Rattle.std.specs.Prelude.{◌≡◌, ℕ, ◌+◌, ◌<◌, ◌==◌, ◌&&◌, ◌||◌, Bool, false, zero, suc, cond, List, length, get_or, Option, Some, None, slice_index, nat_lt}
use Rattle.jd_inherited.specs.declared.items.Item.{Item}
use Rattle.jd_inherited.specs.declared.places.Place.{Place}
use Rattle.jd_inherited.specs.declared.places.Place.TheVariants.{AtItem, AtNode, Top}
use Rattle.jd_inherited.specs.Places.{item_at}

abbrev pub or_none : (ℕ → Bool) → Option ℕ → Bool
or_none test None = false
or_none test (Some p) = test p

-- whether a stands above b, by so many steps at most
unfoldable pub is_above : List (Option ℕ) → ℕ → ℕ → ℕ → Bool
is_above parents zero a b = false
is_above parents (suc steps) a b = or_none (λ p. (a == p) || is_above parents steps a p) (get_or parents b None)

-- whether the node, which the depths tell to be so deep, stands above the other
abbrev pub above_node : List (Option ℕ) → List ℕ → ℕ → ℕ → Bool
above_node parents depths a b = is_above parents (slice_index depths b) a b

-- whether the item stands on the way up from the place
abbrev pub is_passed : List (Option ℕ) → List ℕ → List Item → Place → ℕ → Bool
is_passed parents depths items (AtItem i) j =
    (((item_at items j).node == (item_at items i).node) && nat_lt j (suc i)) || above_node parents depths (item_at items j).node (item_at items i).node
is_passed parents depths items (AtNode n) j = above_node parents depths (item_at items j).node n
is_passed parents depths items Top j = false

-- how many numbers below this one pass the test
unfoldable pub count_below : (ℕ → Bool) → ℕ → ℕ
count_below test zero = 0
count_below test (suc n) = cond (test n) 1 0 + count_below test n

-- how many items that pass the test stand on the way up from the place
unfoldable pub tally : List (Option ℕ) → List ℕ → List Item → Place → (ℕ → Bool) → ℕ
tally parents depths items place test = count_below (λ j. is_passed parents depths items place j && test j) (length items)

-- how many items that pass the test stand at the place itself
abbrev pub here : Place → (ℕ → Bool) → ℕ
here (AtItem i) test = cond (test i) 1 0
here (AtNode n) test = 0
here Top test = 0

abbrev pub of_key : List Item → ℕ → ℕ → Bool
of_key items k j = (item_at items j).key == k

abbrev pub of_variant : List Item → ℕ → ℕ → Bool
of_variant items v j = (item_at items j).variant == v

-- for each key, and for each variant, how many items that have it are counted
pub record AreCounts (items : List Item) (counted : (ℕ → Bool) → ℕ) (keys variants : List ℕ) : Type 0 where
  pub keys_counted : (k : ℕ) → k < length keys → slice_index keys k ≡ counted (of_key items k)
  pub variants_counted : (v : ℕ) → v < length variants → slice_index variants v ≡ counted (of_variant items v)
