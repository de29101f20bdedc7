-- What is known of each item, as the code reads it.
use Rattle.std.proofs.Common.{◌≡◌, ℕ, ◌<◌, List, Some, length, sym, ◌∙◌, inl, inr, arith, None}
use Rattle.std.proofs.lemmas.Bool.{cases_lt}
use Rattle.std.proofs.lemmas.Option.{get_or_from_slice_get, slice_get-get_or, slice_get_past}
use Rattle.std.specs.List.{slice_get}
use Rattle.jd_inherited.specs.declared.items.Item.{Item}
use Rattle.jd_inherited.specs.Items.{AreItems}
use Rattle.jd_inherited.specs.Places.{item_at, HaveNodesBelow}

module _ (items : List Item) where
  pub stands_at : (i : ℕ) → i < length items → slice_get items i ≡ Some (item_at items i)
  stands_at i lt = slice_get-get_or items i _ lt

  pub reads : (i : ℕ) (x : Item) → slice_get items i ≡ Some x → item_at items i ≡ x
  reads i x e = get_or_from_slice_get items i x _ e

  pub inside : (i : ℕ) (x : Item) → slice_get items i ≡ Some x → i < length items
  inside i x e = elim (cases_lt i (length items)) [ inl lt ↦ lt | inr past ↦ absurd (none_some x (sym (slice_get_past items i past) ∙ e)) ]
    where
      none_some : (x : Item) → None ≡ Some x → ⊥
      none_some x e = cc

  module _ (nodes keys variants : ℕ) (h : AreItems nodes keys variants items) where
    pub nodes_below : HaveNodesBelow nodes items
    nodes_below i lt = (h i (item_at items i) (stands_at i lt)).node

    pub keys_below : (i : ℕ) → i < length items → (item_at items i).key < keys
    keys_below i lt = (h i (item_at items i) (stands_at i lt)).key

    pub variants_below : (i : ℕ) → i < length items → (item_at items i).variant < variants
    variants_below i lt = (h i (item_at items i) (stands_at i lt)).variant

    pub limits_stay : (new_keys new_variants : ℕ) → new_keys ≡ keys → new_variants ≡ variants → AreItems nodes new_keys new_variants items
    limits_stay new_keys new_variants e f i x is =
        let item = h i x is in
        record { node = item.node; key = omega (arith, e, item.key); variant = omega (arith, f, item.variant) }
