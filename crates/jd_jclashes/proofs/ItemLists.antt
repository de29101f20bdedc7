-- The items of members, as they are made one by one.
use Rattle.std.proofs.Common.{◌≡◌, ℕ, ◌+◌, ◌<◌, Bool, List, [], ◌∷◌, ◌++◌, length, Some, slice_index, sym, ap, ◌∙◌, inl, inr, arith, length-append}
use Rattle.std.proofs.lemmas.Bool.{cases_eq}
use Rattle.std.proofs.lemmas.Option.{slice_get_within}
use Rattle.std.specs.List.{slice_get}
use Rattle.jd_inherited.specs.declared.items.Item.{Item}
use Rattle.jd_jclasses.specs.Members.{Kind, Declared}
use Rattle.jd_jclashes.specs.Items.{AreItemsOf, item_of}
use Rattle.jd_jclashes.proofs.Lists.{at_last, before_last, same_at}

module _ (compared : Kind → Bool) (members : List Declared) (names : List ℕ) (name_count : ℕ) (variants : List ℕ) (variant_count : ℕ) where
  abbrev pub item_at : ℕ → Declared → Item
  item_at i m = item_of (compared m.kind) i m.class (slice_index names i) name_count (slice_index variants i) variant_count

  -- those of the first so many members
  pub record AreItemsTo (n : ℕ) (items : List Item) : Type 0 where
    pub each : length items ≡ n
    pub items_ : (i : ℕ) (m : Declared) → i < n → slice_get members i ≡ Some m → slice_get items i ≡ Some (item_at i m)

  pub one_more_item : (n : ℕ) (items new : List Item) (m : Declared) (x : Item) → AreItemsTo n items → slice_get members n ≡ Some m → x ≡ item_at n m → new ≡ items ++ x ∷ [] → AreItemsTo (n + 1) new
  one_more_item n items new m x before there is made =
      record {
        each = omega (arith, ap length made, length-append items (x ∷ []), before.each);
        items_ = λ i d lt at.
            elim (cases_eq i n) [
              | inl same ↦
                  let one : m ≡ d = same_at members n i m d (sym same) there at in
                  let item : x ≡ item_at i d = is ∙ ap (λ (k : ℕ). item_at k m) (sym same) ∙ ap (item_at i) one in
                  ap (λ (l : List Item). slice_get l i) made ∙ at_last items x i (omega (arith, same, before.each)) ∙ ap Some item
              | inr other ↦ ap (λ (l : List Item). slice_get l i) made ∙ before_last items x (item_at i d) i (before.items_ i d (omega (arith, lt, other)) at)
            ];
      }

  pub all_items : (n : ℕ) (items : List Item) → n ≡ length members → AreItemsTo n items → AreItemsOf compared members names name_count variants variant_count items
  all_items n items all to = record { each = to.each ∙ all; items_ = λ i m at. to.items_ i m (omega (arith, all, slice_get_within members i m at)) at }
