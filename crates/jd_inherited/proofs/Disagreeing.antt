-- Counts of the items above a node that differ, and items that disagree.
use Rattle.std.proofs.Common.{◌≡◌, ◌≢◌, ◌↔◌, ℕ, ◌<◌, ◌&&◌, Bool, true, false, IsTrue, List, Option, length, slice_index, sym, ap, ◌∙◌, arith}
use Rattle.std.proofs.lemmas.Bool.{and_parts, and_from, eq-eqb, eqb-true, false_from_ne_true, both_ways}
use Rattle.std.specs.Bool.{Decides}
use Rattle.jd_inherited.specs.declared.items.Item.{Item}
use Rattle.jd_inherited.specs.declared.places.Place.{Place}
use Rattle.jd_inherited.specs.declared.places.Place.TheVariants.{AtNode}
use Rattle.jd_ancestry.specs.Depths.{IsDepths}
use Rattle.jd_inherited.specs.Disagreements.{Disagrees}
use Rattle.jd_inherited.specs.Items.{AreItems, HaveOneKey}
use Rattle.jd_inherited.specs.Places.{item_at}
use Rattle.jd_inherited.specs.Tallies.{AreCounts, above_node, tally, of_key, of_variant}
use Rattle.jd_inherited.proofs.Aboves.{complete, sound}
use Rattle.jd_inherited.proofs.Counting.{counts_differ, passes_more}
use Rattle.jd_inherited.proofs.ItemFacts.{inside, keys_below, reads, stands_at, variants_below}
use Rattle.jd_inherited.proofs.Steps.{IsStep}

module _ (parents : List (Option ℕ)) (depths : List ℕ) (items : List Item) (h : IsDepths parents depths) (one_key : HaveOneKey items) (i : ℕ) (lt : i < length items) where
  abbrev item : Item
  item = item_at items i

  -- the items of the nodes above that have its key, and those that have its variant
  abbrev with_key : ℕ → Bool
  with_key j = above_node parents depths (item_at items j).node item.node && of_key items item.key j

  abbrev with_variant : ℕ → Bool
  with_variant j = above_node parents depths (item_at items j).node item.node && of_variant items item.variant j

  variant_gives_key : (j : ℕ) → j < length items → with_variant j ≡ true → with_key j ≡ true
  variant_gives_key j below t =
      let parts = and_parts (above_node parents depths (item_at items j).node item.node) (of_variant items item.variant j) t in
      and_from _ _ parts.0 (eq-eqb (item_at items j).key item.key (one_key j i (item_at items j) item (stands_at items j below) (stands_at items i lt) (eqb-true (item_at items j).variant item.variant parts.1)))

  found : (j : ℕ) → j < length items → with_key j ≡ true → with_variant j ≡ false → Disagrees parents items i
  found j below yes_key no_variant =
      let parts = and_parts (above_node parents depths (item_at items j).node item.node) (of_key items item.key j) yes_key in
      record {
        x = item;
        stands = stands_at items i lt;
        j = j;
        y = item_at items j;
        other_stands = stands_at items j below;
        above = sound parents (slice_index depths item.node) (item_at items j).node item.node parts.0;
        same_key = eqb-true (item_at items j).key item.key parts.1;
        other_variant = λ same. both_ways (with_variant j) no_variant (and_from _ _ parts.0 (eq-eqb (item_at items j).variant item.variant same));
      }

  tallies_differ : tally parents depths items (AtNode item.node) (of_key items item.key) ≢ tally parents depths items (AtNode item.node) (of_variant items item.variant) → Disagrees parents items i
  unfolding tally
  tallies_differ ne =
      let more = passes_more with_key with_variant (length items) variant_gives_key ne in
      found more.0 more.1.0 more.1.1 more.1.2

  disagreeing_differ : Disagrees parents items i → tally parents depths items (AtNode item.node) (of_variant items item.variant) < tally parents depths items (AtNode item.node) (of_key items item.key)
  unfolding tally
  disagreeing_differ d =
      let x = d.x in
      let j = d.j in
      let y = d.y in
      let at_i : item ≡ x = reads items i x d.stands in
      let at_j : item_at items j ≡ y = reads items j y d.other_stands in
      let above : above_node parents depths (item_at items j).node item.node ≡ true =
      ap (λ (z : Item). above_node parents depths z.node item.node) at_j ∙ ap (λ (z : Item). above_node parents depths y.node z.node) at_i ∙ complete parents depths h y.node x.node d.above in
      let key : (item_at items j).key ≡ item.key = ap (λ (z : Item). z.key) at_j ∙ d.same_key ∙ sym (ap (λ (z : Item). z.key) at_i) in
      let variant : (item_at items j).variant ≢ item.variant = λ same. d.other_variant (sym (ap (λ (z : Item). z.variant) at_j) ∙ same ∙ ap (λ (z : Item). z.variant) at_i) in
      counts_differ with_key with_variant (length items) j variant_gives_key (inside items j y d.other_stands)
      (and_from _ _ above (eq-eqb (item_at items j).key item.key key))
      (false_from_ne_true _ (λ t. variant (eqb-true (item_at items j).variant item.variant (and_parts (above_node parents depths (item_at items j).node item.node) (of_variant items item.variant j) t).1)))

  -- the counts of what the way above passes differ exactly where the item disagrees
  pub tells : (nodes : ℕ) (keys variants : List ℕ) (above : Place) (t : Bool) → AreItems nodes (length keys) (length variants) items → IsStep parents depths items (AtNode item.node) above
      → AreCounts items (tally parents depths items above) keys variants → (IsTrue t ↔ slice_index keys item.key ≢ slice_index variants item.variant) → Decides t (Disagrees parents items i)
  tells nodes keys variants above t are step counts differ = (
    λ passed. tallies_differ (λ e. differ.0 passed (let f : slice_index keys item.key ≡ slice_index variants item.variant = omega (arith, by_key, by_variant, e) in f)),
    λ d. differ.1 (λ e. let less = disagreeing_differ d in absurd (omega (arith, by_key, by_variant, e, less))),
  )
    where
      by_key : slice_index keys item.key ≡ tally parents depths items (AtNode item.node) (of_key items item.key)
      by_key = omega (arith, counts.keys_counted item.key (keys_below items nodes (length keys) (length variants) are i lt), step.tallies (of_key items item.key))

      by_variant : slice_index variants item.variant ≡ tally parents depths items (AtNode item.node) (of_variant items item.variant)
      by_variant = omega (arith, counts.variants_counted item.variant (variants_below items nodes (length keys) (length variants) are i lt), step.tallies (of_variant items item.variant))
