-- A walk from one place to another: what is counted on the way.
use Rattle.std.proofs.Common.{◌≡◌, refl, ℕ, ◌+◌, ◌-◌, ◌^◌, ◌<◌, ◌≤◌, Bool, true, false, List, Option, length, sym, ap, subst, ◌∙◌, arith}
use Rattle.std.proofs.lemmas.Bool.{both_ways}
use Rattle.std.specs.List.{slice_index}
use Rattle.jd_ancestry.specs.Ancestors.{AreNodes}
use Rattle.jd_inherited.specs.declared.items.Item.{Item}
use Rattle.jd_inherited.specs.declared.places.Place.{Place}
use Rattle.jd_inherited.specs.declared.places.Place.TheVariants.{AtItem, AtNode, Top}
use Rattle.jd_ancestry.specs.Depths.{IsDepths}
use Rattle.jd_inherited.specs.Items.{AreItems}
use Rattle.jd_inherited.specs.Places.{AreWays, IsPlace, height_of, next_place}
use Rattle.jd_inherited.specs.Tallies.{AreCounts, tally, here, of_key, of_variant}
use Rattle.jd_inherited.proofs.Counting.{count_within}
use Rattle.jd_inherited.proofs.ItemFacts.{nodes_below}
use Rattle.jd_inherited.proofs.Steps.{IsStep, next_step, rank}

-- the counts are of the items on the way from the place `from`, and of those between `goal` and the place `to`
pub record IsBetween (parents : List (Option ℕ)) (depths : List ℕ) (items : List Item) (goal from to : Place) (key_count variant_count : ℕ) (keys variants : List ℕ) : Type 0 where
  pub from_place : IsPlace items (length parents) from
  pub to_place : IsPlace items (length parents) to
  pub on_the_way : (test : ℕ → Bool) → tally parents depths items to test ≤ tally parents depths items goal test
  pub counts : AreCounts items (λ test. tally parents depths items from test + (tally parents depths items goal test - tally parents depths items to test)) keys variants
  pub same_keys : length keys ≡ key_count
  pub same_variants : length variants ≡ variant_count

-- where the way from a place is as high as from another place, it goes on
pub higher : (depths : List ℕ) (items : List Item) (from to : Place) → height_of depths items to ≤ height_of depths items from → (from ≡ to → ⊥) → 0 < rank depths items from
higher depths items (AtItem i) to le ne = omega arith
higher depths items (AtNode n) to le ne = omega arith
higher depths items Top (AtItem i) le ne = absurd (omega arith)
higher depths items Top (AtNode n) le ne = absurd (omega arith)
higher depths items Top Top le ne = absurd (ne refl)

pub lower : (depths : List ℕ) (items : List Item) (from to : Place) → height_of depths items from < height_of depths items to → 0 < rank depths items to
lower depths items from (AtItem i) lt = omega arith
lower depths items from (AtNode n) lt = omega arith
lower depths items from Top lt = absurd (omega arith)

module _ (parents : List (Option ℕ)) (depths : List ℕ) (items : List Item) where
  -- each step of the walk is one up the way
  module _ (keys variants : ℕ) (starts nexts : List Place) (nodes : AreNodes parents) (h : IsDepths parents depths) (are : AreItems (length parents) keys variants items)
      (ways : AreWays items (length parents) starts nexts) where
    pub step_from : (from to y : Place) (here there : ℕ) (same : Bool) → IsPlace items (length parents) from → here ≡ height_of depths items from → there ≡ height_of depths items to → there ≤ here
        → (from ≡ to → same ≡ true) → same ≡ false → y ≡ next_place parents starts nexts from → IsStep parents depths items from y
    step_from from to y here there same place e f le tested differ is =
        let above : 0 < rank depths items from = higher depths items from to (omega arith) (λ one. both_ways same differ (tested one)) in
        subst (IsStep parents depths items from) (sym is) (next_step parents depths items h nodes (nodes_below items (length parents) keys variants are) starts nexts ways from place above)

    pub step_to : (from to y : Place) (here there : ℕ) → IsPlace items (length parents) to → here ≡ height_of depths items from → there ≡ height_of depths items to → here < there
        → y ≡ next_place parents starts nexts to → IsStep parents depths items to y
    step_to from to y here there place e f lt is =
        let above : 0 < rank depths items to = lower depths items from to (omega arith) in
        subst (IsStep parents depths items to) (sym is) (next_step parents depths items h nodes (nodes_below items (length parents) keys variants are) starts nexts ways to place above)

  tally_within : (x : Place) (test : ℕ → Bool) → tally parents depths items x test ≤ length items
  unfolding tally
  tally_within x test = count_within _ (length items)

  module _ (goal : Place) (key_count variant_count : ℕ) where
    pub set_out : (from : Place) (keys variants : List ℕ) → IsPlace items (length parents) from → IsPlace items (length parents) goal → AreCounts items (tally parents depths items from) keys variants
        → length keys ≡ key_count → length variants ≡ variant_count → IsBetween parents depths items goal from goal key_count variant_count keys variants
    set_out from keys variants p q counts k v = record {
      from_place = p;
      to_place = q;
      on_the_way = λ test. omega arith;
      counts = record { keys_counted = λ k lt. omega (arith, counts.keys_counted k lt); variants_counted = λ v lt. omega (arith, counts.variants_counted v lt) };
      same_keys = k;
      same_variants = v;
    }

    pub arrived : (from to : Place) (keys variants : List ℕ) → from ≡ to → IsBetween parents depths items goal from to key_count variant_count keys variants
        → AreCounts items (tally parents depths items goal) keys variants
    arrived from to keys variants e h =
        let same : (test : ℕ → Bool) → tally parents depths items from test ≡ tally parents depths items to test = λ test. ap (λ x. tally parents depths items x test) e in
        record {
          keys_counted = λ k lt. omega (arith, h.counts.keys_counted k lt, same (of_key items k), h.on_the_way (of_key items k));
          variants_counted = λ v lt. omega (arith, h.counts.variants_counted v lt, same (of_variant items v), h.on_the_way (of_variant items v));
        }

    module _ (from to : Place) (keys variants : List ℕ) (h : IsBetween parents depths items goal from to key_count variant_count keys variants) where
      pub key_removable : (y : Place) → IsStep parents depths items from y → (k : ℕ) → k < length keys → here from (of_key items k) ≤ slice_index keys k
      key_removable y step k lt = omega (arith, h.counts.keys_counted k lt, step.tallies (of_key items k))

      pub variant_removable : (y : Place) → IsStep parents depths items from y → (v : ℕ) → v < length variants → here from (of_variant items v) ≤ slice_index variants v
      variant_removable y step v lt = omega (arith, h.counts.variants_counted v lt, step.tallies (of_variant items v))

      pub key_room : length items ≤ 4294967294 → (k : ℕ) → k < length keys → slice_index keys k < 2 ^ 63
      key_room few k lt = omega (arith, h.counts.keys_counted k lt, tally_within from (of_key items k), tally_within goal (of_key items k))

      pub variant_room : length items ≤ 4294967294 → (v : ℕ) → v < length variants → slice_index variants v < 2 ^ 63
      variant_room few v lt = omega (arith, h.counts.variants_counted v lt, tally_within from (of_variant items v), tally_within goal (of_variant items v))

      pub removed : (y : Place) → IsStep parents depths items from y → (new_keys new_variants : List ℕ) → length new_keys ≡ length keys → length new_variants ≡ length variants
          → ((k : ℕ) → slice_index keys k ≡ here from (of_key items k) + slice_index new_keys k) → ((v : ℕ) → slice_index variants v ≡ here from (of_variant items v) + slice_index new_variants v)
          → IsBetween parents depths items goal y to key_count variant_count new_keys new_variants
      removed y step new_keys new_variants k_count v_count k_step v_step = record {
        from_place = step.place;
        to_place = h.to_place;
        on_the_way = h.on_the_way;
        counts = record {
          keys_counted = λ k lt. omega (arith, k_step k, h.counts.keys_counted k (omega arith), step.tallies (of_key items k));
          variants_counted = λ v lt. omega (arith, v_step v, h.counts.variants_counted v (omega arith), step.tallies (of_variant items v));
        };
        same_keys = k_count ∙ h.same_keys;
        same_variants = v_count ∙ h.same_variants;
      }

      pub added : (y : Place) → IsStep parents depths items to y → (new_keys new_variants : List ℕ) → length new_keys ≡ length keys → length new_variants ≡ length variants
          → ((k : ℕ) → slice_index new_keys k ≡ here to (of_key items k) + slice_index keys k) → ((v : ℕ) → slice_index new_variants v ≡ here to (of_variant items v) + slice_index variants v)
          → IsBetween parents depths items goal from y key_count variant_count new_keys new_variants
      added y step new_keys new_variants k_count v_count k_step v_step = record {
        from_place = h.from_place;
        to_place = step.place;
        on_the_way = λ test. omega (arith, h.on_the_way test, step.tallies test);
        counts = record {
          keys_counted = λ k lt. omega (arith, k_step k, h.counts.keys_counted k (omega arith), step.tallies (of_key items k), h.on_the_way (of_key items k));
          variants_counted = λ v lt. omega (arith, v_step v, h.counts.variants_counted v (omega arith), step.tallies (of_variant items v), h.on_the_way (of_variant items v));
        };
        same_keys = k_count ∙ h.same_keys;
        same_variants = v_count ∙ h.same_variants;
      }
