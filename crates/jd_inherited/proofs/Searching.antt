-- The search through the items: what is counted, and what is found so far.
use Rattle.std.proofs.Common.{◌≡◌, ℕ, ◌+◌, ◌<◌, Bool, true, false, List, Option, Some, None, length, slice_index, sym, ap, subst, ◌∙◌, arith}
use Rattle.std.proofs.lemmas.Bool.{both_ways}
use Rattle.std.specs.Bool.{Decides}
use Rattle.jd_ancestry.specs.Ancestors.{AreNodes}
use Rattle.jd_inherited.specs.declared.items.Item.{Item}
use Rattle.jd_inherited.specs.declared.places.Place.{Place}
use Rattle.jd_inherited.specs.declared.places.Place.TheVariants.{AtNode, Top}
use Rattle.jd_ancestry.specs.Depths.{IsDepths}
use Rattle.jd_inherited.specs.Disagreements.{Disagrees}
use Rattle.jd_inherited.specs.Items.{AreItems}
use Rattle.jd_inherited.specs.Orders.{lesser_of}
use Rattle.jd_inherited.specs.Places.{AreWays, IsPlace, item_at, next_place}
use Rattle.jd_inherited.specs.Tallies.{AreCounts, tally, of_key, of_variant}
use Rattle.jd_inherited.proofs.Firsts.{IsLeast, none_yet, passed_over, taken}
use Rattle.jd_inherited.proofs.ItemFacts.{nodes_below}
use Rattle.jd_inherited.proofs.Orders.{index_at}
use Rattle.jd_inherited.proofs.Steps.{IsStep, next_step, nothing_passed}

pub record IsSearched (parents : List (Option ℕ)) (depths : List ℕ) (items : List Item) (key_count variant_count : ℕ) (order : List (ℕ × ℕ)) (count : ℕ) (place : Place) (first : Option ℕ)
    (keys variants : List ℕ) : Type 0 where
  pub at_place : IsPlace items (length parents) place
  pub counts : AreCounts items (tally parents depths items place) keys variants
  pub same_keys : length keys ≡ key_count
  pub same_variants : length variants ≡ variant_count
  pub least : IsLeast (Disagrees parents items) (index_at order) count first

module _ (parents : List (Option ℕ)) (depths : List ℕ) (items : List Item) (h : IsDepths parents depths) (key_count variant_count : ℕ) (order : List (ℕ × ℕ)) where
  pub none_searched : (keys variants : List ℕ) → length keys ≡ key_count → length variants ≡ variant_count → ((k : ℕ) → slice_index keys k ≡ 0) → ((v : ℕ) → slice_index variants v ≡ 0)
      → IsSearched parents depths items key_count variant_count order 0 Top None keys variants
  none_searched keys variants k v no_key no_variant = record {
    at_place = tt;
    counts = record {
      keys_counted = λ n lt. no_key n ∙ sym (nothing_passed parents depths items h (of_key items n));
      variants_counted = λ n lt. no_variant n ∙ sym (nothing_passed parents depths items h (of_variant items n));
    };
    same_keys = k;
    same_variants = v;
    least = none_yet (Disagrees parents items) (index_at order);
  }

  -- from the node of an item one step leads to the place above it
  pub step_up : (starts nexts : List Place) (i : ℕ) (above : Place) → AreNodes parents → AreItems (length parents) key_count variant_count items → AreWays items (length parents) starts nexts
      → i < length items → above ≡ next_place parents starts nexts (AtNode (item_at items i).node) → IsStep parents depths items (AtNode (item_at items i).node) above
  step_up starts nexts i above nodes are ways lt e =
      subst (IsStep parents depths items (AtNode (item_at items i).node)) (sym e)
      (next_step parents depths items h nodes (nodes_below items (length parents) key_count variant_count are) starts nexts ways (AtNode (item_at items i).node)
      (nodes_below items (length parents) key_count variant_count are i lt) (omega arith))

  module _ (count : ℕ) (place above : Place) (first : Option ℕ) (keys variants new_keys new_variants : List ℕ) (before : IsSearched parents depths items key_count variant_count order count place first keys variants)
      (at : IsPlace items (length parents) above) (counts : AreCounts items (tally parents depths items above) new_keys new_variants) (k : length new_keys ≡ length keys) (v : length new_variants ≡ length variants) where
    searched : (next : Option ℕ) → IsLeast (Disagrees parents items) (index_at order) (count + 1) next → IsSearched parents depths items key_count variant_count order (count + 1) above next new_keys new_variants
    searched next least = record { at_place = at; counts = counts; same_keys = k ∙ before.same_keys; same_variants = v ∙ before.same_variants; least = least }

    pub one_taken : (t : Bool) (next : Option ℕ) (r : ℕ) → Decides t (Disagrees parents items (index_at order count)) → t ≡ true → next ≡ Some r → r ≡ lesser_of first (index_at order count)
        → IsSearched parents depths items key_count variant_count order (count + 1) above next new_keys new_variants
    one_taken t next r decides e is e_r =
        searched next (subst (IsLeast (Disagrees parents items) (index_at order) (count + 1)) (sym (is ∙ ap Some e_r)) (taken (Disagrees parents items) (index_at order) count first (decides.0 e) before.least))

    pub one_passed : (t : Bool) (next : Option ℕ) → Decides t (Disagrees parents items (index_at order count)) → t ≡ false → next ≡ first
        → IsSearched parents depths items key_count variant_count order (count + 1) above next new_keys new_variants
    one_passed t next decides e is =
        searched next (subst (IsLeast (Disagrees parents items) (index_at order) (count + 1)) (sym is) (passed_over (Disagrees parents items) (index_at order) count first (λ d. both_ways t e (decides.1 d)) before.least))
