-- The ways past the items, as they are made item by item.
use Rattle.std.proofs.Common.{◌≡◌, ◌≢◌, refl, ℕ, ◌+◌, ◌<◌, List, [], ◌∷◌, ◌++◌, length, map, slice_set, sym, ap, subst, ◌∙◌, inl, inr, arith}
use Rattle.std.proofs.lemmas.Bool.{cases_eq}
use Rattle.std.proofs.lemmas.List.{get_or-set_same, get_or-set_other, get_or_append_left, get_or_push, length-set, length-append}
use Rattle.std.proofs.lemmas.List.FromFn.{get_or-map-range_with_len, length-map-range_with_len}
use Rattle.std.specs.List.{range_with_len}
use Rattle.jd_inherited.specs.declared.items.Item.{Item}
use Rattle.jd_inherited.specs.declared.places.Place.{Place}
use Rattle.jd_inherited.specs.declared.places.Place.TheVariants.{AtItem, AtNode, Top}
use Rattle.jd_inherited.specs.Places.{item_at, place_in, IsLast, AreWays}

-- the ways past the items before the bound
pub record AreWaysTo (items : List Item) (nodes bound : ℕ) (starts nexts : List Place) : Type 0 where
  pub start_count : length starts ≡ nodes
  pub next_count : length nexts ≡ bound
  pub last_of_node : (n : ℕ) → n < nodes → IsLast items bound n (place_in starts n)
  pub last_before : (i : ℕ) → i < bound → IsLast items i (item_at items i).node (place_in nexts i)

module _ (items : List Item) where
  pub no_item_yet : (nodes : ℕ) (starts : List Place) → length starts ≡ nodes → ((n : ℕ) → n < nodes → place_in starts n ≡ AtNode n) → AreWaysTo items nodes 0 starts []
  no_item_yet nodes starts count h = record {
    start_count = count;
    next_count = refl;
    last_of_node = λ n lt. subst (IsLast items 0 n) (sym (h n lt)) (refl, λ j below. absurd (omega arith));
    last_before = λ i lt. absurd (omega arith);
  }

  pub none_placed : (nodes : ℕ) (starts nexts : List Place) → starts ≡ map (λ n. AtNode n) (range_with_len 0 nodes) → nexts ≡ [] → AreWaysTo items nodes 0 starts nexts
  none_placed nodes starts nexts e f =
      subst (AreWaysTo items nodes 0 starts) (sym f)
      (no_item_yet nodes starts (ap length e ∙ length-map-range_with_len (λ n. AtNode n) 0 nodes)
      (λ n lt. ap (λ (l : List Place). place_in l n) e ∙ get_or-map-range_with_len (λ n. AtNode n) 0 nodes n n Top lt (omega arith)))

  -- an item of another node changes nothing
  still_last : (bound n : ℕ) (p : Place) → (item_at items bound).node ≢ n → IsLast items bound n p → IsLast items (bound + 1) n p
  still_last bound n (AtItem i) other h = (omega (arith, h.0), h.1, λ j above below. by_place j (h.2 j above) below)
    where
      by_place : (j : ℕ) → (j < bound → (item_at items j).node ≢ n) → j < bound + 1 → (item_at items j).node ≢ n
      by_place j before below same =
          elim (cases_eq j bound) [
            | inl last ↦ other (ap (λ k. (item_at items k).node) (sym last) ∙ same)
            | inr earlier ↦ before (omega arith) same
          ]
  still_last bound n (AtNode m) other h = (h.0, λ j below. by_place j (h.1 j) below)
    where
      by_place : (j : ℕ) → (j < bound → (item_at items j).node ≢ n) → j < bound + 1 → (item_at items j).node ≢ n
      by_place j before below same =
          elim (cases_eq j bound) [
            | inl last ↦ other (ap (λ k. (item_at items k).node) (sym last) ∙ same)
            | inr earlier ↦ before (omega arith) same
          ]
  still_last bound n Top other h = h

  pub one_more_item : (nodes bound : ℕ) (starts nexts : List Place) → (item_at items bound).node < nodes → AreWaysTo items nodes bound starts nexts
      → AreWaysTo items nodes (bound + 1) (slice_set starts (item_at items bound).node (AtItem bound)) (nexts ++ place_in starts (item_at items bound).node ∷ [])
  one_more_item nodes bound starts nexts lt h =
      let node : ℕ = (item_at items bound).node in
      record {
        start_count = length-set starts node (AtItem bound) ∙ h.start_count;
        next_count = length-append nexts (place_in starts node ∷ []) ∙ ap (λ n. n + 1) h.next_count;
        last_of_node = λ n inside.
            elim (cases_eq n node) [
              | inl same ↦
                  subst (IsLast items (bound + 1) n) (sym (ap (place_in (slice_set starts node (AtItem bound))) same ∙ get_or-set_same starts node (AtItem bound) Top (omega (arith, h.start_count))))
                  (omega arith, sym same, λ j above below. absurd (omega arith))
              | inr other ↦
                  subst (IsLast items (bound + 1) n) (sym (get_or-set_other starts node n (AtItem bound) Top other))
                  (still_last bound n (place_in starts n) (λ e. other (sym e)) (h.last_of_node n inside))
            ];
        last_before = λ i inside.
            elim (cases_eq i bound) [
              | inl last ↦
                  subst (λ (k : ℕ). IsLast items k (item_at items k).node (place_in (nexts ++ place_in starts node ∷ []) k)) (sym last)
                  (subst (IsLast items bound node) (sym (get_or_push nexts (place_in starts node) Top bound h.next_count)) (h.last_of_node node lt))
              | inr before ↦
                  subst (IsLast items i (item_at items i).node) (sym (get_or_append_left nexts (place_in starts node ∷ []) Top i (omega (arith, h.next_count)))) (h.last_before i (omega arith))
            ];
      }

  pub all_items : (nodes bound : ℕ) (starts nexts : List Place) → bound ≡ length items → AreWaysTo items nodes bound starts nexts → AreWays items nodes starts nexts
  all_items nodes bound starts nexts e h =
      record {
        start_count = h.start_count;
        next_count = h.next_count ∙ e;
        last_of_node = λ n lt. subst (λ (k : ℕ). IsLast items k n (place_in starts n)) e (h.last_of_node n lt);
        last_before = λ i lt. h.last_before i (omega (arith, e));
      }
