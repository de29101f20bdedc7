-- One step up the way from a place: what it passes.
use Rattle.std.proofs.Common.{◌≡◌, ◌≢◌, refl, suc, ℕ, ◌+◌, ◌*◌, ◌<◌, ◌≤◌, ◌&&◌, ◌||◌, ◌==◌, Bool, true, false, List, Option, Some, None, length, get_or, ltb, sym, ap, ◌∙◌, inl, inr, arith}
use Rattle.std.proofs.lemmas.Bool.{cases_lt, and_parts, and_left, and_right, or_from, or_left, and_from, eq-eqb, ne_eqb, eqb-true, lt-ltb, le-ltb, ltb-true, false_from_ne_true}
use Rattle.std.proofs.lemmas.Option.{slice_get-get_or}
use Rattle.std.specs.List.{slice_get}
use Rattle.jd_ancestry.specs.Ancestors.{AreNodes}
use Rattle.jd_inherited.specs.declared.items.Item.{Item}
use Rattle.jd_inherited.specs.declared.places.Place.{Place}
use Rattle.jd_inherited.specs.declared.places.Place.TheVariants.{AtItem, AtNode, Top}
use Rattle.jd_ancestry.specs.Depths.{IsDepths}
use Rattle.jd_inherited.specs.Places.{item_at, place_in, start_above, next_place, IsPlace, IsLast, AreWays, HaveNodesBelow}
use Rattle.jd_inherited.specs.Tallies.{above_node, is_passed, count_below, tally, here}
use Rattle.jd_inherited.proofs.Aboves.{depth_below, none_above, not_above_itself, up_from}
use Rattle.jd_inherited.proofs.Counting.{same_count, none_counted, one_apart, one_if}

-- it falls along the way
abbrev pub rank : List ℕ → List Item → Place → ℕ
rank depths items (AtItem i) = get_or depths (item_at items i).node 0 * (length items + 1) + i + 2
rank depths items (AtNode n) = get_or depths n 0 * (length items + 1) + 1
rank depths items Top = 0

-- a place y comes after x
pub record IsStep (parents : List (Option ℕ)) (depths : List ℕ) (items : List Item) (x y : Place) : Type 0 where
  pub place : IsPlace items (length parents) y
  pub falls : rank depths items y < rank depths items x
  pub tallies : (test : ℕ → Bool) → tally parents depths items x test ≡ here x test + tally parents depths items y test

same_and : (a b c : Bool) → (a ≡ true → b ≡ c) → (a && b) ≡ (a && c)
same_and true b c h = h refl
same_and false b c h = refl

same_less : (j m n : ℕ) → (j < m → j < n) → (j < n → j < m) → ltb j m ≡ ltb j n
same_less j m n p q =
    elim (cases_lt j m) [
      | inl below ↦ lt-ltb j m below ∙ sym (lt-ltb j n (p below))
      | inr above ↦
          elim (cases_lt j n) [
            | inl below ↦ absurd (let lt = q below in omega arith)
            | inr also ↦ le-ltb j m above ∙ sym (le-ltb j n also)
          ]
    ]

module _ (parents : List (Option ℕ)) (depths : List ℕ) (items : List Item) (h : IsDepths parents depths) where
  abbrev node : ℕ → ℕ
  node j = (item_at items j).node

  abbrev passed : Place → ℕ → Bool
  passed x j = is_passed parents depths items x j

  -- the items of a node that stand at a place of its or after it
  abbrev among : ℕ → ℕ → ℕ → Bool
  among n i j = ((node j == n) && ltb j (suc i)) || above_node parents depths (node j) n

  passed_item : (i n j : ℕ) → node i ≡ n → passed (AtItem i) j ≡ among n i j
  passed_item i n j e = ap (λ n. among n i j) e

  passed_node : (m n j : ℕ) → m ≡ n → passed (AtNode m) j ≡ above_node parents depths (node j) n
  passed_node m n j e = ap (λ n. above_node parents depths (node j) n) e

  passes_itself : (i : ℕ) → passed (AtItem i) i ≡ true
  passes_itself i = or_left _ _ (and_from _ _ (eq-eqb (node i) (node i) refl) (lt-ltb i (suc i) (omega arith)))

  -- the place before an item does not pass the item
  not_passed : (i : ℕ) (q : Place) → IsLast items i (node i) q → passed q i ≡ false
  not_passed i (AtItem k) last =
      passed_item k (node i) i last.1
      ∙ or_from _ _ (and_right (node i == node i) _ (le-ltb i (suc k) (omega (arith, last.0)))) (not_above_itself parents depths h (node i))
  not_passed i (AtNode m) last = passed_node m (node i) i last.0 ∙ not_above_itself parents depths h (node i)
  not_passed i Top last = absurd last

  -- but all others that the item passes
  passes_others : (i : ℕ) (q : Place) → IsLast items i (node i) q → (j : ℕ) → j ≢ i → passed (AtItem i) j ≡ passed q j
  passes_others i (AtItem k) last j other =
      ap (λ t. t || above_node parents depths (node j) (node i)) (same_and (node j == node i) (ltb j (suc i)) (ltb j (suc k)) (λ t. among_same (eqb-true (node j) (node i) t)))
      ∙ sym (passed_item k (node i) j last.1)
    where
      among_same : node j ≡ node i → ltb j (suc i) ≡ ltb j (suc k)
      among_same e =
          same_less j (suc i) (suc k)
          (λ below. elim (cases_lt k j) [ inl between ↦ absurd (last.2 j between (omega (arith, other)) e) | inr lower ↦ omega arith ])
          (λ below. omega (arith, last.0))
  passes_others i (AtNode m) last j other =
      ap (λ t. t || above_node parents depths (node j) (node i)) (false_from_ne_true ((node j == node i) && ltb j (suc i)) (λ t. none_such (and_parts (node j == node i) (ltb j (suc i)) t)))
      ∙ sym (passed_node m (node i) j last.0)
    where
      none_such : ((node j == node i) ≡ true) × (ltb j (suc i) ≡ true) → ⊥
      none_such both = let lt = ltb-true j (suc i) both.1 in last.1 j (omega (arith, other)) (eqb-true (node j) (node i) both.0)
  passes_others i Top last j other = absurd last

  item_tallies : (i : ℕ) (q : Place) → i < length items → IsLast items i (node i) q → (test : ℕ → Bool)
      → tally parents depths items (AtItem i) test ≡ here (AtItem i) test + tally parents depths items q test
  unfolding tally
  item_tallies i q lt last test =
      one_apart (λ j. passed (AtItem i) j && test j) (λ j. passed q j && test j) (length items) i lt
      (and_left (passed q i) (test i) (not_passed i q last))
      (λ j below other. ap (λ t. t && test j) (passes_others i q last j other))
      ∙ ap (λ t. one_if (t && test i) + count_below (λ j. passed q j && test j) (length items)) (passes_itself i)

  -- what stands above a node is what the way from the node above it passes
  passes_above : (n p : ℕ) (q : Place) → slice_get parents n ≡ Some (Some p) → IsLast items (length items) p q → (j : ℕ) → j < length items → passed (AtNode n) j ≡ passed q j
  passes_above n p (AtItem k) e last j lt =
      up_from parents depths h (node j) p n e
      ∙ ap (λ t. t || above_node parents depths (node j) p) (all_among (node j == p) (ltb j (suc k)) (λ t. below_last (eqb-true (node j) p t)))
      ∙ sym (passed_item k p j last.1)
    where
      all_among : (a b : Bool) → (a ≡ true → b ≡ true) → a ≡ (a && b)
      all_among true b f = sym (f refl)
      all_among false b f = refl

      below_last : node j ≡ p → ltb j (suc k) ≡ true
      below_last same = elim (cases_lt k j) [ inl past ↦ absurd (last.2 j past lt same) | inr lower ↦ lt-ltb j (suc k) (omega arith) ]
  passes_above n p (AtNode m) e last j lt =
      up_from parents depths h (node j) p n e
      ∙ ap (λ t. t || above_node parents depths (node j) p) (ne_eqb (node j) p (last.1 j lt))
      ∙ sym (passed_node m p j last.0)
  passes_above n p Top e last j lt = absurd last

  node_tallies : (n p : ℕ) (q : Place) → slice_get parents n ≡ Some (Some p) → IsLast items (length items) p q → (test : ℕ → Bool)
      → tally parents depths items (AtNode n) test ≡ here (AtNode n) test + tally parents depths items q test
  unfolding tally
  node_tallies n p q e last test =
      let same = same_count (λ j. passed (AtNode n) j && test j) (λ j. passed q j && test j) (length items) (λ j lt. ap (λ t. t && test j) (passes_above n p q e last j lt)) in
      omega (arith, same)

  -- nothing is passed past the last node
  pub nothing_passed : (test : ℕ → Bool) → tally parents depths items Top test ≡ 0
  unfolding tally
  nothing_passed test = none_counted (λ j. passed Top j && test j) (length items) (λ j lt. refl)

  top_tallies : (n : ℕ) → slice_get parents n ≡ Some None → (test : ℕ → Bool) → tally parents depths items (AtNode n) test ≡ here (AtNode n) test + tally parents depths items Top test
  unfolding tally
  top_tallies n e test =
      let none = none_counted (λ j. passed (AtNode n) j && test j) (length items) (λ j lt. and_left (passed (AtNode n) j) (test j) (none_above parents depths h (node j) n e)) in
      let nothing = none_counted (λ j. passed Top j && test j) (length items) (λ j lt. refl) in
      omega (arith, none, nothing)

  abbrev level : ℕ → ℕ
  level n = get_or depths n 0 * (length items + 1)

  item_falls : (i : ℕ) (q : Place) → IsLast items i (node i) q → rank depths items q < rank depths items (AtItem i)
  item_falls i (AtItem k) last = let same : level (node k) ≡ level (node i) = ap level last.1 in omega (arith, last.0, same)
  item_falls i (AtNode m) last = let same : level m ≡ level (node i) = ap level last.0 in omega (arith, same)
  item_falls i Top last = absurd last

  node_falls : (n p : ℕ) (q : Place) → slice_get parents n ≡ Some (Some p) → IsLast items (length items) p q → rank depths items q < rank depths items (AtNode n)
  node_falls n p (AtItem k) e last =
      let same : level (node k) ≡ level p = ap level last.1 in
      let lower : level n ≡ suc (get_or depths p 0) * (length items + 1) = ap (λ d. d * (length items + 1)) (depth_below parents depths h p n e) in
      omega (arith, last.0, same, lower)
  node_falls n p (AtNode m) e last =
      let same : level m ≡ level p = ap level last.0 in
      let lower : level n ≡ suc (get_or depths p 0) * (length items + 1) = ap (λ d. d * (length items + 1)) (depth_below parents depths h p n e) in
      omega (arith, same, lower)
  node_falls n p Top e last = absurd last

  last_place : (bound n : ℕ) (q : Place) → bound ≤ length items → n < length parents → IsLast items bound n q → IsPlace items (length parents) q
  last_place bound n (AtItem k) le lt last = omega (arith, last.0)
  last_place bound n (AtNode m) le lt last = omega (arith, last.0)
  last_place bound n Top le lt last = absurd last

  module _ (nodes : AreNodes parents) (within : HaveNodesBelow (length parents) items) (starts nexts : List Place) (ways : AreWays items (length parents) starts nexts) where
    after_node : (n : ℕ) (o : Option ℕ) → slice_get parents n ≡ Some o → IsStep parents depths items (AtNode n) (start_above starts o)
    after_node n None e = record { place = tt; falls = omega arith; tallies = top_tallies n e }
    after_node n (Some p) e =
        let inside : p < length parents = nodes p n e in
        let last = ways.last_of_node p inside in
        record {
          place = last_place (length items) p (place_in starts p) (omega arith) inside last;
          falls = node_falls n p (place_in starts p) e last;
          tallies = node_tallies n p (place_in starts p) e last;
        }

    pub next_step : (x : Place) → IsPlace items (length parents) x → 0 < rank depths items x → IsStep parents depths items x (next_place parents starts nexts x)
    next_step (AtItem i) lt above =
        let last = ways.last_before i lt in
        record {
          place = last_place i (node i) (place_in nexts i) (omega arith) (within i lt) last;
          falls = item_falls i (place_in nexts i) last;
          tallies = item_tallies i (place_in nexts i) lt last;
        }
    next_step (AtNode n) lt above = after_node n (get_or parents n None) (slice_get-get_or parents n None lt)
    next_step Top lt above = absurd (omega arith)
