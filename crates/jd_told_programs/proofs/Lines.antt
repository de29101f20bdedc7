-- The classes above a class are those that its line leads to.
use Rattle.std.proofs.Common.{List, None, Option, Some, ap, arith, length, map, refl, subst, suc, sym, zero, ◌+◌, ◌-◌, ◌<◌, ◌≡◌, ◌≤◌, ◌∙◌, ◌∷◌, ℕ, []}
use Rattle.std.specs.List.{range_with_len, slice_get}
use Rattle.std.specs.Prelude.{slice_index}
use Rattle.std.proofs.lemmas.List.FromFn.{get_or-map-range_with_len, length-map-range_with_len}
use Rattle.std.proofs.lemmas.Option.{none-some, same_Some, slice_get_within}
use Rattle.jd_ancestry.specs.Ancestors.{AreNodes}
use Rattle.jd_ancestry.specs.Depths.{IsDepths}
use Rattle.jd_classes.specs.Fields.{IsLineage}
use Rattle.jd_classes.specs.Fields.IsLineage.{extends, topmost}
use Rattle.jd_names.proofs.Seeing.{depth_within}
use Rattle.jd_told_programs.specs.Told.{line, line_above}

module _ (parents : List (Option ℕ)) where
  -- a class that has a lineage is one of those with parents
  inside : (c : ℕ) (l : List ℕ) → IsLineage parents c l → c < length parents
  inside c _ (topmost _ e) = slice_get_within parents c None e
  inside c _ (extends a _ above e rest) = slice_get_within parents c (Some a) e

  -- there is one
  one_lineage : (c : ℕ) (l m : List ℕ) → IsLineage parents c l → IsLineage parents c m → l ≡ m
  one_lineage c _ _ (topmost _ e) (topmost _ f) = refl
  one_lineage c _ _ (topmost _ e) (extends b _ above f rest) = absurd (none-some b (same_Some None (Some b) (sym e ∙ f)))
  one_lineage c _ _ (extends a _ above e rest) (topmost _ f) = absurd (none-some a (same_Some None (Some a) (sym f ∙ e)))
  one_lineage c _ _ (extends a _ above e rest) (extends b _ beyond f more) =
      let same = same_Some a b (same_Some (Some a) (Some b) (sym e ∙ f)) in
      ap (λ l. c ∷ l) (one_lineage b above beyond (subst (λ x. IsLineage parents x above) same rest) more)

  -- a line of enough classes is it
  is_line : (n c : ℕ) (l : List ℕ) → IsLineage parents c l → length l ≤ n → line parents n c ≡ l
  is_line zero c _ (topmost _ e) le = absurd (omega (arith, le))
  is_line zero c _ (extends a _ above e rest) le = absurd (omega (arith, le))
  is_line (suc n) c _ (topmost _ e) le = ap (λ o. c ∷ line_above (line parents n) o) e
  is_line (suc n) c _ (extends a _ above e rest) le = ap (λ o. c ∷ line_above (line parents n) o) e ∙ ap (λ l. c ∷ l) (is_line n a above rest (omega (arith, le)))

  module _ (lineage : ℕ → List ℕ) (each : (c : ℕ) → c < length parents → IsLineage parents c (lineage c)) where
    -- how many classes stand above one
    abbrev above_it : ℕ → ℕ
    above_it c = length (lineage c) - 1

    abbrev depths : List ℕ
    depths = map above_it (range_with_len 0 (length parents))

    depth_is : (c : ℕ) → c < length parents → slice_index depths c ≡ above_it c
    depth_is c lt = get_or-map-range_with_len above_it 0 (length parents) c c 0 lt (omega arith)

    counted : (c : ℕ) (l : List ℕ) → IsLineage parents c l → 0 < length l
    counted c _ (topmost _ e) = omega arith
    counted c _ (extends a _ above e rest) = omega arith

    on_top : (b : ℕ) → slice_get parents b ≡ Some None → slice_index depths b ≡ 0
    on_top b e =
        let lt = slice_get_within parents b None e in
        depth_is b lt ∙ ap (λ (l : List ℕ). length l - 1) (one_lineage b (lineage b) (b ∷ []) (each b lt) (topmost b e))

    below : (a b : ℕ) → slice_get parents b ≡ Some (Some a) → slice_index depths b ≡ 1 + slice_index depths a
    below a b e = by (each b lt)
      where
        lt : b < length parents
        lt = slice_get_within parents b (Some a) e

        next : (above : List ℕ) → IsLineage parents a above → slice_index depths b ≡ 1 + slice_index depths a
        next above rest =
            let in_ = inside a above rest in
            let here = depth_is b lt ∙ ap (λ (l : List ℕ). length l - 1) (one_lineage b (lineage b) (b ∷ above) (each b lt) (extends a b above e rest)) in
            let there = depth_is a in_ ∙ ap (λ (l : List ℕ). length l - 1) (one_lineage a (lineage a) above (each a in_) rest) in
            let some = counted a above rest in
            omega (arith, here, there, some)

        by : IsLineage parents b (lineage b) → slice_index depths b ≡ 1 + slice_index depths a
        by h = elim_line b (lineage b) h e next
          where
            elim_line : (c : ℕ) (l : List ℕ) → IsLineage parents c l → slice_get parents c ≡ Some (Some a) → ((above : List ℕ) → IsLineage parents a above → slice_index depths b ≡ 1 + slice_index depths a) → slice_index depths b ≡ 1 + slice_index depths a
            elim_line c _ (topmost _ f) g k = absurd (none-some a (same_Some None (Some a) (sym f ∙ g)))
            elim_line c _ (extends q _ above f rest) g k = k above (subst (λ x. IsLineage parents x above) (same_Some q a (same_Some (Some q) (Some a) (sym f ∙ g))) rest)

    deep : IsDepths parents depths
    deep = record { count = length-map-range_with_len above_it 0 (length parents); on_top = on_top; below = below }

    nodes : AreNodes parents
    nodes a b e = by (each b (slice_get_within parents b (Some a) e)) e
      where
        by : {l : List ℕ} → IsLineage parents b l → slice_get parents b ≡ Some (Some a) → a < length parents
        by (topmost _ f) g = absurd (none-some a (same_Some None (Some a) (sym f ∙ g)))
        by (extends q _ above f rest) g = subst (λ x. x < length parents) (same_Some q a (same_Some (Some q) (Some a) (sym f ∙ g))) (inside q above rest)

    -- no class has more above it than there are classes
    few : (c : ℕ) → c < length parents → length (lineage c) ≤ length parents
    few c lt =
        let most = depth_within parents depths deep nodes c lt in
        let at = depth_is c lt in
        let some = counted c (lineage c) (each c lt) in
        omega (arith, most, at, some)

    pub line_is : (c : ℕ) → c < length parents → line parents (length parents) c ≡ lineage c
    line_is c lt = is_line (length parents) c (lineage c) (each c lt) (few c lt)
