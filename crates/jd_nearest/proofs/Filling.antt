-- The rows are filled in the order of the nodes' depths.
use Rattle.std.proofs.Common.{◌≡◌, ◌≢◌, refl, ◌⊎◌, ℕ, ◌+◌, ◌*◌, ◌<◌, ◌≤◌, List, length, get_or, Option, Some, None, sym, ap, subst, ◌∙◌, inl, inr, arith}
use Rattle.std.proofs.lemmas.Bool.{cases_eq, cases_lt}
use Rattle.std.proofs.lemmas.List.{get_or_default}
use Rattle.std.proofs.lemmas.Option.{slice_get-get_or}
use Rattle.std.specs.List.{slice_get}
use Rattle.jd_ancestry.specs.Ancestors.{AreNodes}
use Rattle.jd_ancestry.specs.Depths.{IsDepths}
use Rattle.jd_nearest.specs.Nearest.{AreNearest, IsInherited, column}
use Rattle.jd_nearest.specs.Orders.{IsByDepth}
use Rattle.jd_nearest.specs.Rows.{AreFilled, IsRowFilled}
use Rattle.jd_nearest.proofs.Cells.{row_before}
use Rattle.jd_nearest.proofs.Inheriting.{inherits, inherits_on_top}

-- the row of a node stands within the rows of all nodes
pub row_within : (nodes width a room : ℕ) → a < nodes → room ≡ nodes * width → a * width + width ≤ room
row_within nodes width a room lt e = omega (arith, row_before a nodes width lt)

-- what the list reads at a node
pub read_parent : (parents : List (Option ℕ)) (node : ℕ) (d p : Option ℕ) → node < length parents → get_or parents node d ≡ p → slice_get parents node ≡ Some p
read_parent parents node d p lt e = slice_get-get_or parents node d lt ∙ ap Some e

pub no_parent : (o : Option ℕ) → ((x : ℕ) → o ≡ Some x → ⊥) → o ≡ None
no_parent None none = refl
no_parent (Some x) none = absurd (none x refl)

pub other_node : (parents : List (Option ℕ)) (depths : List ℕ) (node parent : ℕ) → IsDepths parents depths → slice_get parents node ≡ Some (Some parent) → parent ≢ node
other_node parents depths node parent known e same =
    omega (arith, known.below parent node e, ap (λ (i : ℕ). get_or depths i 0) same)

module _ (parents : List (Option ℕ)) (depths : List ℕ) (width : ℕ) (own : List (Option ℕ)) (order : List (ℕ × ℕ)) where
  pub none_filled : (values : List (Option ℕ)) → values ≡ own → AreFilled parents width own values order 0
  none_filled values same = record {
    count = ap length same;
    filled = λ j k d lt. absurd (omega arith);
    others = λ a k inside lt. inl (ap (λ (l : List (Option ℕ)). column width l k a) same);
  }

  -- the node at a place, whatever is read past the end
  at_place : (j n : ℕ) (d e : ℕ × ℕ) → j < length order → (get_or order j d).1 ≡ n → (get_or order j e).1 ≡ n
  at_place j n d e lt h = ap (λ (p : ℕ × ℕ). p.1) (get_or_default order j e d lt) ∙ h

  module _ (known : IsDepths parents depths) (sorted : IsByDepth depths order) (done n : ℕ) (d : ℕ × ℕ) (within : done < length order) (here : (get_or order done d).1 ≡ n) where
    pub is_node : n < length parents
    is_node = omega (arith, sorted.nodes done d within, known.count)

    depth_here : (get_or order done d).0 ≡ get_or depths n 0
    depth_here = (sorted.nodes done d within).1 ∙ ap (λ (i : ℕ). get_or depths i 0) here

    -- what it stands directly below came earlier
    earlier : (p : ℕ) → slice_get parents n ≡ Some (Some p) → p < length parents → (j : ℕ) × (j < done) × ((get_or order j (get_or depths p 0, p)).1 ≡ p)
    earlier p parent inside =
        let place = sorted.complete p (omega (arith, known.count)) in
        elim (cases_lt place.0 done) [
          | inl before ↦ (place.0, before, ap (λ (q : ℕ × ℕ). q.1) place.2)
          | inr behind ↦ absurd (omega (
            arith,
            sorted.rising done place.0 d behind place.1,
            depth_here,
            known.below p n parent,
            ap (λ (q : ℕ × ℕ). q.0) (get_or_default order place.0 d (get_or depths p 0, p) place.1 ∙ place.2),
          ))
        ]

    -- one more row stands as it must
    one_more : (values : List (Option ℕ)) (new : List (Option ℕ)) → AreFilled parents width own values order done → length new ≡ length values
        → ((k : ℕ) → k < width → IsInherited parents (column width own k) n (column width new k n))
        → ((a k : ℕ) → k < width → a ≢ n → column width new k a ≡ column width values k a) → AreFilled parents width own new order (done + 1)
    one_more values new before same row others = record {
      count = same ∙ before.count;
      filled = λ j k e lt inside.
          elim (cases_eq (get_or order j e).1 n) [
            | inl this ↦ subst (λ (a : ℕ). IsInherited parents (column width own k) a (column width new k a)) (sym this) (row k inside)
            | inr other ↦
                let early : j < done = elim (cases_eq j done) [
                  | inl last ↦ absurd (other (ap (λ (i : ℕ). (get_or order i e).1) last ∙ at_place done n d e within here))
                  | inr less ↦ (omega arith)
                ] in
                subst (IsInherited parents (column width own k) (get_or order j e).1) (sym (others (get_or order j e).1 k inside other)) (before.filled j k e early inside)
          ];
      others = λ a k inside lt.
          elim (cases_eq a n) [
            | inl this ↦ inr (subst (λ (b : ℕ). IsInherited parents (column width own k) b (column width new k b)) (sym this) (row k lt))
            | inr other ↦ subst (λ (o : Option ℕ). (o ≡ column width own k a) ⊎ IsInherited parents (column width own k) a o) (sym (others a k lt other)) (before.others a k inside lt)
          ];
    }

    pub filled_below : (values new : List (Option ℕ)) (p : ℕ) → AreNodes parents → slice_get parents n ≡ Some (Some p) → IsRowFilled width values new n p → length new ≡ length values
        → AreFilled parents width own values order done → AreFilled parents width own new order (done + 1)
    filled_below values new p nodes parent row same before =
        let place = earlier p parent (nodes p n parent) in
        one_more values new before same
        (λ k lt.
        subst (IsInherited parents (column width own k) n) (sym (row.row k lt))
        (inherits parents (column width own k) n p (column width values k n) (column width values k p) parent (before.others n k is_node lt)
        (subst (λ (a : ℕ). IsInherited parents (column width own k) a (column width values k a)) place.2 (before.filled place.0 k (get_or depths p 0, p) place.1 lt))))
        row.others

    pub filled_on_top : (values : List (Option ℕ)) → slice_get parents n ≡ Some None → AreFilled parents width own values order done → AreFilled parents width own values order (done + 1)
    filled_on_top values top before =
        one_more values values before refl (λ k lt. inherits_on_top parents (column width own k) n (column width values k n) top (before.others n k is_node lt))
        (λ a k lt other. refl)

  pub all_filled : (values : List (Option ℕ)) (done : ℕ) → IsDepths parents depths → IsByDepth depths order → length order ≤ done → AreFilled parents width own values order done
      → AreNearest parents width own values
  all_filled values done known sorted all before = record {
    count = before.count;
    each = λ a k inside lt.
        let place = sorted.complete a (omega (arith, known.count)) in
        subst (λ (b : ℕ). IsInherited parents (column width own k) b (column width values k b)) (ap (λ (q : ℕ × ℕ). q.1) place.2)
        (before.filled place.0 k (get_or depths a 0, a) (omega (arith, place.1)) lt);
  }
