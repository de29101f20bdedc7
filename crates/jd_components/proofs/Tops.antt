-- The nodes that stand below none, and the roots that are found from them.
use Rattle.std.proofs.Common.{◌≡◌, refl, ℕ, zero, suc, ◌+◌, ◌*◌, ◌<◌, ◌≤◌, List, [], ◌∷◌, ◌++◌, length, map, get_or, Option, Some, None, MatchOption, sym, ap, subst, ◌∙◌, inl, inr, arith}
use Rattle.std.proofs.lemmas.Bool.{cases_eq, cases_lt}
use Rattle.std.proofs.lemmas.List.{get_or_append_left, get_or_push, get_or_past, get_or-map, length-append, length-map}
use Rattle.std.proofs.lemmas.Option.{none-some, same_Some, slice_get_within, slice_get-get_or}
use Rattle.std.specs.List.{slice_get}
use Rattle.std.specs.Option.{unwrap_or}
use Rattle.jd_ancestry.specs.Ancestors.{AreNodes}
use Rattle.jd_ancestry.specs.Depths.{IsDepths}
use Rattle.jd_nearest.specs.Nearest.{AreNearest, AtOrAbove, IsInherited, column}
use Rattle.jd_nearest.proofs.Standing.{step_down}
use Rattle.jd_components.specs.Roots.{AreRoots, AreTops, IsRoot}

-- so many nodes are looked at
pub record AreTopsBegun (parents tops : List (Option ℕ)) (done : ℕ) : Type 0 where
  pub count : length tops ≡ done
  pub own : (a : ℕ) → a < done → slice_get parents a ≡ Some None → get_or tops a None ≡ Some a
  pub only : (a v : ℕ) → get_or tops a None ≡ Some v → (v ≡ a) × (slice_get parents a ≡ Some None)

pub no_tops : (parents tops : List (Option ℕ)) → tops ≡ [] → AreTopsBegun parents tops 0
no_tops parents tops e = record {
  count = ap length e;
  own = λ a lt f. absurd (omega arith);
  only = λ a v f. absurd (none-some v (sym (ap (λ (l : List (Option ℕ)). get_or l a None) e) ∙ f));
}

own_of : (parents : List (Option ℕ)) (node : ℕ) (parent top : Option ℕ) → slice_get parents node ≡ Some parent → MatchOption parent (top ≡ Some node) (λ p. top ≡ None) → slice_get parents node ≡ Some None → top ≡ Some node
own_of parents node None top there is e = is
own_of parents node (Some p) top there is e = absurd (none-some p (same_Some None (Some p) (sym e ∙ there)))

only_of : (parents : List (Option ℕ)) (node v : ℕ) (parent top : Option ℕ) → slice_get parents node ≡ Some parent → MatchOption parent (top ≡ Some node) (λ p. top ≡ None) → top ≡ Some v
    → (v ≡ node) × (slice_get parents node ≡ Some None)
only_of parents node v None top there is e = (same_Some v node (sym e ∙ is), there)
only_of parents node v (Some p) top there is e = absurd (none-some v (sym is ∙ e))

pub one_more_top : (parents tops : List (Option ℕ)) (node : ℕ) (parent top d : Option ℕ) → node < length parents → parent ≡ get_or parents node d → MatchOption parent (top ≡ Some node) (λ p. top ≡ None)
    → AreTopsBegun parents tops node → AreTopsBegun parents (tops ++ top ∷ []) (node + 1)
one_more_top parents tops node parent top d within read is before = record {
  count = length-append tops (top ∷ []) ∙ ap (λ l. l + 1) before.count;
  own = λ a lt e.
      elim (cases_eq a node) [
        | inl last ↦ get_or_push tops top None a (before.count ∙ sym last) ∙ own_of parents node parent top there is (ap (slice_get parents) (sym last) ∙ e) ∙ ap Some (sym last)
        | inr earlier ↦ get_or_append_left tops (top ∷ []) None a (omega (arith, before.count)) ∙ before.own a (omega arith) e
      ];
  only = λ a v e.
      elim (cases_lt a node) [
        | inl earlier ↦ before.only a v (sym (get_or_append_left tops (top ∷ []) None a (omega (arith, before.count))) ∙ e)
        | inr behind ↦
            elim (cases_eq a node) [
              | inl last ↦
                  let both = only_of parents node v parent top there is (sym (get_or_push tops top None a (before.count ∙ sym last)) ∙ e) in
                  (both.0 ∙ sym last, ap (slice_get parents) last ∙ both.1)
              | inr past ↦ absurd (none-some v (sym (get_or_past (tops ++ top ∷ []) a None (omega (arith, length-append tops (top ∷ []), before.count))) ∙ e))
            ]
      ];
}
  where
    there : slice_get parents node ≡ Some parent
    there = slice_get-get_or parents node d within ∙ ap Some (sym read)

pub all_tops : (parents tops : List (Option ℕ)) (done : ℕ) → length parents ≤ done → done ≤ length parents → AreTopsBegun parents tops done → AreTops parents tops
all_tops parents tops done all most begun = record {
  count = omega (arith, begun.count);
  own = λ a e. begun.own a (omega (arith, slice_get_within parents a None e)) e;
  only = begun.only;
}

module _ (parents : List (Option ℕ)) (depths : List ℕ) (known : IsDepths parents depths) (nodes : AreNodes parents) where
  root_by_parent : (a : ℕ) → (above : (p : ℕ) → slice_get parents a ≡ Some (Some p) → (r : ℕ) × IsRoot parents r p) → (o : Option ℕ) → slice_get parents a ≡ Some o → (r : ℕ) × IsRoot parents r a
  root_by_parent a above None e = (a, record { there = inl refl; on_top = e })
  root_by_parent a above (Some p) e =
      let root = above p e in
      (root.0, record { there = inr (step_down parents root.0 p a e root.1.there); on_top = root.1.on_top })

  -- each node has a root
  has_root : (steps a : ℕ) → get_or depths a 0 < steps → a < length parents → (r : ℕ) × IsRoot parents r a
  has_root zero a low within = absurd (omega arith)
  has_root (suc steps) a low within =
      root_by_parent a (λ p e. has_root steps p (omega (arith, known.below p a e)) (nodes p a e)) (get_or parents a None) (slice_get-get_or parents a None within)

  module _ (tops values : List (Option ℕ)) (are_tops : AreTops parents tops) (near : AreNearest parents 1 tops values) where
    -- of one column each row is a cell
    cell : (cells : List (Option ℕ)) (a : ℕ) → column 1 cells 0 a ≡ get_or cells a None
    cell cells a = ap (λ (i : ℕ). get_or cells i None) (let one : a * 1 + 0 ≡ a = omega arith in one)

    root_of : (a : ℕ) → a < length parents → (o : Option ℕ) → IsInherited parents (column 1 tops 0) a o → IsRoot parents (unwrap_or o 0) a
    root_of a within None none =
        let root = has_root (get_or depths a 0 + 1) a (omega arith) within in
        absurd (none root.0 root.0 root.1.there (cell tops root.0 ∙ are_tops.own root.0 root.1.on_top))
    root_of a within (Some v) nearest =
        let both = are_tops.only nearest.owner v (sym (cell tops nearest.owner) ∙ nearest.has) in
        record {
          there = subst (λ (x : ℕ). AtOrAbove parents x a) (sym both.0) nearest.there;
          on_top = ap (slice_get parents) both.0 ∙ both.1;
        }

    pub are_roots : (roots : List ℕ) → roots ≡ map (λ o. unwrap_or o 0) values → AreRoots parents roots
    are_roots roots e = record {
      count = same_count;
      each = λ a lt.
          let read : get_or roots a 0 ≡ unwrap_or (get_or values a None) 0 = ap (λ (l : List ℕ). get_or l a 0) e ∙ get_or-map (λ (o : Option ℕ). unwrap_or o 0) values a None 0 (omega (arith, near.count, are_tops.count)) in
          subst (λ (r : ℕ). IsRoot parents r a) (sym read)
          (root_of a lt (get_or values a None) (subst (IsInherited parents (column 1 tops 0) a) (cell values a) (near.each a 0 lt (omega arith))));
    }
      where
        same_count : length roots ≡ length parents
        same_count = ap length e ∙ length-map values (λ (o : Option ℕ). unwrap_or o 0) ∙ near.count ∙ are_tops.count
