-- Whether a node stands above another, as it is tested along the parents.
use Rattle.std.proofs.Common.{◌≡◌, refl, zero, suc, ℕ, ◌<◌, ◌||◌, ◌==◌, true, false, List, length, Option, Some, None, get_or, sym, ap, ◌∙◌, inl, inr, arith}
use Rattle.std.proofs.lemmas.List.{get_or_past}
use Rattle.std.proofs.lemmas.Bool.{cases_lt, or_cases, or_left, or_right, eq-eqb, eqb-true, false_from_ne_true, both_ways}
use Rattle.std.proofs.lemmas.Option.{get_or_from_slice_get, slice_get-get_or}
use Rattle.std.specs.List.{slice_get}
use Rattle.jd_ancestry.specs.Ancestors.{Above}
use Rattle.jd_ancestry.specs.Ancestors.Above.{above_child, above_parent}
use Rattle.jd_ancestry.specs.Depths.{IsDepths}
use Rattle.jd_inherited.specs.Tallies.{is_above, above_node, or_none}

no_some : {A : Type 0} (x : A) → None ≡ Some x → ⊥
no_some x e = cc

module _ (parents : List (Option ℕ)) where
  -- what the list has, read with a default, it has
  pub really_there : (b a : ℕ) → get_or parents b None ≡ Some a → slice_get parents b ≡ Some (Some a)
  really_there b a e =
      elim (cases_lt b (length parents)) [
        | inl inside ↦ slice_get-get_or parents b None inside ∙ ap Some e
        | inr past ↦ absurd (no_some a (sym (get_or_past parents b None past) ∙ e))
      ]

  -- one step up
  one_up : (steps a b : ℕ) (o : Option ℕ) → get_or parents b None ≡ o → is_above parents (suc steps) a b ≡ or_none (λ p. (a == p) || is_above parents steps a p) o
  unfolding is_above
  one_up steps a b o e = ap (or_none (λ p. (a == p) || is_above parents steps a p)) e

  pub sound : (steps a b : ℕ) → is_above parents steps a b ≡ true → Above parents a b
  unfolding is_above
  sound zero a b h = absurd (both_ways _ refl h)
  sound (suc steps) a b h = by_parent (λ p. sound steps a p) (get_or parents b None) refl h
    where
      by_parent : ((p : ℕ) → is_above parents steps a p ≡ true → Above parents a p) → (o : Option ℕ) → get_or parents b None ≡ o
          → or_none (λ p. (a == p) || is_above parents steps a p) o ≡ true → Above parents a b
      by_parent higher None e t = absurd (both_ways _ refl t)
      by_parent higher (Some p) e t =
          elim (or_cases (a == p) (is_above parents steps a p) t) [
            | inl same ↦ above_child a b (really_there b a (e ∙ ap Some (sym (eqb-true a p same))))
            | inr above ↦ above_parent a p b (really_there b p e) (higher p above)
          ]

  module _ (depths : List ℕ) (h : IsDepths parents depths) where
    pub depth_below : (a b : ℕ) → slice_get parents b ≡ Some (Some a) → get_or depths b 0 ≡ suc (get_or depths a 0)
    depth_below a b e = omega (arith, h.below a b e)

    pub up_from : (a p b : ℕ) → slice_get parents b ≡ Some (Some p) → above_node parents depths a b ≡ ((a == p) || above_node parents depths a p)
    up_from a p b e =
        ap (λ n. is_above parents n a b) (depth_below p b e) ∙ one_up (get_or depths p 0) a b (Some p) (get_or_from_slice_get parents b (Some p) None e)

    pub complete : (a b : ℕ) → Above parents a b → above_node parents depths a b ≡ true
    complete a b (above_child _ _ e) = up_from a a b e ∙ or_left _ _ (eq-eqb a a refl)
    complete a b (above_parent _ p _ e up) = up_from a p b e ∙ or_right _ _ (complete a p up)

    -- none stands above a node that stands below none
    pub none_above : (a b : ℕ) → slice_get parents b ≡ Some None → above_node parents depths a b ≡ false
    unfolding is_above
    none_above a b e = ap (λ n. is_above parents n a b) (h.on_top b e)

    deeper : (a b : ℕ) → Above parents a b → get_or depths a 0 < get_or depths b 0
    deeper a b (above_child _ _ e) = omega (arith, depth_below a b e)
    deeper a b (above_parent _ p _ e up) = omega (arith, depth_below p b e, deeper a p up)

    pub not_above_itself : (a : ℕ) → above_node parents depths a a ≡ false
    not_above_itself a = false_from_ne_true _ (λ t. let lt = deeper a a (sound (get_or depths a 0) a a t) in absurd (omega arith))
