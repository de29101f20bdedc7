-- Nodes are tied where their roots are the same.
use Rattle.std.proofs.Common.{◌≡◌, ℕ, List, Option, Some, None, sym, ap, subst, ◌∙◌, inl, inr}
use Rattle.std.proofs.lemmas.Option.{none-some, same_Some}
use Rattle.std.specs.List.{slice_get}
use Rattle.jd_ancestry.specs.Ancestors.Above.{above_child, above_parent}
use Rattle.jd_nearest.specs.Nearest.{AtOrAbove}
use Rattle.jd_nearest.proofs.Standing.{none_above, step_down, step_up}
use Rattle.jd_components.specs.Components.{Tied}
use Rattle.jd_components.specs.Components.Tied.{down, itself, up}
use Rattle.jd_components.specs.Roots.{IsRoot}

module _ (parents : List (Option ℕ)) where
  pub joined : (a b c : ℕ) → Tied parents a b → Tied parents b c → Tied parents a c
  joined a b c (itself _) q = q
  joined a b c (up _ d _ e p) q = up a d c e (joined d b c p q)
  joined a b c (down _ d _ e p) q = down a d c e (joined d b c p q)

  pub turned : (a b : ℕ) → Tied parents a b → Tied parents b a
  turned a b (itself _) = itself a
  turned a b (up _ d _ e p) = joined b d a (turned d b p) (down d a a e (itself a))
  turned a b (down _ d _ e p) = joined b d a (turned d b p) (up d a a e (itself a))

  tied_up : (r a : ℕ) → AtOrAbove parents r a → Tied parents a r
  tied_up r a (inl same) = subst (λ (x : ℕ). Tied parents x r) same (itself r)
  tied_up r a (inr (above_child _ _ e)) = up a r r e (itself r)
  tied_up r a (inr (above_parent _ b _ e p)) = up a b r e (tied_up r b (inr p))

  tied_down : (r a : ℕ) → AtOrAbove parents r a → Tied parents r a
  tied_down r a (inl same) = subst (λ (x : ℕ). Tied parents r x) same (itself r)
  tied_down r a (inr (above_child _ _ e)) = down r a a e (itself a)
  tied_down r a (inr (above_parent _ b _ e p)) = joined r b a (tied_down r b (inr p)) (down b a a e (itself a))

  -- nodes with one root
  pub tied_at_root : (r s a b : ℕ) → IsRoot parents r a → IsRoot parents s b → r ≡ s → Tied parents a b
  tied_at_root r s a b p q same = joined a r b (tied_up r a p.there) (tied_down r b (subst (λ (x : ℕ). AtOrAbove parents x b) (sym same) q.there))

  -- a root of what a node stands directly below is one of the node
  root_down : (r a b : ℕ) → slice_get parents a ≡ Some (Some b) → IsRoot parents r b → IsRoot parents r a
  root_down r a b e p = record { there = inr (step_down parents r b a e p.there); on_top = p.on_top }

  root_up : (r a b : ℕ) → slice_get parents a ≡ Some (Some b) → IsRoot parents r a → IsRoot parents r b
  root_up r a b e p = record {
    there = elim p.there [
      | inl same ↦ absurd (none-some b (same_Some None (Some b) (sym p.on_top ∙ ap (slice_get parents) same ∙ e)))
      | inr above ↦ step_up parents r b a e above
    ];
    on_top = p.on_top;
  }

  -- a root of a node is one of all that are tied to it
  root_along : (r a b : ℕ) → Tied parents a b → IsRoot parents r a → IsRoot parents r b
  root_along r a b (itself _) p = p
  root_along r a b (up _ d _ e q) p = root_along r d b q (root_up r a d e p)
  root_along r a b (down _ d _ e q) p = root_along r d b q (root_down r d a e p)

  at_top : (r s : ℕ) → slice_get parents r ≡ Some None → AtOrAbove parents s r → s ≡ r
  at_top r s top (inl same) = same
  at_top r s top (inr above) = absurd (none_above parents s r top above)

  -- a node has one root
  one_root : (r s a : ℕ) → AtOrAbove parents r a → slice_get parents r ≡ Some None → IsRoot parents s a → s ≡ r
  one_root r s a (inl same) top q = at_top r s top (subst (λ (x : ℕ). AtOrAbove parents s x) (sym same) q.there)
  one_root r s a (inr (above_child _ _ e)) top q = at_top r s top (root_up s a r e q).there
  one_root r s a (inr (above_parent _ b _ e p)) top q = one_root r s b (inr p) top (root_up s a b e q)

  pub roots_agree : (r s a b : ℕ) → IsRoot parents r a → IsRoot parents s b → Tied parents a b → r ≡ s
  roots_agree r s a b p q tied = one_root s r b q.there q.on_top (root_along r a b tied p)
