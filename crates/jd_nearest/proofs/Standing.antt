-- A node and those above it, step by step.
use Rattle.std.proofs.Common.{◌≡◌, ℕ, ◌<◌, List, get_or, Option, Some, None, sym, subst, ◌∙◌, inl, inr, arith}
use Rattle.std.proofs.lemmas.Option.{none-some, same_Some}
use Rattle.std.specs.List.{slice_get}
use Rattle.jd_ancestry.specs.Ancestors.{Above}
use Rattle.jd_ancestry.specs.Ancestors.Above.{above_child, above_parent}
use Rattle.jd_ancestry.specs.Depths.{IsDepths}
use Rattle.jd_nearest.specs.Nearest.{AtOrAbove}

pub deeper : (parents : List (Option ℕ)) (depths : List ℕ) → IsDepths parents depths → (a b : ℕ) → Above parents a b → get_or depths a 0 < get_or depths b 0
deeper parents depths known a b (above_child _ _ e) = omega (arith, known.below a b e)
deeper parents depths known a b (above_parent _ d _ e p) = omega (arith, deeper parents depths known a d p, known.below d b e)

pub one_of_both : (parents : List (Option ℕ)) (depths : List ℕ) → IsDepths parents depths → (a b : ℕ) → AtOrAbove parents a b → AtOrAbove parents b a → a ≡ b
one_of_both parents depths known a b (inl same) q = same
one_of_both parents depths known a b (inr p) (inl same) = sym same
one_of_both parents depths known a b (inr p) (inr q) =
    let down = deeper parents depths known a b p in
    let up = deeper parents depths known b a q in
    absurd (omega arith)

module _ (parents : List (Option ℕ)) where
  same_parent : (o : Option (Option ℕ)) (a b : ℕ) → o ≡ Some (Some a) → o ≡ Some (Some b) → a ≡ b
  same_parent o a b p q = same_Some a b (same_Some (Some a) (Some b) (sym p ∙ q))

  -- what stands above a node is the one directly above it, or stands above that one
  pub step_up : (x a b : ℕ) → slice_get parents b ≡ Some (Some a) → Above parents x b → AtOrAbove parents x a
  step_up x a b e (above_child _ _ f) = inl (same_parent (slice_get parents b) x a f e)
  step_up x a b e (above_parent _ d _ f p) = inr (subst (λ (y : ℕ). Above parents x y) (same_parent (slice_get parents b) d a f e) p)

  pub step_down : (x a b : ℕ) → slice_get parents b ≡ Some (Some a) → AtOrAbove parents x a → Above parents x b
  step_down x a b e (inl same) = subst (λ (y : ℕ). Above parents y b) (sym same) (above_child a b e)
  step_down x a b e (inr p) = above_parent x a b e p

  pub none_above : (x b : ℕ) → slice_get parents b ≡ Some None → Above parents x b → ⊥
  none_above x b e (above_child _ _ f) = none-some x (same_Some None (Some x) (sym e ∙ f))
  none_above x b e (above_parent _ d _ f p) = none-some d (same_Some None (Some d) (sym e ∙ f))
