-- What a class sees is that of the nearest among it and its ancestors.
use Rattle.std.proofs.Common.{◌≡◌, ◌⊎◌, ℕ, zero, suc, ◌+◌, ◌<◌, ◌≤◌, List, length, Option, Some, None, refl, sym, ap, subst, ◌∙◌, inl, inr, arith, slice_index, slice_get}
use Rattle.std.specs.Option.{option_and_then}
use Rattle.std.proofs.lemmas.Option.{same_Some, none-some}
use Rattle.jd_ancestry.specs.Ancestors.{Above}
use Rattle.jd_ancestry.specs.Ancestors.Above.{above_child, above_parent}
use Rattle.jd_ancestry.specs.Depths.{IsDepths}
use Rattle.jd_ancestry.specs.Walks.{parent_of}
use Rattle.jd_declared.specs.Walks.{nearest, or_above, steps}

-- a class is another or extends it
abbrev pub Below : List (Option ℕ) → ℕ → ℕ → Type 0
Below parents c other = (c ≡ other) ⊎ Above parents other c

-- what is found of a class and what it directly extends
there : (o : Option (Option ℕ)) (p : ℕ) → option_and_then (λ x. x) o ≡ Some p → o ≡ Some (Some p)
there None p e = absurd (none-some p e)
there (Some None) p e = absurd (none-some p e)
there (Some (Some q)) p e = ap Some e

nothing : (o : Option (Option ℕ)) (p : ℕ) → option_and_then (λ x. x) o ≡ None → o ≡ Some (Some p) → ⊥
nothing o p none is = none-some p (sym none ∙ ap (option_and_then (λ (x : Option ℕ). x)) is)

module _ (parents : List (Option ℕ)) where
  -- one step up
  pub below_parent : (c p other : ℕ) → parent_of parents c ≡ Some p → Below parents p other → Below parents c other
  below_parent c p other is (inl same) = inr (above_child other c (subst (λ x. slice_get parents c ≡ Some (Some x)) same (there (slice_get parents c) p is)))
  below_parent c p other is (inr above) = inr (above_parent other p c (there (slice_get parents c) p is) above)

  -- and what lies above a class lies above what it directly extends, or is that
  pub above_parent_of : (c p other : ℕ) → parent_of parents c ≡ Some p → Above parents other c → Below parents p other
  above_parent_of c p other is (above_child a b e) = inl (same_Some p a (same_Some (Some p) (Some a) (sym (there (slice_get parents b) p is) ∙ e)))
  above_parent_of c p other is (above_parent a b d e above) =
      let same : p ≡ b = same_Some p b (same_Some (Some p) (Some b) (sym (there (slice_get parents d) p is) ∙ e)) in
      inr (subst (λ x. Above parents a x) (sym same) above)

  pub topmost : (c other : ℕ) → parent_of parents c ≡ None → Above parents other c → ⊥
  topmost c other none (above_child a b e) = nothing (slice_get parents b) a none e
  topmost c other none (above_parent a b d e above) = nothing (slice_get parents d) b none e

-- the class that has it: among the class and its ancestors, and the nearest that has any
pub record IsNearestOf {A : Type 0} (parents : List (Option ℕ)) (own : ℕ → Option A) (c : ℕ) (v : A) : Type 0 where
  pub owner : ℕ
  pub has : own owner ≡ Some v
  pub inherited : Below parents c owner
  pub first : (other : ℕ) (w : A) → Below parents c other → own other ≡ Some w → Below parents owner other

module _ {A : Type 0} (parents : List (Option ℕ)) (own : ℕ → Option A) where
  -- of a class that has none, it is that of what it directly extends
  further : (c p : ℕ) (v : A) → own c ≡ None → parent_of parents c ≡ Some p → IsNearestOf parents own p v → IsNearestOf parents own c v
  further c p v has is r = record { owner = r.owner; has = r.has; inherited = below_parent parents c p r.owner is r.inherited; first = λ other x below one. by other x one below }
    where
      by : (other : ℕ) (x : A) → own other ≡ Some x → Below parents c other → Below parents r.owner other
      by other x one (inl same) = absurd (none-some x (sym has ∙ ap own same ∙ one))
      by other x one (inr above) = r.first other x (above_parent_of parents c p other is above) one

  pub nearest_one : (n c : ℕ) (v : A) → nearest parents own n c ≡ Some v → IsNearestOf parents own c v
  nearest_one zero c v e = absurd (none-some v e)
  nearest_one (suc n) c v e = by (own c) (parent_of parents c) refl refl e (λ p h. nearest_one n p v h)
    where
      by : (o : Option A) (up : Option ℕ) → own c ≡ o → parent_of parents c ≡ up → or_above (nearest parents own n) up o ≡ Some v → ((p : ℕ) → nearest parents own n p ≡ Some v → IsNearestOf parents own p v) → IsNearestOf parents own c v
      by (Some w) up has is h rest = record { owner = c; has = has ∙ h; inherited = inl refl; first = λ other x below one. below }
      by None None has is h rest = absurd (none-some v h)
      by None (Some p) has is h rest = further c p v has is (rest p h)

  module _ (depths : List ℕ) (deep : IsDepths parents depths) where
    shallower : (c p : ℕ) → parent_of parents c ≡ Some p → slice_index depths c ≡ 1 + slice_index depths p
    shallower c p is = deep.below p c (there (slice_get parents c) p is)

    pub nearest_none : (n c : ℕ) → slice_index depths c < n → nearest parents own n c ≡ None → (other : ℕ) → Below parents c other → own other ≡ None
    nearest_none zero c few e other below = absurd (omega (arith, few))
    nearest_none (suc n) c few e other below = by (own c) (parent_of parents c) refl refl e (λ p is h at. let deeper = shallower c p is in nearest_none n p (omega (arith, few, deeper)) h other at) below
      where
        by : (o : Option A) (up : Option ℕ) → own c ≡ o → parent_of parents c ≡ up → or_above (nearest parents own n) up o ≡ None → ((p : ℕ) → parent_of parents c ≡ Some p → nearest parents own n p ≡ None → Below parents p other → own other ≡ None) → Below parents c other → own other ≡ None
        by (Some w) up has is h rest at = absurd (none-some w (sym h))
        by None up has is h rest (inl same) = ap own (sym same) ∙ has
        by None None has is h rest (inr above) = absurd (topmost parents c other is above)
        by None (Some p) has is h rest (inr above) = rest p is h (above_parent_of parents c p other is above)

    -- as many steps as there are classes above and this one
    pub none_anywhere : (c : ℕ) → nearest parents own (steps depths c) c ≡ None → (other : ℕ) → Below parents c other → own other ≡ None
    none_anywhere c e = nearest_none (steps depths c) c (omega arith) e
