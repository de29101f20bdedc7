-- Methods that are tied by what each overrides nearest are tied by overriding, and the other way round.
use Rattle.std.proofs.Common.{◌≡◌, ◌⊎◌, ◌<◌, ℕ, List, length, Option, Some, None, slice_index, refl, sym, ap, ◌∙◌, subst, inl, inr, arith}
use Rattle.std.specs.List.{slice_get}
use Rattle.std.proofs.lemmas.Option.{same_Some, slice_get_within}
use Rattle.jd_ancestry.specs.Ancestors.{Above, AreNodes, HasNoCycle}
use Rattle.jd_ancestry.specs.Ancestors.Above.{above_child, above_parent}
use Rattle.jd_ancestry.specs.Laws.{AboveIsTransitive}
use Rattle.jd_components.specs.Components.{AreComponents, Tied}
use Rattle.jd_components.specs.Components.Tied.{itself, up, down}
use Rattle.jd_syntax.specs.JavaTrees.{JavaUnit}
use Rattle.jd_jclasses.specs.Classes.{parents, IsAncestor}
use Rattle.jd_jclasses.specs.Members.{Declared}
use Rattle.jd_jclasses.specs.Methods.{routines, Overrides, SameFamily, AreFamilies}
use Rattle.jd_jclasses.specs.Methods.SameFamily.{its_own, over, under}
use Rattle.jd_jclasses.specs.Refusals.{AreClasses}
use Rattle.jd_jseen.specs.Laws.{RoutinesAreMembers}
use Rattle.jd_jfamilies.specs.Overridden.{AreOverridden, OverridesNearest, OverridesNone}
use Rattle.jd_jfamilies.proofs.Classes.{no_cycle}
use Rattle.jd_jfamilies.proofs.Orders.{first_step, overrides_transitive, some_at}

-- ---- ways along nodes above one another

up_along : (list : List (Option ℕ)) (n m : ℕ) → Above list n m → (c : ℕ) → Tied list n c → Tied list m c
up_along list n m (above_child _ _ e) c t = up m n c e t
up_along list n m (above_parent _ b _ e q) c t = up m b c e (up_along list n b q c t)

down_along : (list : List (Option ℕ)) (n m : ℕ) → Above list n m → (c : ℕ) → Tied list m c → Tied list n c
down_along list n m (above_child _ _ e) c t = down n m c e t
down_along list n m (above_parent _ b _ e q) c t = down_along list n b q c (down b m c e t)

module _ (law : AboveIsTransitive) (members : RoutinesAreMembers) (units : List JavaUnit) (are : AreClasses units) (list : List (Option ℕ)) (overridden : AreOverridden units list) where
  overrides_next : (m n : ℕ) → slice_get list m ≡ Some (Some n) → Overrides units m n
  overrides_next m n e = let nearest : OverridesNearest units m n = overridden.nearest m (Some n) e in nearest.overrides

  within : (m : ℕ) (a : Declared) → slice_get (routines units) m ≡ Some a → m < length list
  within m a there = omega (arith, slice_get_within (routines units) m a there, overridden.each)

  pub are_nodes : AreNodes list
  are_nodes a b e = let o = overrides_next b a e in within a o.other o.other_there

  -- ---- what stands above a method is what it overrides

  overrides_above : (n m : ℕ) → Above list n m → Overrides units m n
  overrides_above n m (above_child _ _ e) = overrides_next m n e
  overrides_above n m (above_parent _ b _ e q) = overrides_transitive units law m b n (overrides_next m b e) (overrides_above n b q)

  -- no class stands above itself, over a method's
  round : (n : ℕ) (r : Declared) → slice_get (routines units) n ≡ Some r → (class : ℕ) → (class ≡ r.class) ⊎ IsAncestor units class r.class → IsAncestor units r.class class → ⊥
  round n r there class (inl same) above = no_cycle members units n r are there (subst (λ (c : ℕ). IsAncestor units r.class c) same above)
  round n r there class (inr higher) above = no_cycle members units n r are there (law (parents units) r.class class r.class above higher)

  class_above : (m n : ℕ) (a r : Declared) → slice_get (routines units) m ≡ Some a → slice_get (routines units) n ≡ Some r → Overrides units m n → IsAncestor units r.class a.class
  class_above m n a r here there p =
      subst (λ (x : Declared). IsAncestor units x.class a.class) (same_Some p.other r (sym p.other_there ∙ there))
      (subst (λ (x : Declared). IsAncestor units p.other.class x.class) (same_Some p.one a (sym p.there ∙ here)) p.below)

  pub acyclic : HasNoCycle list
  acyclic m above = let o = overrides_above m m above in round m o.one o.there o.one.class (inl refl) (class_above m m o.one o.one o.there o.there o)

  -- what a method overrides is what it overrides nearest, or is overridden by that
  abbrev Next : ℕ → ℕ → Type 0
  Next m n = (k : ℕ) × (slice_get list m ≡ Some (Some k)) × Overrides units m k × ((n ≡ k) ⊎ Overrides units k n)

  next_of : (m n : ℕ) → Overrides units m n → (o : Option ℕ) → slice_get list m ≡ Some o → Next m n
  next_of m n p None e = let none : OverridesNone units m = overridden.nearest m None e in absurd (none n p)
  next_of m n p (Some k) e = let nearest : OverridesNearest units m k = overridden.nearest m (Some k) e in (k, e, nearest.overrides, nearest.nearest n p)

  next : (m n : ℕ) → Overrides units m n → Next m n
  next m n p = let e = some_at list m (within m p.one p.there) in next_of m n p e.0 e.1

  -- from a class that is at or above `b` up to that of the overridden method
  module _ (n : ℕ) (r : Declared) (there : slice_get (routines units) n ≡ Some r) where
    climb : (b : ℕ) → Above (parents units) r.class b → (m : ℕ) (a : Declared) → slice_get (routines units) m ≡ Some a → (a.class ≡ b) ⊎ IsAncestor units a.class b → Overrides units m n → Above list n m
    climb b (above_child _ _ e) m a here (inr higher) p = absurd (round n r there a.class (first_step (parents units) a.class r.class b e higher) (class_above m n a r here there p))
    climb b (above_child _ _ e) m a here (inl same) p =
        let k = next m n p in
        elim k.3 [
          | inl last ↦ above_child n m (k.1 ∙ ap (λ (x : ℕ). Some (Some x)) (sym last))
          | inr o ↦
              let higher : IsAncestor units o.one.class b = subst (λ (c : ℕ). IsAncestor units o.one.class c) same (class_above m k.0 a o.one here o.there k.2) in
              absurd (round n r there o.one.class (first_step (parents units) o.one.class r.class b e higher) (class_above k.0 n o.one r o.there there o))
        ]
    climb b (above_parent _ d _ e q) m a here (inr higher) p = climb d q m a here (first_step (parents units) a.class d b e higher) p
    climb b (above_parent _ d _ e q) m a here (inl same) p =
        let k = next m n p in
        elim k.3 [
          | inl last ↦ above_child n m (k.1 ∙ ap (λ (x : ℕ). Some (Some x)) (sym last))
          | inr o ↦
              let higher : IsAncestor units o.one.class b = subst (λ (c : ℕ). IsAncestor units o.one.class c) same (class_above m k.0 a o.one here o.there k.2) in
              above_parent n k.0 m k.1 (climb d q k.0 o.one o.there (first_step (parents units) o.one.class d b e higher) o)
        ]

  above_overrides : (m n : ℕ) → Overrides units m n → Above list n m
  above_overrides m n p = climb n p.other p.other_there p.one.class p.below m p.one p.there (inl refl) p

  -- ---- tied is of one family

  tied_family : (m n : ℕ) → SameFamily units m n → Tied list m n
  tied_family m n (its_own _) = itself m
  tied_family m n (over _ k _ p q) = up_along list k m (above_overrides m k p) n (tied_family k n q)
  tied_family m n (under _ k _ p q) = down_along list m k (above_overrides k m p) n (tied_family k n q)

  family_tied : (m n : ℕ) → Tied list m n → SameFamily units m n
  family_tied m n (itself _) = its_own m
  family_tied m n (up _ k _ e t) = over m k n (overrides_next m k e) (family_tied k n t)
  family_tied m n (down _ k _ e t) = under m k n (overrides_next k m e) (family_tied k n t)

  pub are_families : (numbers : List ℕ) (count : ℕ) → AreComponents list numbers count → AreFamilies units count (λ m. slice_index numbers m)
  are_families numbers count components =
      record {
        same = λ m n a b here there.
            let both = components.same m n (within m a here) (within n b there) in
            (λ e. family_tied m n (both.0 e), λ f. both.1 (tied_family m n f));
        ordered = λ m n a b here there first second before.
            components.ordered m n (within m a here) (within n b there) (λ k lt t. first k lt (family_tied k m t)) (λ k lt t. second k lt (family_tied k n t)) before;
        below = λ m a here. components.below m (within m a here);
        each = λ f lt.
            let reached = components.reached f lt in
            let r = some_at (routines units) reached.0 (omega (arith, reached.1, overridden.each)) in
            (reached.0, record { routine = r.0; there = r.1; holds = reached.2 });
      }
