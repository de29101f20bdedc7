-- The method that the class above sees of a method's name is what the method overrides nearest.
use Rattle.std.proofs.Common.{◌≡◌, ◌≢◌, ◌⊎◌, ℕ, Bool, true, false, List, Some, None, refl, sym, ap, ◌∙◌, subst, inl, inr}
use Rattle.std.specs.List.{slice_get}
use Rattle.std.proofs.lemmas.Option.{none-some, same_Some}
use Rattle.jd_ancestry.specs.Ancestors.Above.{above_child, above_parent}
use Rattle.jd_syntax.specs.JavaTrees.{JavaUnit}
use Rattle.jd_jclasses.specs.Classes.{parents, IsAncestor, IsSubclass}
use Rattle.jd_jclasses.specs.Laws.{OneMethod}
use Rattle.jd_jclasses.specs.Members.{Declared, is_method, is_static}
use Rattle.jd_jclasses.specs.Methods.{routines, Declares, IsSeen, SeesNone, Overrides}
use Rattle.jd_jclasses.specs.Refusals.{AreClasses}
use Rattle.jd_jseen.specs.Laws.{RoutinesAreMembers}
use Rattle.jd_jfamilies.specs.Overridden.{OverridesNearest, OverridesNone}
use Rattle.jd_jfamilies.proofs.Orders.{first_step, has_parent}

not_both : {b : Bool} → b ≡ true → b ≡ false → ⊥
not_both t f = absurd cc

-- what is not otherwise is so
same_bool : (a b : Bool) → (a ≢ b → ⊥) → a ≡ b
same_bool true true h = refl
same_bool false false h = refl
same_bool true false h = absurd (h (λ e. absurd cc))
same_bool false true h = absurd (h (λ e. absurd cc))

-- a method that a class declares is the one that it sees
sees_own : (units : List JavaUnit) (class : ℕ) (name : List ℕ) (m : ℕ) → Declares units class name m → IsSeen units class name m
sees_own units class name m d = record { owner = class; declared = d; inherited = inl refl; nearest = λ other n sub e. sub }

module _ (units : List JavaUnit) (m : ℕ) (a : Declared) (there : slice_get (routines units) m ≡ Some a) where
  it_overrides : (n : ℕ) (o : Overrides units m n) → o.one ≡ a
  it_overrides n o = same_Some o.one a (sym o.there ∙ there)

  -- what is no instance method overrides none
  pub no_method : is_method a.kind ≡ false → OverridesNone units m
  no_method e n o = not_both (ap (λ (r : Declared). is_method r.kind) (sym (it_overrides n o)) ∙ o.methods.0) e

  pub no_instance : is_static a.kind ≡ true → OverridesNone units m
  no_instance e n o = not_both e (ap (λ (r : Declared). is_static r.kind) (sym (it_overrides n o)) ∙ o.instance.0)

  above_it : (n : ℕ) (o : Overrides units m n) → IsAncestor units o.other.class a.class
  above_it n o = subst (λ (r : Declared). IsAncestor units o.other.class r.class) (it_overrides n o) o.below

  pub no_parent : slice_get (parents units) a.class ≡ Some None → OverridesNone units m
  no_parent e n o =
      let p = has_parent (parents units) o.other.class a.class (above_it n o) in
      none-some p.0 (same_Some None (Some p.0) (sym e ∙ p.1))

  module _ (p : ℕ) (extended : slice_get (parents units) a.class ≡ Some (Some p)) where
    -- the class of a method that it overrides is the parent or stands above it
    over_parent : (n : ℕ) (o : Overrides units m n) → IsSubclass units p o.other.class
    over_parent n o =
        elim (first_step (parents units) o.other.class p a.class extended (above_it n o)) [
          | inl same ↦ inl (sym same)
          | inr above ↦ inr above
        ]

    below_parent : (class : ℕ) → IsSubclass units p class → IsAncestor units class a.class
    below_parent class (inl same) = above_child class a.class (extended ∙ ap (λ (c : ℕ). Some (Some c)) same)
    below_parent class (inr above) = above_parent class p a.class extended above

    abbrev declares : (n : ℕ) (o : Overrides units m n) → Declares units o.other.class a.name.name n
    declares n o =
        record { routine = o.other; there = o.other_there; holds = (o.methods.1, refl, sym o.name ∙ ap (λ (r : Declared). r.name.name) (it_overrides n o)) }

    pub none_above : SeesNone units p a.name.name → OverridesNone units m
    none_above none n o = none o.other.class n (over_parent n o) (declares n o)

    module _ (are : AreClasses units) (member : RoutinesAreMembers) (law : OneMethod) (method : is_method a.kind ≡ true) (instance : is_static a.kind ≡ false) (n : ℕ) (seen : IsSeen units p a.name.name n) where
      abbrev other : Declared
      other = seen.declared.routine

      below : IsAncestor units other.class a.class
      below = subst (λ (c : ℕ). IsAncestor units c a.class) (sym seen.declared.holds.1) (below_parent seen.owner seen.inherited)

      -- no instance method is declared below a static one of its name
      other_instance : is_static other.kind ≡ false
      other_instance =
          same_bool (is_static other.kind) (is_static a.kind) (λ differ.
          let i = member units m a there in
          let j = member units n other seen.declared.there in
          are.members.overrides i.0 (record {
            place = j.0;
            other = other;
            one = a;
            other_there = j.1;
            there = i.1;
            holds = (below, (seen.declared.holds.0, method, seen.declared.holds.2), inr differ);
          }))
          ∙ instance

      pub nearest_above : OverridesNearest units m n
      nearest_above =
          record {
            overrides =
                record {
                  one = a;
                  other = other;
                  there = there;
                  other_there = seen.declared.there;
                  methods = (method, seen.declared.holds.0);
                  instance = (instance, other_instance);
                  name = sym seen.declared.holds.2;
                  below = below;
                };
            nearest = λ k o. farther k o (seen.nearest o.other.class k (over_parent k o) (declares k o));
          }
        where
          farther : (k : ℕ) (o : Overrides units m k) → IsSubclass units seen.owner o.other.class → (k ≡ n) ⊎ Overrides units n k
          farther k o (inl same) =
              let here : Declares units seen.owner a.name.name k = subst (λ (c : ℕ). Declares units c a.name.name k) (sym same) (declares k o) in
              inl (law.one_seen units seen.owner a.name.name k n are (sees_own units seen.owner a.name.name k here) (sees_own units seen.owner a.name.name n seen.declared))
          farther k o (inr above) =
              inr (record {
                one = other;
                other = o.other;
                there = seen.declared.there;
                other_there = o.other_there;
                methods = (seen.declared.holds.0, o.methods.1);
                instance = (other_instance, o.instance.1);
                name = seen.declared.holds.2 ∙ sym (declares k o).holds.2;
                below = subst (λ (c : ℕ). IsAncestor units o.other.class c) (sym seen.declared.holds.1) above;
              })
