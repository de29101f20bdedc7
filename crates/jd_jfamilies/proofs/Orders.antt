-- What stands above what, of classes and of methods.
use Rattle.std.proofs.Common.{◌≡◌, ◌⊎◌, ◌<◌, ℕ, arith, List, length, Option, Some, sym, ap, ◌∙◌, subst, inl, inr}
use Rattle.std.specs.List.{slice_get}
use Rattle.std.proofs.lemmas.Option.{same_Some, slice_get_cases}
use Rattle.jd_ancestry.specs.Ancestors.{Above}
use Rattle.jd_ancestry.specs.Ancestors.Above.{above_child, above_parent}
use Rattle.jd_ancestry.specs.Laws.{AboveIsTransitive}
use Rattle.jd_syntax.specs.JavaTrees.{JavaUnit}
use Rattle.jd_jclasses.specs.Classes.{parents, IsAncestor}
use Rattle.jd_jclasses.specs.Members.{Declared}
use Rattle.jd_jclasses.specs.Methods.{Overrides}

same_parent : (o : Option (Option ℕ)) (a b : ℕ) → o ≡ Some (Some a) → o ≡ Some (Some b) → a ≡ b
same_parent o a b p q = same_Some a b (same_Some (Some a) (Some b) (sym p ∙ q))

-- what stands above a node is what it stands directly below, or stands above that
pub first_step : (parents : List (Option ℕ)) (a b c : ℕ) → slice_get parents c ≡ Some (Some b) → Above parents a c → (a ≡ b) ⊎ Above parents a b
first_step parents a b c e (above_child _ _ f) = inl (same_parent (slice_get parents c) a b f e)
first_step parents a b c e (above_parent _ d _ f p) = inr (subst (λ (x : ℕ). Above parents a x) (same_parent (slice_get parents c) d b f e) p)

pub has_parent : (parents : List (Option ℕ)) (a c : ℕ) → Above parents a c → (b : ℕ) × (slice_get parents c ≡ Some (Some b))
has_parent parents a c (above_child _ _ e) = (a, e)
has_parent parents a c (above_parent _ b _ e p) = (b, e)

-- what stands at a place of a list
pub some_at : {X : Type 0} (xs : List X) (i : ℕ) → i < length xs → (x : X) × (slice_get xs i ≡ Some x)
some_at xs i lt =
    elim (slice_get_cases xs i).1 [
      | inl here ↦ (here.0, here.2)
      | inr past ↦ absurd (omega (arith, lt, past.0))
    ]

-- what overrides something that overrides a method overrides this too
module _ (units : List JavaUnit) where
  pub overrides_transitive : AboveIsTransitive → (m n o : ℕ) → Overrides units m n → Overrides units n o → Overrides units m o
  overrides_transitive law m n o p q =
      let same : q.one ≡ p.other = same_Some q.one p.other (sym q.there ∙ p.other_there) in
      record {
        one = p.one;
        other = q.other;
        there = p.there;
        other_there = q.other_there;
        methods = (p.methods.0, q.methods.1);
        instance = (p.instance.0, q.instance.1);
        name = p.name ∙ ap (λ (r : Declared). r.name.name) (sym same) ∙ q.name;
        below = law (parents units) q.other.class p.other.class p.one.class (subst (λ (r : Declared). IsAncestor units q.other.class r.class) same q.below) p.below;
      }
