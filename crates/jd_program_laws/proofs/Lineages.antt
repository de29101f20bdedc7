-- A class's lineage has the class, those above it, and no other.
use Rattle.std.proofs.Common.{◌≡◌, ◌⊎◌, inl, inr, ◌<◌, ◌≤◌, ℕ, List, length, reverse, Option, Some, None, refl, sym, subst, ◌∙◌}
use Rattle.std.specs.List.{slice_get}
use Rattle.std.proofs.lemmas.Bool.{cases_lt}
use Rattle.std.proofs.lemmas.Option.{same_Some, none-some}
use Rattle.jd_ancestry.specs.Ancestors.{Above}
use Rattle.jd_ancestry.specs.Ancestors.Above.{above_child, above_parent}
use Rattle.jd_ancestry.specs.Laws.{AboveIsTransitive}
use Rattle.jd_syntax.specs.JavaTrees.{JavaUnit}
use Rattle.jd_jclasses.specs.Classes.{IsSubclass, parents}
use Rattle.jd_classes.specs.Fields.{IsLineage}
use Rattle.jd_classes.specs.Fields.IsLineage.{extends, topmost}
use Rattle.jd_model.specs.Programs.{Program}
use Rattle.jd_programs.specs.Programs.{HasClasses}
use Rattle.jd_declared.proofs.Lists.{In}
use Rattle.jd_program_laws.proofs.Lists.{from_reverse, in_reverse}

abbrev pub Below : List (Option ℕ) → ℕ → ℕ → Type 0
Below parents c a = (c ≡ a) ⊎ Above parents a c

one_up : (parents : List (Option ℕ)) (c p a : ℕ) → slice_get parents c ≡ Some (Some p) → Below parents p a → Below parents c a
one_up parents c p a e (inl same) = inr (above_child a c (subst (λ x. slice_get parents c ≡ Some (Some x)) same e))
one_up parents c p a e (inr above) = inr (above_parent a p c e above)

only_parent : (o : Option (Option ℕ)) (a b : ℕ) → o ≡ Some (Some a) → o ≡ Some (Some b) → a ≡ b
only_parent o a b e f = same_Some a b (same_Some (Some a) (Some b) (sym e ∙ f))

on_top : (parents : List (Option ℕ)) (c a : ℕ) → slice_get parents c ≡ Some None → Above parents a c → ⊥
on_top parents c a e (above_child _ _ f) = none-some a (same_Some None (Some a) (sym e ∙ f))
on_top parents c a e (above_parent _ b _ f up) = none-some b (same_Some None (Some b) (sym e ∙ f))

step_up : (parents : List (Option ℕ)) (c p a : ℕ) → slice_get parents c ≡ Some (Some p) → Above parents a c → Below parents p a
step_up parents c p a e (above_child _ _ f) = inl (only_parent (slice_get parents c) p a e f)
step_up parents c p a e (above_parent _ b _ f up) = inr (subst (Above parents a) (sym (only_parent (slice_get parents c) p b e f)) up)

each_above : (parents : List (Option ℕ)) (c a : ℕ) (l : List ℕ) → IsLineage parents c l → In a l → Below parents c a
each_above parents c a l (topmost _ e) (inl same) = inl (sym same)
each_above parents c a l (topmost _ e) (inr none) = absurd none
each_above parents c a l (extends p _ above e rest) (inl same) = inl (sym same)
each_above parents c a l (extends p _ above e rest) (inr behind) = one_up parents c p a e (each_above parents p a above rest behind)

has_each : (parents : List (Option ℕ)) (c a : ℕ) (l : List ℕ) → IsLineage parents c l → Below parents c a → In a l
has_each parents c a l (topmost _ e) (inl same) = inl (sym same)
has_each parents c a l (topmost _ e) (inr above) = absurd (on_top parents c a e above)
has_each parents c a l (extends p _ above e rest) (inl same) = inl (sym same)
has_each parents c a l (extends p _ above e rest) (inr up) = inr (has_each parents p a above rest (step_up parents c p a e up))

pub only_object : (units : List JavaUnit) (a : ℕ) → IsSubclass units 0 a → a ≡ 0
only_object units a (inl same) = sym same
only_object units a (inr above) = absurd (on_top (parents units) 0 a refl above)

-- one behind another
pub below_below : AboveIsTransitive → (parents : List (Option ℕ)) (a b c : ℕ) → Below parents a b → Below parents b c → Below parents a c
below_below law parents a b c (inl same) q = subst (λ x. Below parents x c) (sym same) q
below_below law parents a b c (inr up) (inl same) = inr (subst (λ x. Above parents x a) same up)
below_below law parents a b c (inr up) (inr over) = inr (law parents c b a over up)

module _ (units : List JavaUnit) (p : Program) (classes : HasClasses units p) where
  -- what has a lineage is a class
  pub in_classes : (c a : ℕ) → In a (p.superclasses c) → c < length (parents units)
  in_classes c a h = by (cases_lt c (length (parents units)))
    where
      by : (c < length (parents units)) ⊎ (length (parents units) ≤ c) → c < length (parents units)
      by (inl lt) = lt
      by (inr le) = absurd (subst (In a) (classes.no_class c le) h)

  pub above_it : (c a : ℕ) → In a (p.superclasses c) → IsSubclass units c a
  above_it c a h = each_above (parents units) c a (reverse (p.superclasses c)) (classes.superclasses c (in_classes c a h)) (in_reverse a (p.superclasses c) h)

  pub in_lineage : (c a : ℕ) → c < length (parents units) → IsSubclass units c a → In a (p.superclasses c)
  in_lineage c a lt below = from_reverse a (p.superclasses c) (has_each (parents units) c a (reverse (p.superclasses c)) (classes.superclasses c lt) below)

  -- the lineage of a class above is part of it
  pub through : AboveIsTransitive → (c k a : ℕ) → In k (p.superclasses c) → In a (p.superclasses k) → In a (p.superclasses c)
  through law c k a up over = in_lineage c a (in_classes c k up) (below_below law (parents units) c k a (above_it c k up) (above_it k a over))
