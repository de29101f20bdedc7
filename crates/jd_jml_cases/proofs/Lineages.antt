-- A class and those above it, one by one: they are no more than all classes.
use Rattle.std.proofs.Common.{◌≡◌, ◌⊎◌, inl, inr, ℕ, zero, suc, ◌<◌, ◌≤◌, true, false, List, [], ◌∷◌, ◌++◌, length, reverse, Option, Some, None, refl, sym, ap, subst, ◌∙◌, arith, slice_get}
use Rattle.std.specs.Prelude.{nat_eq}
use Rattle.std.specs.List.{AllByRecursion, IsDistinct, list_any}
use Rattle.std.specs.Option.{option_and_then}
use Rattle.std.proofs.lemmas.Bool.{cases_eq}
use Rattle.std.proofs.lemmas.Bool.Decides.{nat_tests}
use Rattle.std.proofs.lemmas.List.{reverse-append}
use Rattle.std.proofs.lemmas.List.Elements.{All-contains, All-from_recursion}
use Rattle.std.proofs.lemmas.Map.Steps.{length-le_from_distinct_below}
use Rattle.std.proofs.lemmas.Map.Views.{Contains-from_any, exact_unsigned_eq}
use Rattle.std.proofs.lemmas.Option.{slice_get_within}
use Rattle.jd_ancestry.specs.Ancestors.{Above, HasNoCycle}
use Rattle.jd_ancestry.specs.Ancestors.Above.{above_child, above_parent}
use Rattle.jd_jclasses.specs.Classes.{parents}
use Rattle.jd_classes.specs.Fields.{IsLineage}
use Rattle.jd_classes.specs.Fields.IsLineage.{extends, topmost}
use Rattle.jd_classes.proofs.NoCycle.{no_cycle}
use Rattle.jd_jml_cases.specs.Cases.{classes_up}
use Rattle.jd_jml_cases.specs.Laws.{LineagesAreClassesUp}

unlike : (x y : ℕ) → (x ≡ y → ⊥) → nat_eq x y ≡ false
unlike x y apart = elim (cases_eq x y) [
  | inl same ↦ absurd (apart same)
  | inr other ↦ grind (arith, nat_tests)
]

distinct_more : (c : ℕ) (cs : List ℕ) → AllByRecursion (λ y. nat_eq c y ≡ false) cs → IsDistinct nat_eq cs → IsDistinct nat_eq (c ∷ cs)
unfolding IsDistinct
distinct_more c cs apart rest = (apart, rest)

distinct_none : IsDistinct nat_eq []
unfolding IsDistinct
distinct_none = tt

module _ (ps : List (Option ℕ)) where
  abbrev UpTo : ℕ → ℕ → Type 0
  UpTo b x = (x ≡ b) ⊎ Above ps x b

  one_up : (a b x : ℕ) → slice_get ps b ≡ Some (Some a) → UpTo a x → Above ps x b
  one_up a b x h (inl same) = subst (λ y. Above ps y b) (sym same) (above_child a b h)
  one_up a b x h (inr above) = above_parent x a b h above

  each_up : (a b : ℕ) (xs : List ℕ) → slice_get ps b ≡ Some (Some a) → AllByRecursion (UpTo a) xs → AllByRecursion (λ x. Above ps x b) xs
  each_up a b [] h all = tt
  each_up a b (x ∷ xs) h all = (one_up a b x h all.0, each_up a b xs h all.1)

  weaker : (b : ℕ) (xs : List ℕ) → AllByRecursion (λ x. Above ps x b) xs → AllByRecursion (UpTo b) xs
  weaker b [] all = tt
  weaker b (x ∷ xs) all = (inr all.0, weaker b xs all.1)

  up_to : (b : ℕ) (xs : List ℕ) → IsLineage ps b xs → AllByRecursion (UpTo b) xs
  up_to b xs (topmost _ h) = (inl refl, tt)
  up_to b xs (extends a _ above h rest) = (inl refl, weaker b above (each_up a b above h (up_to a above rest)))

  below : (b : ℕ) (xs : List ℕ) → IsLineage ps b xs → AllByRecursion (λ x. x < length ps) xs
  below b xs (topmost _ h) = (slice_get_within ps b None h, tt)
  below b xs (extends a _ above h rest) = (slice_get_within ps b (Some a) h, below a above rest)

  among : (q : ℕ) (xs : List ℕ) → AllByRecursion (λ x. x < length ps) xs → list_any (nat_eq q) xs ≡ true → q < length ps
  among q xs all is = All-contains (λ x. x < length ps) xs q (All-from_recursion (λ x. x < length ps) xs all) (Contains-from_any exact_unsigned_eq q xs is)

  no_parent : (n : ℕ) → classes_up ps n None ≡ []
  no_parent zero = refl
  no_parent (suc n) = refl

  module _ (acyclic : HasNoCycle ps) where
    apart : (b : ℕ) (xs : List ℕ) → AllByRecursion (λ x. Above ps x b) xs → AllByRecursion (λ y. nat_eq b y ≡ false) xs
    apart b [] all = tt
    apart b (x ∷ xs) all = (unlike b x (λ same. acyclic b (subst (λ y. Above ps y b) (sym same) all.0)), apart b xs all.1)

    distinct : (b : ℕ) (xs : List ℕ) → IsLineage ps b xs → IsDistinct nat_eq xs
    distinct b xs (topmost _ h) = distinct_more b [] tt distinct_none
    distinct b xs (extends a _ above h rest) = distinct_more b above (apart b above (each_up a b above h (up_to a above rest))) (distinct a above rest)

    few : (b : ℕ) (xs : List ℕ) → IsLineage ps b xs → length xs ≤ length ps
    few b xs is = length-le_from_distinct_below xs (length ps) (distinct b xs is) (λ q h. among q xs (below b xs is) h)

  within : (n b : ℕ) (xs : List ℕ) → IsLineage ps b xs → length xs ≤ n → classes_up ps n (Some b) ≡ reverse xs
  within zero b xs (topmost _ h) le = absurd (omega (arith, le))
  within zero b xs (extends a _ above h rest) le = absurd (omega (arith, le))
  within (suc n) b xs (topmost _ h) le =
      ap (λ (o : Option (Option ℕ)). classes_up ps n (option_and_then (λ p. p) o) ++ b ∷ []) h
      ∙ ap (λ l. l ++ b ∷ []) (no_parent n)
  within (suc n) b xs (extends a _ above h rest) le =
      ap (λ (o : Option (Option ℕ)). classes_up ps n (option_and_then (λ p. p) o) ++ b ∷ []) h
      ∙ ap (λ l. l ++ b ∷ []) (within n a above rest (omega (arith, le)))
      ∙ sym (reverse-append (b ∷ []) above)

pub lineages_are_classes_up : LineagesAreClassesUp
lineages_are_classes_up units stand c above is = within (parents units) (length (parents units)) c above is (few (parents units) (no_cycle units stand.classes) c above is)
