-- Each class of a program has a lineage.
use Rattle.std.proofs.Common.{◌≡◌, ◌⊎◌, inl, inr, ℕ, zero, suc, ◌<◌, ◌≤◌, true, false, List, [], ◌∷◌, length, Option, Some, None, refl, sym, subst, arith, slice_get}
use Rattle.std.specs.Prelude.{nat_eq}
use Rattle.std.specs.List.{AllByRecursion, IsDistinct, list_any}
use Rattle.std.proofs.lemmas.Bool.{cases_eq}
use Rattle.std.proofs.lemmas.Bool.Decides.{nat_tests}
use Rattle.std.proofs.lemmas.List.Elements.{All-contains, All-from_recursion}
use Rattle.std.proofs.lemmas.Map.Steps.{length-le_from_distinct_below}
use Rattle.std.proofs.lemmas.Map.Views.{Contains-from_any, exact_unsigned_eq}
use Rattle.jd_ancestry.specs.Ancestors.{Above, AreNodes, HasNoCycle}
use Rattle.jd_ancestry.specs.Ancestors.Above.{above_child, above_parent}
use Rattle.jd_classes.specs.Fields.{IsLineage}
use Rattle.jd_classes.specs.Fields.IsLineage.{extends, topmost}

-- a class and so many above it, not as far as the topmost
data IsChain (parents : List (Option ℕ)) : ℕ → List ℕ → Type 0 where
  one : (a : ℕ) → a < length parents → IsChain parents a (a ∷ [])
  more : (a b : ℕ) (above : List ℕ) → slice_get parents b ≡ Some (Some a) → b < length parents → IsChain parents a above → IsChain parents b (b ∷ above)

unlike : (x y : ℕ) → (x ≡ y → ⊥) → nat_eq x y ≡ false
unlike x y apart = elim (cases_eq x y) [
  | inl same ↦ absurd (apart same)
  | inr other ↦ grind (arith, nat_tests)
]

distinct_more : (c : ℕ) (cs : List ℕ) → AllByRecursion (λ y. nat_eq c y ≡ false) cs → IsDistinct nat_eq cs → IsDistinct nat_eq (c ∷ cs)
unfolding IsDistinct
distinct_more c cs apart rest = (apart, rest)

distinct_none : IsDistinct nat_eq []
unfolding IsDistinct
distinct_none = tt

beyond : {X : Type 0} (xs : List X) (i : ℕ) → slice_get xs i ≡ None → i < length xs → ⊥
beyond [] i none lt = absurd (omega (arith, lt))
beyond (x ∷ xs) zero none lt = absurd cc
beyond (x ∷ xs) (suc i) none lt = beyond xs i none (omega (arith, lt))

module _ (ps : List (Option ℕ)) (acyclic : HasNoCycle ps) (nodes : AreNodes ps) where
  abbrev UpTo : ℕ → ℕ → Type 0
  UpTo b x = (x ≡ b) ⊎ Above ps x b

  one_up : (a b x : ℕ) → slice_get ps b ≡ Some (Some a) → UpTo a x → Above ps x b
  one_up a b x h (inl same) = subst (λ y. Above ps y b) (sym same) (above_child a b h)
  one_up a b x h (inr above) = above_parent x a b h above

  each_up : (a b : ℕ) (xs : List ℕ) → slice_get ps b ≡ Some (Some a) → AllByRecursion (UpTo a) xs → AllByRecursion (λ x. Above ps x b) xs
  each_up a b [] h all = tt
  each_up a b (x ∷ xs) h all = (one_up a b x h all.0, each_up a b xs h all.1)

  weaker : (b : ℕ) (xs : List ℕ) → AllByRecursion (λ x. Above ps x b) xs → AllByRecursion (UpTo b) xs
  weaker b [] all = tt
  weaker b (x ∷ xs) all = (inr all.0, weaker b xs all.1)

  up_to : (b : ℕ) (xs : List ℕ) → IsChain ps b xs → AllByRecursion (UpTo b) xs
  up_to b xs (one _ lt) = (inl refl, tt)
  up_to b xs (more a _ above h lt rest) = (inl refl, weaker b above (each_up a b above h (up_to a above rest)))

  below : (b : ℕ) (xs : List ℕ) → IsChain ps b xs → AllByRecursion (λ x. x < length ps) xs
  below b xs (one _ lt) = (lt, tt)
  below b xs (more a _ above h lt rest) = (lt, below a above rest)

  among : (q : ℕ) (xs : List ℕ) → AllByRecursion (λ x. x < length ps) xs → list_any (nat_eq q) xs ≡ true → q < length ps
  among q xs all is = All-contains (λ x. x < length ps) xs q (All-from_recursion (λ x. x < length ps) xs all) (Contains-from_any exact_unsigned_eq q xs is)

  apart : (b : ℕ) (xs : List ℕ) → AllByRecursion (λ x. Above ps x b) xs → AllByRecursion (λ y. nat_eq b y ≡ false) xs
  apart b [] all = tt
  apart b (x ∷ xs) all = (unlike b x (λ same. acyclic b (subst (λ y. Above ps y b) (sym same) all.0)), apart b xs all.1)

  distinct : (b : ℕ) (xs : List ℕ) → IsChain ps b xs → IsDistinct nat_eq xs
  distinct b xs (one _ lt) = distinct_more b [] tt distinct_none
  distinct b xs (more a _ above h lt rest) = distinct_more b above (apart b above (each_up a b above h (up_to a above rest))) (distinct a above rest)

  few : (b : ℕ) (xs : List ℕ) → IsChain ps b xs → length xs ≤ length ps
  few b xs is = length-le_from_distinct_below xs (length ps) (distinct b xs is) (λ q h. among q xs (below b xs is) h)

  abbrev Lineage : ℕ → Type 0
  Lineage c = (l : List ℕ) × IsLineage ps c l

  -- so many steps lead to the topmost, or to a class further up
  record Chain (n c : ℕ) : Type 0 where
    classes : List ℕ
    is : IsChain ps c classes
    count : length classes ≡ suc n

  walk : (n c : ℕ) → c < length ps → Lineage c ⊎ Chain n c
  walk zero c lt = inr (record { classes = c ∷ []; is = one c lt; count = refl })
  walk (suc n) c lt = by (slice_get ps c) refl (λ p e. walk n p (nodes p c e))
    where
      further : (p : ℕ) → slice_get ps c ≡ Some (Some p) → Lineage p ⊎ Chain n p → Lineage c ⊎ Chain (suc n) c
      further p e (inl l) = inl (c ∷ l.0, extends p c l.0 e l.1)
      further p e (inr k) = inr (record { classes = c ∷ k.classes; is = more p c k.classes e lt k.is; count = omega (arith, k.count) })

      by : (o : Option (Option ℕ)) → slice_get ps c ≡ o → ((p : ℕ) → slice_get ps c ≡ Some (Some p) → Lineage p ⊎ Chain n p) → Lineage c ⊎ Chain (suc n) c
      by None is up = absurd (beyond ps c is lt)
      by (Some None) is up = inl (c ∷ [], topmost c is)
      by (Some (Some p)) is up = further p is (up p is)

  pub has_lineage : (c : ℕ) → c < length ps → (l : List ℕ) × IsLineage ps c l
  has_lineage c lt = by (walk (length ps) c lt)
    where
      by : Lineage c ⊎ Chain (length ps) c → Lineage c
      by (inl l) = l
      by (inr k) = absurd (omega (arith, few c k.classes k.is, k.count))
