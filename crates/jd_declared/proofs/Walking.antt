-- Walks up from a class, step by step.
use Rattle.std.proofs.Common.{◌≡◌, ℕ, zero, suc, ◌+◌, ◌-◌, ◌<◌, ◌≤◌, Bool, true, false, cond, if◌then◌else◌, nat_eq, List, Option, Some, None, is_some, refl, sym, ap, subst, ◌∙◌, arith}
use Rattle.std.proofs.lemmas.Bool.Decides.{nat_tests}
use Rattle.jd_ancestry.specs.Walks.{parent_of}
use Rattle.jd_declared.specs.Walks.{it_is, meeting, met, nearest, one_up, or_above}

-- a count that is not nothing
one_less : (n : ℕ) → 0 < n → n ≡ suc (n - 1)
one_less n some = omega (arith, some)

none_left : (n : ℕ) → n ≤ 0 → n ≡ 0
none_left n few = omega (arith, few)

module _ {A : Type 0} (parents : List (Option ℕ)) (own : ℕ → Option A) (whole : Option A) (left at : ℕ) (so_far : whole ≡ nearest parents own left at) where
  step : 0 < left → whole ≡ or_above (nearest parents own (left - 1)) (parent_of parents at) (own at)
  step some = so_far ∙ ap (λ n. nearest parents own n at) (one_less left some)

  -- the class has one itself
  pub found : (o : Option A) (v : A) → 0 < left → o ≡ own at → o ≡ Some v → Some v ≡ whole
  found o v some is has = sym (step some ∙ ap (or_above (nearest parents own (left - 1)) (parent_of parents at)) (sym is ∙ has))

  -- it has none, and the walk goes on
  pub goes_on : (o : Option A) (up : Option ℕ) (next : ℕ) → 0 < left → o ≡ own at → o ≡ None → up ≡ parent_of parents at → up ≡ Some next → whole ≡ nearest parents own (left - 1) next
  goes_on o up next some is none above there =
      step some ∙ ap (or_above (nearest parents own (left - 1)) (parent_of parents at)) (sym is ∙ none) ∙ ap (λ p. or_above (nearest parents own (left - 1)) p None) (sym above ∙ there)

  -- nor does it extend one
  pub ends : (o : Option A) (up : Option ℕ) → 0 < left → o ≡ own at → o ≡ None → up ≡ parent_of parents at → up ≡ None → None ≡ whole
  ends o up some is none above there =
      sym (step some ∙ ap (or_above (nearest parents own (left - 1)) (parent_of parents at)) (sym is ∙ none) ∙ ap (λ p. or_above (nearest parents own (left - 1)) p None) (sym above ∙ there))

  pub ran_out : left ≤ 0 → None ≡ whole
  ran_out few = sym (so_far ∙ ap (λ n. nearest parents own n at) (none_left left few))

-- ---- where two meet

pub unequal : (a b : ℕ) → (a ≡ b → ⊥) → nat_eq a b ≡ false
unequal a b apart = grind (arith, nat_tests)

module _ (parents : List (Option ℕ)) (depths : List ℕ) (whole left a b : ℕ) (so_far : whole ≡ meeting parents depths left a b) where
  meet_step : 0 < left → whole ≡ (if nat_eq a b then a else met parents depths (meeting parents depths (left - 1)) (one_up parents depths a b))
  meet_step some = so_far ∙ ap (λ n. meeting parents depths n a b) (one_less left some)

  pub meet : 0 < left → nat_eq a b ≡ true → a ≡ whole
  meet some same = sym (meet_step some ∙ ap (λ t. if t then a else met parents depths (meeting parents depths (left - 1)) (one_up parents depths a b)) same)

  pub meet_goes_on : (up : Option (ℕ × ℕ)) (next : ℕ × ℕ) → 0 < left → nat_eq a b ≡ false → up ≡ one_up parents depths a b → up ≡ Some next → whole ≡ meeting parents depths (left - 1) next.0 next.1
  meet_goes_on up next some apart is there =
      meet_step some ∙ ap (λ t. if t then a else met parents depths (meeting parents depths (left - 1)) (one_up parents depths a b)) apart ∙ ap (met parents depths (meeting parents depths (left - 1))) (sym is ∙ there)

  pub meet_ends : (up : Option (ℕ × ℕ)) → 0 < left → nat_eq a b ≡ false → up ≡ one_up parents depths a b → up ≡ None → 0 ≡ whole
  meet_ends up some apart is there =
      sym (meet_step some ∙ ap (λ t. if t then a else met parents depths (meeting parents depths (left - 1)) (one_up parents depths a b)) apart ∙ ap (met parents depths (meeting parents depths (left - 1))) (sym is ∙ there))

  pub meet_ran_out : left ≤ 0 → 0 ≡ whole
  meet_ran_out few = sym (so_far ∙ ap (λ n. meeting parents depths n a b) (none_left left few))
