-- The class where two meet is the nearest that both are or extend.
use Rattle.std.proofs.Common.{◌≡◌, ◌⊎◌, ℕ, zero, suc, ◌+◌, ◌<◌, ◌≤◌, Bool, true, false, if◌then◌else◌, nat_eq, nat_le, List, [], ◌∷◌, length, Option, Some, None, option_map, refl, sym, ap, subst, ◌∙◌, inl, inr, arith, slice_index, slice_get}
use Rattle.std.specs.Option.{option_and_then}
use Rattle.std.proofs.lemmas.Bool.Decides.{nat_tests}
use Rattle.jd_ancestry.specs.Ancestors.{Above, AreNodes, HasNoCycle}
use Rattle.jd_ancestry.specs.Ancestors.Above.{above_child, above_parent}
use Rattle.jd_ancestry.specs.Depths.{IsDepths}
use Rattle.jd_ancestry.specs.Walks.{parent_of}
use Rattle.jd_declared.specs.Walks.{meeting, met, one_up, steps}
use Rattle.jd_declared.proofs.Nearest.{Below, above_parent_of, below_parent, topmost}

module _ (parents : List (Option ℕ)) where
  pub below_within : (c other : ℕ) → AreNodes parents → c < length parents → Below parents c other → other < length parents
  below_within c other nodes lt (inl same) = subst (λ n. n < length parents) same lt
  below_within c other nodes lt (inr above) = within c other above
    where
      within : (c other : ℕ) → Above parents other c → other < length parents
      within c other (above_child a b e) = nodes a b e
      within c other (above_parent a b d e above) = within b a above

-- where a walk up from two ends they meet, or it is the topmost
module _ (parents : List (Option ℕ)) (depths : List ℕ) where
  abbrev Met : ℕ → ℕ → ℕ → Type 0
  Met a b c = (Below parents a c × Below parents b c) ⊎ (c ≡ 0)

  above_first : (a b p c : ℕ) → parent_of parents a ≡ Some p → Met p b c → Met a b c
  above_first a b p c is (inl both) = inl (below_parent parents a p c is both.0, both.1)
  above_first a b p c is (inr topmost_) = inr topmost_

  above_second : (a b p c : ℕ) → parent_of parents b ≡ Some p → Met a p c → Met a b c
  above_second a b p c is (inl both) = inl (both.0, below_parent parents b p c is both.1)
  above_second a b p c is (inr topmost_) = inr topmost_

  module _ (n a b : ℕ) (rest : (p q : ℕ) → Met p q (meeting parents depths n p q)) where
    first_met : (up : Option ℕ) → parent_of parents a ≡ up → Met a b (met parents depths (meeting parents depths n) (option_map (λ p. (p, b)) up))
    first_met None is = inr refl
    first_met (Some p) is = above_first a b p _ is (rest p b)

    second_met : (up : Option ℕ) → parent_of parents b ≡ up → Met a b (met parents depths (meeting parents depths n) (option_map (λ p. (a, p)) up))
    second_met None is = inr refl
    second_met (Some p) is = above_second a b p _ is (rest a p)

    apart_met : (le : Bool) → Met a b (met parents depths (meeting parents depths n) (if le then option_map (λ p. (p, b)) (parent_of parents a) else option_map (λ p. (a, p)) (parent_of parents b)))
    apart_met true = first_met (parent_of parents a) refl
    apart_met false = second_met (parent_of parents b) refl

    either_met : (t : Bool) → nat_eq a b ≡ t → Met a b (if t then a else met parents depths (meeting parents depths n) (one_up parents depths a b))
    either_met true is = let same : b ≡ a = grind (arith, nat_tests, is) in inl (inl refl, inl same)
    either_met false is = apart_met (nat_le (steps depths b) (steps depths a))

  pub met_or_none : (n a b : ℕ) → Met a b (meeting parents depths n a b)
  met_or_none zero a b = inr refl
  met_or_none (suc n) a b = either_met n a b (λ p q. met_or_none n p q) (nat_eq a b) refl

module _ (parents : List (Option ℕ)) (depths : List ℕ) (deep : IsDepths parents depths) where
  deeper : (a b : ℕ) → Above parents a b → slice_index depths a < slice_index depths b
  deeper a b (above_child c d e) = let more = deep.below c d e in omega (arith, more)
  deeper a b (above_parent c d f e above) = let more = deep.below d f e in let rest = deeper c d above in omega (arith, more, rest)

  pub no_cycle : HasNoCycle parents
  no_cycle a above = let more = deeper a a above in absurd (omega (arith, more))

  -- the class where two meet
  pub record IsMeeting (a b c : ℕ) : Type 0 where
    pub of_one : Below parents a c
    pub of_other : Below parents b c
    pub nearest : (other : ℕ) → Below parents a other → Below parents b other → Below parents c other

  apart_numbers : (a b : ℕ) → nat_eq a b ≡ false → a ≡ b → ⊥
  apart_numbers a b apart same = grind (arith, nat_tests)

  same_numbers : (a b : ℕ) → nat_eq a b ≡ true → b ≡ a
  same_numbers a b same = grind (arith, nat_tests)

  not_deeper : (a b : ℕ) → nat_le (steps depths b) (steps depths a) ≡ true → slice_index depths b ≤ slice_index depths a
  not_deeper a b le = grind (arith, nat_tests)

  is_deeper : (a b : ℕ) → nat_le (steps depths b) (steps depths a) ≡ false → slice_index depths a < slice_index depths b
  is_deeper a b le = grind (arith, nat_tests)

  -- the lower of two is not above the other
  first_is_lower : (a b : ℕ) → nat_eq a b ≡ false → nat_le (steps depths b) (steps depths a) ≡ true → Below parents b a → ⊥
  first_is_lower a b apart le (inl same) = apart_numbers a b apart (sym same)
  first_is_lower a b apart le (inr above) = let more = deeper a b above in let less = not_deeper a b le in absurd (omega (arith, more, less))

  second_is_lower : (a b : ℕ) → nat_eq a b ≡ false → nat_le (steps depths b) (steps depths a) ≡ false → Below parents a b → ⊥
  second_is_lower a b apart le (inl same) = apart_numbers a b apart same
  second_is_lower a b apart le (inr above) = let more = deeper b a above in let less = is_deeper a b le in absurd (omega (arith, more, less))

  -- a step up from the first, or from the second
  up_first : (a b p c : ℕ) → (Below parents b a → ⊥) → parent_of parents a ≡ Some p → IsMeeting p b c → IsMeeting a b c
  up_first a b p c lower is m = record { of_one = below_parent parents a p c is m.of_one; of_other = m.of_other; nearest = λ other one two. by other one two }
    where
      by : (other : ℕ) → Below parents a other → Below parents b other → Below parents c other
      by other (inl same) two = absurd (lower (subst (Below parents b) (sym same) two))
      by other (inr above) two = m.nearest other (above_parent_of parents a p other is above) two

  up_second : (a b p c : ℕ) → (Below parents a b → ⊥) → parent_of parents b ≡ Some p → IsMeeting a p c → IsMeeting a b c
  up_second a b p c lower is m = record { of_one = m.of_one; of_other = below_parent parents b p c is m.of_other; nearest = λ other one two. by other one two }
    where
      by : (other : ℕ) → Below parents a other → Below parents b other → Below parents c other
      by other one (inl same) = absurd (lower (subst (Below parents a) (sym same) one))
      by other one (inr above) = m.nearest other one (above_parent_of parents b p other is above)

  -- what both are below, where one of them goes a step up
  still : (a b p root : ℕ) → (Below parents b a → ⊥) → parent_of parents a ≡ Some p → Below parents a root → Below parents b root → Below parents p root
  still a b p root lower is (inl same) two = absurd (lower (subst (Below parents b) (sym same) two))
  still a b p root lower is (inr above) two = above_parent_of parents a p root is above

  no_step : (a b root : ℕ) → (Below parents b a → ⊥) → parent_of parents a ≡ None → Below parents a root → Below parents b root → ⊥
  no_step a b root lower is (inl same) two = lower (subst (Below parents b) (sym same) two)
  no_step a b root lower is (inr above) two = topmost parents a root is above

  shallower : (c p : ℕ) → parent_of parents c ≡ Some p → slice_index depths c ≡ 1 + slice_index depths p
  shallower c p is = deep.below p c (found (slice_get parents c) is)
    where
      found : (o : Option (Option ℕ)) → option_and_then (λ x. x) o ≡ Some p → o ≡ Some (Some p)
      found None e = absurd cc
      found (Some None) e = absurd cc
      found (Some (Some q)) e = ap Some e

  abbrev Meets : ℕ → Type 0
  Meets n = (a b root : ℕ) → steps depths a + steps depths b ≤ n → Below parents a root → Below parents b root → IsMeeting a b (meeting parents depths n a b)

  module _ (n a b root : ℕ) (few : steps depths a + steps depths b ≤ suc n) (one : Below parents a root) (two : Below parents b root) (rest : Meets n) where
    ended : nat_eq a b ≡ true → IsMeeting a b a
    ended same = record { of_one = inl refl; of_other = inl (same_numbers a b same); nearest = λ other first second. first }

    first_up : nat_eq a b ≡ false → nat_le (steps depths b) (steps depths a) ≡ true → (up : Option ℕ) → parent_of parents a ≡ up → IsMeeting a b (met parents depths (meeting parents depths n) (option_map (λ p. (p, b)) up))
    first_up apart le None is = absurd (no_step a b root (first_is_lower a b apart le) is one two)
    first_up apart le (Some p) is =
        let less = shallower a p is in
        up_first a b p _ (first_is_lower a b apart le) is (rest p b root (omega (arith, few, less)) (still a b p root (first_is_lower a b apart le) is one two) two)

    second_up : nat_eq a b ≡ false → nat_le (steps depths b) (steps depths a) ≡ false → (up : Option ℕ) → parent_of parents b ≡ up → IsMeeting a b (met parents depths (meeting parents depths n) (option_map (λ p. (a, p)) up))
    second_up apart le None is = absurd (no_step b a root (second_is_lower a b apart le) is two one)
    second_up apart le (Some p) is =
        let less = shallower b p is in
        up_second a b p _ (second_is_lower a b apart le) is (rest a p root (omega (arith, few, less)) one (still b a p root (second_is_lower a b apart le) is two one))

    go_up : nat_eq a b ≡ false → (le : Bool) → nat_le (steps depths b) (steps depths a) ≡ le → IsMeeting a b (met parents depths (meeting parents depths n) (if le then option_map (λ p. (p, b)) (parent_of parents a) else option_map (λ p. (a, p)) (parent_of parents b)))
    go_up apart true is = first_up apart is (parent_of parents a) refl
    go_up apart false is = second_up apart is (parent_of parents b) refl

    either_way : (t : Bool) → nat_eq a b ≡ t → IsMeeting a b (if t then a else met parents depths (meeting parents depths n) (one_up parents depths a b))
    either_way true is = ended is
    either_way false is = go_up is (nat_le (steps depths b) (steps depths a)) refl

  pub meets : (n : ℕ) → Meets n
  meets zero a b root few one two = absurd (omega (arith, few))
  meets (suc n) a b root few one two = either_way n a b root few one two (λ p q top less first second. meets n p q top less first second) (nat_eq a b) refl

-- ---- each class extends the topmost

module _ (parents : List (Option ℕ)) (depths : List ℕ) (deep : IsDepths parents depths) (nodes : AreNodes parents) (one_top : (c : ℕ) → slice_get parents c ≡ Some None → c ≡ 0) where
  past : {X : Type 0} (xs : List X) (i : ℕ) → slice_get xs i ≡ None → i < length xs → ⊥
  past [] i none lt = absurd (omega (arith, lt))
  past (x ∷ xs) zero none lt = absurd cc
  past (x ∷ xs) (suc i) none lt = past xs i none (omega (arith, lt))

  within_found : (c : ℕ) (o : Option (Option ℕ)) → slice_get parents c ≡ o → c < length parents → option_and_then (λ x. x) o ≡ None → slice_get parents c ≡ Some None
  within_found c None is lt none = absurd (past parents c is lt)
  within_found c (Some None) is lt none = is
  within_found c (Some (Some p)) is lt none = absurd cc

  pub extends_top : (n c : ℕ) → slice_index depths c < n → c < length parents → Below parents c 0
  extends_top zero c few lt = absurd (omega (arith, few))
  extends_top (suc n) c few lt = by (parent_of parents c) refl (λ p less within. extends_top n p less within)
    where
      by : (up : Option ℕ) → parent_of parents c ≡ up → ((p : ℕ) → slice_index depths p < n → p < length parents → Below parents p 0) → Below parents c 0
      by None is rest = inl (one_top c (within_found c (slice_get parents c) refl lt is))
      by (Some p) is rest =
          let less = shallower parents depths deep c p is in
          below_parent parents c p 0 is (rest p (omega (arith, few, less)) (below_within parents c p nodes lt (below_parent parents c p p is (inl refl))))
