-- Lists of numbers in rising order, whose ends grow and shrink.
use Rattle.std.proofs.Common.{◌≡◌, refl, ℕ, ◌+◌, ◌-◌, ◌<◌, ◌≤◌, ◌++◌, ◌∷◌, [], ◌⊎◌, List, length, get_or, take, sym, ap, ◌∙◌, subst, inl, inr, arith}
use Rattle.std.specs.List.{Contains}
use Rattle.std.proofs.lemmas.Bool.{cases_lt}
use Rattle.std.proofs.lemmas.List.{get_or_append_left, get_or_push, get_or_default, length_push, take_all, take_more}
use Rattle.std.proofs.lemmas.List.Elements.{Contains-append_left, Contains-push_cases}
use Rattle.jd_reach.specs.Searches.{IsRising, EndsIn}

-- below the end, and at it
pub in_front : (xs : List ℕ) (x i : ℕ) → i < length xs → get_or (xs ++ x ∷ []) i 0 ≡ get_or xs i 0
in_front xs x i inside = get_or_append_left xs (x ∷ []) 0 i inside

pub at_end : (xs : List ℕ) (x : ℕ) → get_or (xs ++ x ∷ []) (length xs) 0 ≡ x
at_end xs x = get_or_push xs x 0 (length xs) refl

-- the place of a number, with the default that clauses write
pub place_of : (xs : List ℕ) (x : ℕ) → Contains xs x → (k : ℕ) × (k < length xs) × (get_or xs k 0 ≡ x)
place_of xs x h = (h.0, h.1, get_or_default xs h.0 0 x h.1 ∙ h.2)

pub at_place : (xs : List ℕ) (x k : ℕ) → k < length xs → get_or xs k 0 ≡ x → Contains xs x
at_place xs x k inside same = (k, inside, get_or_default xs k x 0 inside ∙ same)

module _ (xs : List ℕ) (x : ℕ) where
  pub rising_front : IsRising (xs ++ x ∷ []) → IsRising xs
  rising_front h = record {
    apart = λ i j below inside.
        omega (arith, h.apart i j below (omega (arith, length_push xs x)), in_front xs x i (omega arith), in_front xs x j inside);
  }

  pub below_end : IsRising (xs ++ x ∷ []) → (s : ℕ) → Contains xs s → s < x
  below_end h s c =
      let p = place_of xs s c in
      omega (arith, h.apart p.0 (length xs) p.1 (omega (arith, length_push xs x)), in_front xs x p.0 p.1, at_end xs x, p.2)

  pub rising_push : IsRising xs → ((s : ℕ) → Contains xs s → s < x) → IsRising (xs ++ x ∷ [])
  rising_push h lower = record {
    apart = λ i j below inside.
        elim (cases_lt j (length xs)) [
          | inl within ↦ omega (arith, h.apart i j below within, in_front xs x i (omega arith), in_front xs x j within)
          | inr beyond ↦
              let last : j ≡ length xs = omega (arith, length_push xs x) in
              let first : i < length xs = omega arith in
              omega (arith, lower (get_or xs i 0) (at_place xs (get_or xs i 0) i first refl), in_front xs x i first, ap (λ k. get_or (xs ++ x ∷ []) k 0) last, at_end xs x)
        ];
  }

  -- nothing is above the end
  pub up_to_end : IsRising (xs ++ x ∷ []) → (s : ℕ) → Contains (xs ++ x ∷ []) s → s ≤ x
  up_to_end h s c =
      elim (Contains-push_cases xs x s c) [
        | inl lower ↦ let lt = below_end h s lower in omega arith
        | inr same ↦ omega arith
      ]

pub none_rising : IsRising []
none_rising = record { apart = λ i j below inside. absurd (omega arith) }

-- the end of a list that is known by its end
pub up_to_last : (xs : List ℕ) (x : ℕ) → IsRising xs → EndsIn xs x → (s : ℕ) → Contains xs s → s ≤ x
up_to_last xs x rising end s c =
    up_to_end end.0 x (subst IsRising end.1 rising) s (subst (λ (l : List ℕ). Contains l s) end.1 c)

pub has_last : (xs : List ℕ) (x : ℕ) → EndsIn xs x → Contains xs x
has_last xs x end = subst (λ (l : List ℕ). Contains l x) (sym end.1) (at_place (end.0 ++ x ∷ []) x (length end.0) (omega (arith, length_push end.0 x)) (at_end end.0 x))

-- what is left when the end is taken off
module _ (xs front : List ℕ) (x : ℕ) (last : xs ≡ front ++ x ∷ []) where
  pub front_rises : IsRising xs → IsRising front
  front_rises rising = rising_front front x (subst IsRising last rising)

  pub front_in : (n : ℕ) → Contains front n → Contains xs n
  front_in n c = subst (λ (l : List ℕ). Contains l n) (sym last) (Contains-append_left front (x ∷ []) n c)

  pub in_front_or_end : (n : ℕ) → Contains xs n → Contains front n ⊎ (x ≡ n)
  in_front_or_end n c = Contains-push_cases front x n (subst (λ (l : List ℕ). Contains l n) last c)

  pub not_the_end : (limit n : ℕ) → limit < x → Contains xs n → n ≤ limit → Contains front n
  not_the_end limit n above c le =
      elim (in_front_or_end n c) [
        | inl lower ↦ lower
        | inr same ↦ absurd (omega arith)
      ]

-- a number that is in the list, and that nothing in it is above, is the end
pub ends_at : (xs : List ℕ) (x : ℕ) → IsRising xs → Contains xs x → ((s : ℕ) → Contains xs s → s ≤ x) → EndsIn xs x
ends_at xs x rising there greatest =
    let p = place_of xs x there in
    let end : ℕ = length xs - 1 in
    let inside : end < length xs = omega (arith, p.1) in
    let le : get_or xs end 0 ≤ x = greatest (get_or xs end 0) (at_place xs (get_or xs end 0) end inside refl) in
    let last : get_or xs end 0 ≡ x =
    elim (cases_lt p.0 end) [
      | inl before ↦ absurd (let lt = rising.apart p.0 end before inside in omega (arith, lt, le, p.2))
      | inr at ↦ let same : end ≡ p.0 = omega (arith, at, p.1) in ap (λ k. get_or xs k 0) same ∙ p.2
    ] in
    let all : end + 1 ≡ length xs = omega (arith, p.1) in
    (take end xs, sym (take_all (end + 1) xs (omega (arith, all))) ∙ take_more xs end 0 inside ∙ ap (λ (y : ℕ). take end xs ++ y ∷ []) last)
