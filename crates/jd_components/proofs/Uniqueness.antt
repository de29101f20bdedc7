-- Nodes have one numbering of their components.
use Rattle.std.proofs.Common.{◌≡◌, ◌≢◌, ◌⊎◌, ◌↔◌, refl, ℕ, zero, suc, ◌+◌, ◌<◌, List, length, get_or, Option, sym, ap, ◌∙◌, inl, inr, arith}
use Rattle.std.proofs.lemmas.Bool.{cases_eq, cases_lt}
use Rattle.std.proofs.lemmas.List.{ext_get_or}
use Rattle.jd_components.specs.Components.{AreComponents, IsFirst}

-- the first place below a bound at which a list has a value, if there is one
least : (numbers : List ℕ) (v bound : ℕ) → ((b : ℕ) → b < bound → get_or numbers b 0 ≢ v) ⊎ ((b : ℕ) × (b < bound) × (get_or numbers b 0 ≡ v) × ((c : ℕ) → c < b → get_or numbers c 0 ≢ v))
least numbers v zero = inl (λ b lt. absurd (omega arith))
least numbers v (suc bound) =
    elim (least numbers v bound) [
      | inr found ↦ inr (found.0, omega (arith, found.1), found.2, found.3)
      | inl none ↦
          elim (cases_eq (get_or numbers bound 0) v) [
            | inl here ↦ inr (bound, omega arith, here, none)
            | inr other ↦ inl (λ b lt. elim (cases_eq b bound) [
              | inl last ↦ (λ e. other (ap (λ (i : ℕ). get_or numbers i 0) (sym last) ∙ e))
              | inr earlier ↦ none b (omega arith)
            ])
          ]
    ]

module _ (parents : List (Option ℕ)) where
  -- each number has a first node
  first_of : (numbers : List ℕ) (count : ℕ) → AreComponents parents numbers count → (v : ℕ) → v < count → (b : ℕ) × (b < length parents) × (get_or numbers b 0 ≡ v) × IsFirst parents b
  first_of numbers count are v lt =
      let there = are.reached v lt in
      elim (least numbers v (there.0 + 1)) [
        | inl none ↦ absurd (none there.0 (omega arith) there.2)
        | inr found ↦
            let inside : found.0 < length parents = omega (arith, found.1, there.1) in
            (found.0, inside, found.2, λ c less tied. found.3 c less ((are.same c found.0 (omega arith) inside).1 tied ∙ found.2))
      ]

  abbrev SameBelow : List ℕ → List ℕ → ℕ → Type 0
  SameBelow xs ys v = (u a : ℕ) → u < v → a < length parents → (get_or xs a 0 ≡ u) ↔ (get_or ys a 0 ≡ u)

  -- where the lower numbers are the same, no node of this one has a higher in the other numbering
  not_higher : (xs ys : List ℕ) (m n v a : ℕ) → AreComponents parents xs m → AreComponents parents ys n → SameBelow xs ys v → a < length parents → get_or xs a 0 ≡ v → v < get_or ys a 0 → ⊥
  not_higher xs ys m n v a are also same inside here higher =
      let b = first_of ys n also v (omega (arith, also.below a inside)) in
      let c = first_of xs m are v (omega (arith, are.below a inside)) in
      let high : get_or ys c.0 0 ≡ get_or ys a 0 = (also.same c.0 a c.1 inside).1 ((are.same c.0 a c.1 inside).0 (c.2 ∙ sym here)) in
      elim (cases_lt (get_or xs b.0 0) v) [
        | inl lower ↦ absurd (omega (arith, (same (get_or xs b.0 0) b.0 lower b.1).0 refl, b.2))
        | inr most ↦
            elim (cases_eq (get_or xs b.0 0) v) [
              | inl too ↦
                  let tied : get_or ys a 0 ≡ get_or ys b.0 0 = (also.same a b.0 inside b.1).1 ((are.same a b.0 inside b.1).0 (here ∙ sym too)) in
                  omega (arith, tied, b.2)
              | inr other ↦
                  elim (cases_lt b.0 c.0) [
                    | inl less ↦ omega (arith, are.ordered b.0 c.0 b.1 c.1 b.3 c.3 less, c.2)
                    | inr behind ↦
                        elim (cases_eq b.0 c.0) [
                          | inl one ↦ other (ap (λ (i : ℕ). get_or xs i 0) one ∙ c.2)
                          | inr apart ↦ omega (arith, also.ordered c.0 b.0 c.1 b.1 c.3 b.3 (omega arith), b.2, high)
                        ]
                  ]
            ]
      ]

  same_next : (xs ys : List ℕ) (m n v a : ℕ) → AreComponents parents xs m → AreComponents parents ys n → SameBelow xs ys v → a < length parents → get_or xs a 0 ≡ v → get_or ys a 0 ≡ v
  same_next xs ys m n v a are also same inside here =
      elim (cases_lt (get_or ys a 0) v) [
        | inl lower ↦ absurd (omega (arith, (same (get_or ys a 0) a lower inside).1 refl))
        | inr most ↦
            elim (cases_eq (get_or ys a 0) v) [
              | inl equal ↦ equal
              | inr other ↦ absurd (not_higher xs ys m n v a are also same inside here (omega arith))
            ]
      ]

  module _ (xs ys : List ℕ) (m n : ℕ) (are : AreComponents parents xs m) (also : AreComponents parents ys n) where
    same_below : (v : ℕ) → SameBelow xs ys v
    same_below zero u a lt inside = absurd (omega arith)
    same_below (suc v) u a lt inside =
        elim (cases_eq u v) [
          | inl last ↦ (
            λ e. same_next xs ys m n v a are also (same_below v) inside (e ∙ last) ∙ sym last,
            λ e. same_next ys xs n m v a also are (λ w b less within. let both = same_below v w b less within in (both.1, both.0)) inside (e ∙ last) ∙ sym last,
          )
          | inr earlier ↦ same_below v u a (omega arith) inside
        ]

    at_each : (a : ℕ) → a < length parents → get_or xs a 0 ≡ get_or ys a 0
    at_each a inside = sym ((same_below (get_or xs a 0 + 1) (get_or xs a 0) a (omega arith) inside).0 refl)

    pub same_numbers : xs ≡ ys
    same_numbers = ext_get_or 0 xs ys (are.each ∙ sym also.each) (λ a lt. at_each a (omega (arith, are.each)))

    pub no_more : n < m → ⊥
    no_more lt = let there = are.reached n lt in omega (arith, there.2, at_each there.0 there.1, also.below there.0 there.1)

  pub one_numbering : (xs ys : List ℕ) (m n : ℕ) → AreComponents parents xs m → AreComponents parents ys n → (xs ≡ ys) × (m ≡ n)
  one_numbering xs ys m n are also = (
    same_numbers xs ys m n are also,
    elim (cases_lt m n) [
      | inl less ↦ absurd (no_more ys xs n m also are less)
      | inr most ↦ elim (cases_lt n m) [
        | inl more ↦ absurd (no_more xs ys m n are also more)
        | inr fewest ↦ (omega arith)
      ]
    ],
  )
