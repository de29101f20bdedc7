-- How many numbers below a bound pass a test.
use Rattle.std.proofs.Common.{◌≡◌, ◌≢◌, refl, zero, suc, ℕ, ◌+◌, ◌<◌, ◌≤◌, Bool, true, false, cond, sym, ap, ◌∙◌, inl, inr, arith}
use Rattle.std.proofs.lemmas.Bool.{cases_eq, cases_Bool, cond_both}
use Rattle.jd_inherited.specs.Tallies.{count_below}

abbrev pub one_if : Bool → ℕ
one_if b = cond b 1 0

one_at_most : (b : Bool) → cond b 1 0 ≤ 1
one_at_most b = cond_both b 1 0 (λ n. n ≤ 1) (λ e. omega arith) (λ e. omega arith)

pub count_within : (f : ℕ → Bool) (n : ℕ) → count_below f n ≤ n
unfolding count_below
count_within f zero = omega arith
count_within f (suc n) = omega (arith, one_at_most (f n), count_within f n)

pub same_count : (f g : ℕ → Bool) (n : ℕ) → ((j : ℕ) → j < n → f j ≡ g j) → count_below f n ≡ count_below g n
unfolding count_below
same_count f g zero h = refl
same_count f g (suc n) h =
    let head : f n ≡ g n = h n (omega arith) in
    let rest : count_below f n ≡ count_below g n = same_count f g n (λ j lt. h j (omega arith)) in
    cc

pub none_counted : (f : ℕ → Bool) (n : ℕ) → ((j : ℕ) → j < n → f j ≡ false) → count_below f n ≡ 0
unfolding count_below
none_counted f zero h = refl
none_counted f (suc n) h =
    let head : one_if (f n) ≡ 0 = ap one_if (h n (omega arith)) in
    omega (arith, head, none_counted f n (λ j lt. h j (omega arith)))

-- the tests differ at one number alone
pub one_apart : (f g : ℕ → Bool) (n i : ℕ) → i < n → g i ≡ false → ((j : ℕ) → j < n → j ≢ i → f j ≡ g j) → count_below f n ≡ one_if (f i) + count_below g n
unfolding count_below
one_apart f g zero i lt failed h = absurd (omega arith)
one_apart f g (suc n) i lt failed h =
    elim (cases_eq i n) [
      | inl last ↦
          let here : f n ≡ f i = ap f (sym last) in
          let gone : one_if (g n) ≡ 0 = ap one_if (ap g (sym last) ∙ failed) in
          let one : one_if (f n) ≡ one_if (f i) = ap one_if here in
          omega (arith, gone, one, same_count f g n (λ j below. h j (omega arith) (λ e. absurd (omega arith))))
      | inr other ↦
          let head : one_if (f n) ≡ one_if (g n) = ap one_if (h n (omega arith) (λ e. other (sym e))) in
          omega (arith, head, one_apart f g n i (omega arith) failed (λ j below. h j (omega arith)))
    ]

-- where one test passes all that another does, and their counts differ, one passes more
pub passes_more : (f g : ℕ → Bool) (n : ℕ) → ((j : ℕ) → j < n → g j ≡ true → f j ≡ true) → count_below f n ≢ count_below g n → (j : ℕ) × ((j < n) × (f j ≡ true) × (g j ≡ false))
unfolding count_below
passes_more f g zero h ne = absurd (ne refl)
passes_more f g (suc n) h ne =
    elim (cases_Bool (g n)) [
      | inl passed ↦ deeper (h n (omega arith) passed ∙ sym passed) (passes_more f g n (λ j lt. h j (omega arith)))
      | inr failed ↦
          elim (cases_Bool (f n)) [
            | inl more ↦ (n, (omega arith, more, failed))
            | inr neither ↦ deeper (neither ∙ sym failed) (passes_more f g n (λ j lt. h j (omega arith)))
          ]
    ]
  where
    deeper : f n ≡ g n → ((count_below f n ≡ count_below g n → ⊥) → (j : ℕ) × ((j < n) × (f j ≡ true) × (g j ≡ false))) → (j : ℕ) × ((j < suc n) × (f j ≡ true) × (g j ≡ false))
    deeper same search_rest =
        let found = search_rest (λ e. ne (ap (λ b. one_if b + count_below f n) same ∙ ap (λ m. one_if (g n) + m) e)) in
        (found.0, (omega (arith, found.1.0), found.1.1, found.1.2))

pub less_counted : (f g : ℕ → Bool) (n : ℕ) → ((j : ℕ) → j < n → g j ≡ true → f j ≡ true) → count_below g n ≤ count_below f n
unfolding count_below
less_counted f g zero h = omega arith
less_counted f g (suc n) h =
    let rest : count_below g n ≤ count_below f n = less_counted f g n (λ j lt. h j (omega arith)) in
    elim (cases_Bool (g n)) [
      | inl passed ↦
          let both : one_if (f n) ≡ one_if (g n) = ap one_if (h n (omega arith) passed ∙ sym passed) in
          omega (arith, both, rest)
      | inr failed ↦
          let none : one_if (g n) ≡ 0 = ap one_if failed in
          omega (arith, none, rest)
    ]

pub counts_differ : (f g : ℕ → Bool) (n j : ℕ) → ((j : ℕ) → j < n → g j ≡ true → f j ≡ true) → j < n → f j ≡ true → g j ≡ false → count_below g n < count_below f n
unfolding count_below
counts_differ f g zero j h lt passed failed = absurd (omega arith)
counts_differ f g (suc n) j h lt passed failed =
    elim (cases_eq j n) [
      | inl last ↦
          let one : one_if (f n) ≡ 1 = ap one_if (ap f (sym last) ∙ passed) in
          let none : one_if (g n) ≡ 0 = ap one_if (ap g (sym last) ∙ failed) in
          omega (arith, one, none, less_counted f g n (λ k below. h k (omega arith)))
      | inr other ↦
          let rest : count_below g n < count_below f n = counts_differ f g n j (λ k below. h k (omega arith)) (omega arith) passed failed in
          elim (cases_Bool (g n)) [
            | inl both ↦
                let same : one_if (f n) ≡ one_if (g n) = ap one_if (h n (omega arith) both ∙ sym both) in
                omega (arith, same, rest)
            | inr neither ↦
                let none : one_if (g n) ≡ 0 = ap one_if neither in
                omega (arith, none, rest)
          ]
    ]
