-- The least cause is one.
use Rattle.std.proofs.Common.{◌≡◌, ℕ, ◌<◌, ◌⊎◌, inl, inr, ◌∷◌, [], get_or, refl, sym, ap, ◌∙◌, arith}
use Rattle.std.proofs.lemmas.Bool.{cases_order}
use Rattle.jd_sequent.specs.Rules.{IsLeastCause, IsCaused}
use Rattle.jd_sequent.specs.declared.bad.Bad.{Bad}
use Rattle.jd_sequent.specs.declared.bad.Bad.TheVariants.{UnknownRule, NoFormula, NoPlace, WrongPlaceKind, NoMatch, MissingInst, BadInst, NoAssume, NotFresh, SideCondition, NoContract, NoDecreases, TooLarge, NoMemory}

-- two least causes are equal
pub one_least : (cause : ℕ → Type 0) (n m : ℕ) → 0 < n → 0 < m → IsLeastCause cause n → IsLeastCause cause m → n ≡ m
one_least cause n m some more a b = by_order (cases_order n m)
  where
    by_order : (n ≡ m) ⊎ ((n < m) ⊎ (m < n)) → n ≡ m
    by_order (inl e) = e
    by_order (inr (inl lt)) = absurd (b.1 n some lt a.0)
    by_order (inr (inr lt)) = absurd (a.1 m more lt b.0)

-- the number of a refusal
abbrev number : Bad → ℕ
number UnknownRule = 1
number NoFormula = 2
number NoPlace = 3
number WrongPlaceKind = 4
number NoMatch = 5
number MissingInst = 6
number BadInst = 7
number NoAssume = 8
number NotFresh = 9
number SideCondition = 10
number NoContract = 11
number NoDecreases = 12
number TooLarge = 13
number NoMemory = 14

-- the refusal with this number
abbrev with_number : ℕ → Bad
with_number n = get_or (NoMemory ∷ UnknownRule ∷ NoFormula ∷ NoPlace ∷ WrongPlaceKind ∷ NoMatch ∷ MissingInst ∷ BadInst ∷ NoAssume ∷ NotFresh ∷ SideCondition ∷ NoContract ∷ NoDecreases ∷ TooLarge ∷ []) n NoMemory

with_number-number : (bad : Bad) → with_number (number bad) ≡ bad
with_number-number UnknownRule = refl
with_number-number NoFormula = refl
with_number-number NoPlace = refl
with_number-number WrongPlaceKind = refl
with_number-number NoMatch = refl
with_number-number MissingInst = refl
with_number-number BadInst = refl
with_number-number NoAssume = refl
with_number-number NotFresh = refl
with_number-number SideCondition = refl
with_number-number NoContract = refl
with_number-number NoDecreases = refl
with_number-number TooLarge = refl
with_number-number NoMemory = refl

-- the number of a refusal that is no want of memory is that of the least cause
caused_least : (cause : ℕ → Type 0) (bad : Bad) → (bad ≡ NoMemory → ⊥) → IsCaused cause bad → (0 < number bad) × IsLeastCause cause (number bad)
caused_least cause UnknownRule ne c = (omega arith, c)
caused_least cause NoFormula ne c = (omega arith, c)
caused_least cause NoPlace ne c = (omega arith, c)
caused_least cause WrongPlaceKind ne c = (omega arith, c)
caused_least cause NoMatch ne c = (omega arith, c)
caused_least cause MissingInst ne c = (omega arith, c)
caused_least cause BadInst ne c = (omega arith, c)
caused_least cause NoAssume ne c = (omega arith, c)
caused_least cause NotFresh ne c = (omega arith, c)
caused_least cause SideCondition ne c = (omega arith, c)
caused_least cause NoContract ne c = (omega arith, c)
caused_least cause NoDecreases ne c = (omega arith, c)
caused_least cause TooLarge ne c = (omega arith, c)
caused_least cause NoMemory ne c = absurd (ne refl)

-- so it has a cause
pub some_cause : (cause : ℕ → Type 0) (bad : Bad) → (bad ≡ NoMemory → ⊥) → IsCaused cause bad → (n : ℕ) × cause n
some_cause cause bad ne c = (number bad, (caused_least cause bad ne c).1.0)

-- and there is one such refusal
pub one_refusal : (cause : ℕ → Type 0) (a b : Bad) → (a ≡ NoMemory → ⊥) → IsCaused cause a → (b ≡ NoMemory → ⊥) → IsCaused cause b → a ≡ b
one_refusal cause a b na ca nb cb =
    let x = caused_least cause a na ca in
    let y = caused_least cause b nb cb in
    sym (with_number-number a) ∙ ap with_number (one_least cause (number a) (number b) x.0 y.0 x.1 y.1) ∙ with_number-number b
