-- Texts in which one byte stands nowhere directly before another.
use Rattle.std.proofs.Common.{◌≡◌, ◌≢◌, ℕ, zero, suc, ◌+◌, ◌<◌, Bool, true, false, not, ◌==◌, ◌&&◌, ◌||◌, List, [], ◌∷◌, ◌++◌, length, get_or, refl, sym, ap, ◌∙◌, eq-eqb, true≢false, arith}

-- the text does not begin with the byte
abbrev pub BeginsNot : ℕ → List ℕ → Type 0
BeginsNot b [] = Unit {0}
BeginsNot b (x ∷ xs) = x ≢ b

-- the first byte stands nowhere directly before the second
abbrev pub Lacks : ℕ → ℕ → List ℕ → Type 0
Lacks a b [] = Unit {0}
Lacks a b (x ∷ xs) = (x ≡ a → BeginsNot b xs) × Lacks a b xs

pub lacks_at : (a b : ℕ) (xs : List ℕ) (k : ℕ) → Lacks a b xs → k + 1 < length xs → get_or xs k 0 ≡ a → get_or xs (k + 1) 0 ≡ b → ⊥
lacks_at a b [] k h lt e f = omega (arith, lt)
lacks_at a b (x ∷ []) zero h lt e f = omega (arith, lt)
lacks_at a b (x ∷ y ∷ xs) zero h lt e f = h.0 e f
lacks_at a b (x ∷ xs) (suc k) h lt e f = lacks_at a b xs k h.1 (omega (arith, lt)) e (ap (λ m. get_or (x ∷ xs) m 0) next ∙ f)
  where
    next : suc (k + 1) ≡ suc k + 1
    next = omega arith

begins_not_append : (b : ℕ) (xs ys : List ℕ) → BeginsNot b xs → BeginsNot b ys → BeginsNot b (xs ++ ys)
begins_not_append b [] ys h k = k
begins_not_append b (x ∷ xs) ys h k = h

pub lacks_append : (a b : ℕ) (xs ys : List ℕ) → Lacks a b xs → BeginsNot b ys → Lacks a b ys → Lacks a b (xs ++ ys)
lacks_append a b [] ys h n k = k
lacks_append a b (x ∷ xs) ys h n k = (λ e. begins_not_append b xs ys (h.0 e) n, lacks_append a b xs ys h.1 n k)

-- a byte before a text
pub lacks_behind : (a b x : ℕ) (xs : List ℕ) → x ≢ a → Lacks a b xs → Lacks a b (x ∷ xs)
lacks_behind a b x xs other h = (λ e. absurd (other e), h)

-- ---- by a test

abbrev pub begins_not : ℕ → List ℕ → Bool
begins_not b [] = true
begins_not b (x ∷ xs) = not (x == b)

abbrev pub lacks : ℕ → ℕ → List ℕ → Bool
lacks a b [] = true
lacks a b (x ∷ xs) = (not (x == a) || begins_not b xs) && lacks a b xs

and_both : (p q : Bool) → (p && q) ≡ true → (p ≡ true) × (q ≡ true)
and_both true q e = (refl, e)
and_both false q e = absurd (true≢false (sym e))

or_second : (p q : Bool) → (not p || q) ≡ true → p ≡ true → q ≡ true
or_second true q e is = e
or_second false q e is = absurd (true≢false (sym is))

begins_not_is : (b : ℕ) (xs : List ℕ) → begins_not b xs ≡ true → BeginsNot b xs
begins_not_is b [] h = tt
begins_not_is b (x ∷ xs) h = λ e. true≢false (sym (sym (ap not (eq-eqb x b e)) ∙ h))

pub lacks_is : (a b : ℕ) (xs : List ℕ) → lacks a b xs ≡ true → Lacks a b xs
lacks_is a b [] h = tt
lacks_is a b (x ∷ xs) h =
    let (first, others) = and_both (not (x == a) || begins_not b xs) (lacks a b xs) h in
    (λ e. begins_not_is b xs (or_second (x == a) (begins_not b xs) first (eq-eqb x a e)), lacks_is a b xs others)
