-- The first of a list that passes a test.
use Rattle.std.proofs.Common.{◌≡◌, ℕ, zero, suc, ◌+◌, ◌<◌, Bool, true, false, cond, List, [], ◌∷◌, map, Option, None, Some, option_map, refl, sym, ap, ap₂, ◌∙◌, subst, arith}
use Rattle.std.specs.List.{position_from, slice_get}
use Rattle.std.proofs.lemmas.Option.{none-some, same_Some}
use Rattle.jd_tforms.specs.Naming.{number_where}

-- ---- tests that agree

pub first_same : {A : Type 0} (s t : A → Bool) (xs : List A) → ((i : ℕ) (x : A) → slice_get xs i ≡ Some x → s x ≡ t x) → number_where s xs ≡ number_where t xs
first_same s t [] same = refl
first_same s t (x ∷ xs) same = ap₂ (λ b o. cond b (Some 0) (option_map suc o)) (same 0 x refl) (first_same s t xs (λ i y. same (suc i) y))

pub first_mapped : {A B : Type 0} (f : A → B) (t : B → Bool) (xs : List A) → number_where t (map f xs) ≡ number_where (λ x. t (f x)) xs
first_mapped f t [] = refl
first_mapped f t (x ∷ xs) = ap (λ o. cond (t (f x)) (Some 0) (option_map suc o)) (first_mapped f t xs)

-- ---- by its place

pub none_first : {A : Type 0} (t : A → Bool) (xs : List A) → ((i : ℕ) (x : A) → slice_get xs i ≡ Some x → t x ≡ false) → number_where t xs ≡ None
none_first t [] none = refl
none_first t (x ∷ xs) none = ap₂ (λ b o. cond b (Some 0) (option_map suc o)) (none 0 x refl) (none_first t xs (λ i y. none (suc i) y))

pub is_first : {A : Type 0} (t : A → Bool) (xs : List A) (k : ℕ) (x : A) → slice_get xs k ≡ Some x → t x ≡ true → ((i : ℕ) (y : A) → i < k → slice_get xs i ≡ Some y → t y ≡ false) → number_where t xs ≡ Some k
is_first t [] k x there passes before = absurd (none-some x there)
is_first t (y ∷ xs) zero x there passes before = ap (λ b. cond b (Some 0) (option_map suc (number_where t xs))) (ap t (same_Some y x there) ∙ passes)
is_first t (y ∷ xs) (suc k) x there passes before =
    ap₂ (λ b o. cond b (Some 0) (option_map suc o)) (before 0 y (omega arith) refl) (is_first t xs k x there passes (λ i z lt. before (suc i) z (omega (arith, lt))))

-- what is found is in the list, passes, and is the first
pub record IsFirst {A : Type 0} (t : A → Bool) (xs : List A) (k : ℕ) : Type 0 where
  pub one : A
  pub there : slice_get xs k ≡ Some one
  pub passes : t one ≡ true
  pub before : (i : ℕ) (y : A) → i < k → slice_get xs i ≡ Some y → t y ≡ false

first_behind : {A : Type 0} (t : A → Bool) (x : A) (xs : List A) (k : ℕ) → t x ≡ false → IsFirst t xs k → IsFirst t (x ∷ xs) (suc k)
first_behind t x xs k fails f = record { one = f.one; there = f.there; passes = f.passes; before = by }
  where
    by : (i : ℕ) (y : _) → i < suc k → slice_get (x ∷ xs) i ≡ Some y → t y ≡ false
    by zero y lt there = ap t (sym (same_Some x y there)) ∙ fails
    by (suc i) y lt there = f.before i y (omega (arith, lt)) there

pub found_first : {A : Type 0} (t : A → Bool) (xs : List A) (k : ℕ) → number_where t xs ≡ Some k → IsFirst t xs k
found_first t [] k e = absurd (none-some k e)
found_first t (x ∷ xs) k e = by (t x) refl (number_where t xs) (λ j. found_first t xs j) e
  where
    by : (b : Bool) → t x ≡ b → (o : Option ℕ) → ((j : ℕ) → o ≡ Some j → IsFirst t xs j) → cond b (Some 0) (option_map suc o) ≡ Some k → IsFirst t (x ∷ xs) k
    by true is o rest e = subst (IsFirst t (x ∷ xs)) (same_Some 0 k e) (record { one = x; there = refl; passes = is; before = λ i y lt. absurd (omega (arith, lt)) })
    by false is None rest e = absurd (none-some k e)
    by false is (Some j) rest e = subst (IsFirst t (x ∷ xs)) (same_Some (suc j) k e) (first_behind t x xs j is (rest j refl))

pub none_passes : {A : Type 0} (t : A → Bool) (xs : List A) → number_where t xs ≡ None → (i : ℕ) (x : A) → slice_get xs i ≡ Some x → t x ≡ false
none_passes t [] e i x there = absurd (none-some x there)
none_passes t (y ∷ xs) e i x there = by (t y) refl (number_where t xs) (λ n. none_passes t xs n) e i there
  where
    by : (b : Bool) → t y ≡ b → (o : Option ℕ) → (o ≡ None → (i : ℕ) (x : _) → slice_get xs i ≡ Some x → t x ≡ false) → cond b (Some 0) (option_map suc o) ≡ None → (i : ℕ) → slice_get (y ∷ xs) i ≡ Some x → t x ≡ false
    by true is o rest e i there = absurd (none-some 0 (sym e))
    by false is (Some j) rest e i there = absurd (none-some (suc j) (sym e))
    by false is None rest e zero there = ap t (sym (same_Some y x there)) ∙ is
    by false is None rest e (suc i) there = rest refl i x there

-- ---- as the standard library counts

from_place : {A : Type 0} (t : A → Bool) (n : ℕ) (xs : List A) → position_from t n xs ≡ option_map (λ k. n + k) (number_where t xs)
from_place t n [] = refl
from_place t n (x ∷ xs) = by (t x) (number_where t xs) (from_place t (n + 1) xs)
  where
    by : (b : Bool) (o : Option ℕ) → position_from t (n + 1) xs ≡ option_map (λ k. n + 1 + k) o → cond b (Some n) (position_from t (n + 1) xs) ≡ option_map (λ k. n + k) (cond b (Some 0) (option_map suc o))
    by true o same = let start : n ≡ n + 0 = omega arith in ap Some start
    by false None same = same
    by false (Some k) same = let next : n + 1 + k ≡ n + suc k = omega arith in same ∙ ap Some next

same_number : (o : Option ℕ) → option_map (λ k. 0 + k) o ≡ o
same_number None = refl
same_number (Some k) = let same : 0 + k ≡ k = omega arith in ap Some same

pub first_place : {A : Type 0} (t : A → Bool) (xs : List A) → position_from t 0 xs ≡ number_where t xs
first_place t xs = from_place t 0 xs ∙ same_number (number_where t xs)
