-- Names that are those of earlier proofs, or not.
use Rattle.std.proofs.Common.{◌≡◌, ℕ, true, false, List, [], ◌∷◌, ◌++◌, refl, sym, ap, subst, ◌∙◌, bytes_eq, true≢false, inl, inr}
use Rattle.std.specs.List.{Contains, list_any}
use Rattle.std.proofs.lemmas.Bool.{cases_Bool}
use Rattle.std.proofs.lemmas.Cmp.{nat_list_eq_equiv}
use Rattle.std.proofs.lemmas.Map.Views.{Contains-from_any, list_any-from_Contains}
use Rattle.std.proofs.lemmas.Slice.Eq.{bytes_eq-Decides}
use Rattle.jd_scripts.specs.Scripts.{AreDistinct}

pub present : (names : List (List ℕ)) (name : List ℕ) → list_any (bytes_eq name) names ≡ true → Contains names name
present names name found = Contains-from_any (λ x y. (bytes_eq-Decides x y).0) name names found

pub absent : (names : List (List ℕ)) (name : List ℕ) → list_any (bytes_eq name) names ≡ false → Contains names name → ⊥
absent names name none there = true≢false (sym (list_any-from_Contains nat_list_eq_equiv name names there) ∙ none)

-- a name behind those that it differs from
pub is_new : (front behind : List (List ℕ)) (name : List ℕ) → AreDistinct (front ++ name ∷ behind) → list_any (bytes_eq name) front ≡ false
is_new front behind name h = elim (cases_Bool (list_any (bytes_eq name) front)) [
  | inl found ↦ absurd (h front behind name refl (present front name found))
  | inr new ↦ new
]

pub none_distinct : AreDistinct []
none_distinct [] behind name e there = cc
none_distinct (n ∷ front) behind name e there = cc

-- where a list with one name more ends, or before
data Splits (names : List (List ℕ)) (last : List ℕ) (front : List (List ℕ)) (name : List ℕ) : Type 0 where
  at_last : names ≡ front → last ≡ name → Splits names last front name
  before : (rest : List (List ℕ)) → names ≡ front ++ name ∷ rest → Splits names last front name

longer : (n m last name : List ℕ) (names front : List (List ℕ)) → n ≡ m → Splits names last front name → Splits (n ∷ names) last (m ∷ front) name
longer n m last name names front e (at_last a b) = at_last (ap (λ x. x ∷ names) e ∙ ap (λ xs. m ∷ xs) a) b
longer n m last name names front e (before rest a) = before rest (ap (λ x. x ∷ names) e ∙ ap (λ xs. m ∷ xs) a)

head_same : (n m : List ℕ) (xs ys : List (List ℕ)) → n ∷ xs ≡ m ∷ ys → n ≡ m
head_same n m xs ys e = cc

tail_same : (n m : List ℕ) (xs ys : List (List ℕ)) → n ∷ xs ≡ m ∷ ys → xs ≡ ys
tail_same n m xs ys e = cc

splits : (names front behind : List (List ℕ)) (last name : List ℕ) → names ++ last ∷ [] ≡ front ++ name ∷ behind → Splits names last front name
splits [] [] behind last name e = at_last refl (head_same last name [] behind e)
splits [] (m ∷ []) behind last name e = absurd cc
splits [] (m ∷ (o ∷ front)) behind last name e = absurd cc
splits (n ∷ names) [] behind last name e = before names (ap (λ x. x ∷ names) (head_same n name (names ++ last ∷ []) behind e))
splits (n ∷ names) (m ∷ front) behind last name e =
    longer n m last name names front (head_same n m (names ++ last ∷ []) (front ++ name ∷ behind) e)
    (splits names front behind last name (tail_same n m (names ++ last ∷ []) (front ++ name ∷ behind) e))

pub one_more_distinct : (names : List (List ℕ)) (last : List ℕ) → AreDistinct names → (Contains names last → ⊥) → AreDistinct (names ++ last ∷ [])
one_more_distinct names last h absent_last front behind name e there = by_place (splits names front behind last name e)
  where
    by_place : Splits names last front name → ⊥
    by_place (at_last a b) = absent_last (subst (λ n. Contains names n) (sym b) (subst (λ (ns : List (List ℕ)). Contains ns name) (sym a) there))
    by_place (before rest a) = h front rest name a there
