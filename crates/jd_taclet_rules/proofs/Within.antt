-- A fact of each element of a list, as far as a loop has come.
use Rattle.std.proofs.Common.{◌≡◌, ℕ, zero, suc, ◌+◌, ◌<◌, ◌≤◌, List, [], ◌∷◌, length, map, take, get_or, All, sym, subst, arith, add-one}
use Rattle.std.proofs.lemmas.List.{take_all}

all_cons : {A : Type 0} (P : A → Type 0) (x : A) (xs : List A) → P x → All P xs → All P (x ∷ xs)
all_cons P x xs h all zero d lt = h
all_cons P x xs h all (suc k) d lt = all k d (omega arith)

all_tail : {A : Type 0} (P : A → Type 0) (x : A) (xs : List A) → All P (x ∷ xs) → All P xs
all_tail P x xs all k d lt = all (suc k) d (omega arith)

one_more : {A B : Type 0} (P : B → Type 0) (f : A → B) (xs : List A) (i : ℕ) (x : A) → x ≡ get_or xs i x → i < length xs → P (f x) → All P (map f (take i xs)) → All P (map f (take (suc i) xs))
one_more P f [] i x e lt h all = absurd (omega arith)
one_more P f (y ∷ xs) zero x e lt h all = all_cons P (f y) [] (subst (λ z. P (f z)) e h) (λ k d lt. absurd (omega arith))
one_more P f (y ∷ xs) (suc i) x e lt h all = all_cons P (f y) (map f (take (suc i) xs)) (all 0 (f y) (omega arith)) (one_more P f xs i x e (omega arith) h (all_tail P (f y) (map f (take i xs)) all))

pub all_more : {A B : Type 0} (P : B → Type 0) (f : A → B) (xs : List A) (i : ℕ) (x : A) → x ≡ get_or xs i x → i < length xs → P (f x) → All P (map f (take i xs)) → All P (map f (take (i + 1) xs))
all_more P f xs i x e lt h all = subst (λ k. All P (map f (take k xs))) (sym (add-one i)) (one_more P f xs i x e lt h all)

pub all_whole : {A B : Type 0} (P : B → Type 0) (f : A → B) (xs : List A) (i : ℕ) → length xs ≤ i → All P (map f (take i xs)) → All P (map f xs)
all_whole P f xs i le all = subst (λ l. All P (map f l)) (take_all i xs le) all
