-- What has a number in a list, counted from 1.
use Rattle.std.proofs.Common.{◌≡◌, ℕ, zero, suc, ◌+◌, ◌<◌, ◌≤◌, List, [], ◌∷◌, length, map, get_or, Some, None, refl, sym, ap, ◌∙◌, arith, add-one}
use Rattle.std.specs.Prelude.{slice_get}
use Rattle.jd_model.specs.Places.{numbered}

got : {A B : Type 0} (f : A → B) (xs : List A) (k : ℕ) (x : A) → x ≡ get_or xs k x → k < length xs → slice_get (map f xs) k ≡ Some (f x)
got f [] k x e lt = absurd (omega arith)
got f (y ∷ xs) zero x e lt = ap (λ z. Some (f z)) (sym e)
got f (y ∷ xs) (suc k) x e lt = got f xs k x e (omega arith)

pub numbered_here : {A B : Type 0} (f : A → B) (xs : List A) (n k : ℕ) (x : A) → n ≡ k + 1 → x ≡ get_or xs k x → k < length xs → Some (f x) ≡ numbered (map f xs) n
numbered_here f xs n k x is e lt = sym (ap (numbered (map f xs)) (is ∙ add-one k) ∙ got f xs k x e lt)

past : {A B : Type 0} (f : A → B) (xs : List A) (k : ℕ) → length xs ≤ k → slice_get (map f xs) k ≡ None
past f [] k le = refl
past f (y ∷ xs) zero le = absurd (omega arith)
past f (y ∷ xs) (suc k) le = past f xs k (omega arith)

pub numbered_past : {A B : Type 0} (f : A → B) (xs : List A) (n k : ℕ) → n ≡ k + 1 → length xs ≤ k → None ≡ numbered (map f xs) n
numbered_past f xs n k is le = sym (ap (numbered (map f xs)) (is ∙ add-one k) ∙ past f xs k le)
