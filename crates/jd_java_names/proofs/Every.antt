-- What holds of each element of a list.
use Rattle.std.proofs.Common.{◌≡◌, ℕ, zero, suc, List, [], ◌∷◌, ◌++◌, map, drop, Some, subst}
use Rattle.std.specs.List.{AllByRecursion as Every, slice_get}
use Rattle.std.proofs.lemmas.Option.{same_Some}

pub every_append : {X : Type 0} (P : X → Type 0) (xs ys : List X) → Every P xs → Every P ys → Every P (xs ++ ys)
every_append P [] ys h g = g
every_append P (x ∷ xs) ys h g = (h.0, every_append P xs ys h.1 g)

pub every_drop : {X : Type 0} (P : X → Type 0) (n : ℕ) (xs : List X) → Every P xs → Every P (drop n xs)
every_drop P zero xs h = h
every_drop P (suc n) [] h = h
every_drop P (suc n) (x ∷ xs) h = every_drop P n xs h.1

pub every_at : {X : Type 0} (P : X → Type 0) (xs : List X) (i : ℕ) (x : X) → Every P xs → slice_get xs i ≡ Some x → P x
every_at P [] i x h e = absurd cc
every_at P (y ∷ ys) zero x h e = subst P (same_Some y x e) h.0
every_at P (y ∷ ys) (suc i) x h e = every_at P ys i x h.1 e

pub every_mapped : {X Y : Type 0} (P : X → Type 0) (Q : Y → Type 0) (f : X → Y) → ((x : X) → P x → Q (f x)) → (xs : List X) → Every P xs → Every Q (map f xs)
every_mapped P Q f each [] h = tt
every_mapped P Q f each (x ∷ xs) h = (each x h.0, every_mapped P Q f each xs h.1)

pub every_before : {X Y : Type 0} (P : X → Type 0) (Q : Y → Type 0) (f : X → Y) → ((x : X) → Q (f x) → P x) → (xs : List X) → Every Q (map f xs) → Every P xs
every_before P Q f each [] h = tt
every_before P Q f each (x ∷ xs) h = (each x h.0, every_before P Q f each xs h.1)
