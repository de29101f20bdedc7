-- What stands at an index of a list.
use Rattle.std.proofs.Common.{◌≡◌, ℕ, zero, suc, ◌+◌, ◌<◌, ◌⊎◌, List, [], ◌∷◌, ◌++◌, length, map, get_or, Some, option_map, refl, sym, ap, ◌∙◌, inl, inr, arith}
use Rattle.std.proofs.lemmas.Option.{none-some, same_Some, slice_get-get_or, slice_get-map}
use Rattle.std.specs.List.{slice_get}

-- the view of an element
pub viewed_at : {A B : Type 0} (view : A → B) (xs : List A) (i : ℕ) (x : A) → x ≡ get_or xs i x → i < length xs → slice_get (map view xs) i ≡ Some (view x)
viewed_at view xs i x is lt = slice_get-map view xs i ∙ ap (option_map view) (slice_get-get_or xs i x lt ∙ ap Some (sym is))

-- what stands at one index is one element
pub same_at : {X : Type 0} (xs : List X) (i j : ℕ) (x y : X) → i ≡ j → slice_get xs i ≡ Some x → slice_get xs j ≡ Some y → x ≡ y
same_at xs i j x y same one other = same_Some x y (sym one ∙ ap (slice_get xs) same ∙ other)

-- what stands in two lists, one behind the other, stands in one of them
pub in_one : {X : Type 0} (ps qs : List X) (b : ℕ) (x : X) → slice_get (ps ++ qs) b ≡ Some x → (slice_get ps b ≡ Some x) ⊎ ((k : ℕ) × (b ≡ length ps + k) × (slice_get qs k ≡ Some x))
in_one [] qs b x h = inr (b, omega arith, h)
in_one (p ∷ ps) qs zero x h = inl h
in_one (p ∷ ps) qs (suc b) x h =
    elim (in_one ps qs b x h) [
      | inl first ↦ inl first
      | inr second ↦ inr (second.0, omega (arith, second.1), second.2)
    ]

-- one more behind a list: those before it stand where they stood
pub before_last : {X : Type 0} (xs : List X) (y x : X) (i : ℕ) → slice_get xs i ≡ Some x → slice_get (xs ++ y ∷ []) i ≡ Some x
before_last [] y x i h = absurd (none-some x h)
before_last (z ∷ xs) y x zero h = h
before_last (z ∷ xs) y x (suc i) h = before_last xs y x i h

pub at_last : {X : Type 0} (xs : List X) (y : X) (i : ℕ) → i ≡ length xs → slice_get (xs ++ y ∷ []) i ≡ Some y
at_last [] y zero h = refl
at_last [] y (suc i) h = absurd (omega (arith, h))
at_last (z ∷ xs) y zero h = absurd (omega (arith, h))
at_last (z ∷ xs) y (suc i) h = at_last xs y i (omega (arith, h))
