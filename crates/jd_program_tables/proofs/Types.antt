-- Lists of written types that are not apart are the same.
use Rattle.std.proofs.Common.{◌≡◌, ◌≢◌, ◌⊎◌, inl, inr, ⊎_elim, ℕ, Bool, true, false, List, [], ◌∷◌, refl, ap, ap₂, bytes_eq}
use Rattle.std.proofs.lemmas.Slice.Eq.{bytes_eq-Decides}
use Rattle.jd_syntax.specs.JavaTypes.{PlainType, IntType, BooleanType, IntArrayType, NamedType}

abbrev Either : {A : Type 0} → A → A → Type 0
Either a b = (a ≡ b) ⊎ (a ≢ b)

same_name : (x y : List ℕ) → Either x y
same_name x y = by (bytes_eq x y) refl
  where
    by : (b : Bool) → bytes_eq x y ≡ b → Either x y
    by true e = inl ((bytes_eq-Decides x y).0 e)
    by false e = inr (λ same. let yes : bytes_eq x y ≡ true = (bytes_eq-Decides x y).1 same in cc)

same_type : (a b : PlainType) → Either a b
same_type IntType IntType = inl refl
same_type IntType BooleanType = inr (λ e. cc)
same_type IntType IntArrayType = inr (λ e. cc)
same_type IntType (NamedType y) = inr (λ e. cc)
same_type BooleanType IntType = inr (λ e. cc)
same_type BooleanType BooleanType = inl refl
same_type BooleanType IntArrayType = inr (λ e. cc)
same_type BooleanType (NamedType y) = inr (λ e. cc)
same_type IntArrayType IntType = inr (λ e. cc)
same_type IntArrayType BooleanType = inr (λ e. cc)
same_type IntArrayType IntArrayType = inl refl
same_type IntArrayType (NamedType y) = inr (λ e. cc)
same_type (NamedType x) IntType = inr (λ e. cc)
same_type (NamedType x) BooleanType = inr (λ e. cc)
same_type (NamedType x) IntArrayType = inr (λ e. cc)
same_type (NamedType x) (NamedType y) = ⊎_elim (λ e. inl (ap NamedType e)) (λ apart. inr (λ e. apart (let both = e in cc))) (same_name x y)

same_types : (as' bs : List PlainType) → Either as' bs
same_types [] [] = inl refl
same_types [] (b ∷ bs) = inr (λ e. cc)
same_types (a ∷ as') [] = inr (λ e. cc)
same_types (a ∷ as') (b ∷ bs) =
    ⊎_elim (λ e. ⊎_elim (λ f. inl (ap₂ ◌∷◌ e f)) (λ apart. inr (λ h. apart (let both = h in cc))) (same_types as' bs)) (λ apart. inr (λ h. apart (let both = h in cc))) (same_type a b)

pub not_apart : (as' bs : List PlainType) → ((as' ≢ bs) → ⊥) → as' ≡ bs
not_apart as' bs h = ⊎_elim (λ e. e) (λ apart. absurd (h apart)) (same_types as' bs)
