-- Lists of classes: what stands at an index, and what holds below one.
use Rattle.std.proofs.Common.{◌≡◌, ℕ, ◌+◌, ◌<◌, List, [], ◌∷◌, ◌++◌, length, map, take, get_or, Some, option_map, sym, ap, ◌∙◌, subst, inl, inr, arith, append_assoc}
use Rattle.std.proofs.lemmas.Bool.{cases_eq}
use Rattle.std.proofs.Math.Seq.{take-append-add}
use Rattle.std.proofs.lemmas.List.{take_more}
use Rattle.std.proofs.lemmas.Option.{get_or_from_slice_get, same_Some, slice_get-get_or, slice_get-map, slice_get_within}
use Rattle.std.specs.List.{slice_get}
use Rattle.jd_jclasses.specs.Classes.{DeclaredClass}
use Rattle.jd_jheads.specs.Firsts.{NoneBelow}

-- the view of an element
pub viewed_at : {A B : Type 0} (view : A → B) (xs : List A) (i : ℕ) (x : A) → x ≡ get_or xs i x → i < length xs → slice_get (map view xs) i ≡ Some (view x)
viewed_at view xs i x is lt = slice_get-map view xs i ∙ ap (option_map view) (slice_get-get_or xs i x lt ∙ ap Some (sym is))

-- one more of what follows a list
pub taken_more : {X : Type 0} (ps qs : List X) (i : ℕ) (x : X) → slice_get qs i ≡ Some x → take (length ps + (i + 1)) (ps ++ qs) ≡ take (length ps + i) (ps ++ qs) ++ x ∷ []
taken_more ps qs i x there =
    take-append-add ps qs (i + 1)
    ∙ ap (λ t. ps ++ t) (take_more qs i x (slice_get_within qs i x there) ∙ ap (λ y. take i qs ++ y ∷ []) (get_or_from_slice_get qs i x x there))
    ∙ sym (append_assoc ps (take i qs) (x ∷ []))
    ∙ ap (λ t. t ++ x ∷ []) (sym (take-append-add ps qs i))

-- what holds of none of the first ones nor of the next
pub none_more : (ds : List DeclaredClass) (P : ℕ → DeclaredClass → Type 0) (i : ℕ) (d : DeclaredClass) → slice_get ds i ≡ Some d → NoneBelow ds P i → (P i d → ⊥) → NoneBelow ds P (i + 1)
none_more ds P i d there before here = λ j e lt at holds.
    elim (cases_eq j i) [
      | inl same ↦
          let one : e ≡ d = same_Some e d (sym at ∙ ap (λ (k : ℕ). slice_get ds k) same ∙ there) in
          here (subst (λ (k : ℕ). P k d) same (subst (λ (c : DeclaredClass). P j c) one holds))
      | inr other ↦ before j e (omega (arith, lt, other)) at holds
    ]
