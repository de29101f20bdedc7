-- A variable is bound as the bindings tell.
use Rattle.std.proofs.Common.{◌≡◌, List, [], ◌∷◌, ◌++◌, Some, map, refl, sym, ap, ◌∙◌}
use Rattle.std.proofs.lemmas.List.{map-append}
use Rattle.jd_patterns.specs.Patterns.{SchemaVar}
use Rattle.jd_patterns.specs.Bindings.{Part, Bindings, Verdict, OtherKind, Equal, Different, placed, bind}
use Rattle.jd_schema_matching.specs.Tested.{tests}
use Rattle.jd_schema_matching.specs.Bound.{met, or_else, looked, told}

placed_told : (v k : Verdict) (n : SchemaVar) (x : Part) (e : SchemaVar × Part) (τ : Bindings) → placed v e τ (told k n x τ) ≡ told (or_else v k) n x (e ∷ τ)
placed_told OtherKind OtherKind n x e τ = refl
placed_told OtherKind Equal n x e τ = refl
placed_told OtherKind Different n x e τ = refl
placed_told Equal k n x e τ = refl
placed_told Different k n x e τ = refl

bound_by : (n : SchemaVar) (x : Part) (τ : Bindings) → bind tests n x τ ≡ told (looked n x τ) n x τ
bound_by n x [] = refl
bound_by n x (e ∷ τ) = ap (placed (met e n x) e τ) (bound_by n x τ) ∙ placed_told (met e n x) (looked n x τ) n x e τ

pub bound_as : (v : Verdict) (n : SchemaVar) (x : Part) (τ : Bindings) → v ≡ looked n x τ → told v n x τ ≡ bind tests n x τ
bound_as v n x τ e = ap (λ k. told k n x τ) e ∙ sym (bound_by n x τ)

-- with entries that are views
pub bound_push : {E : Type 0} (f : E → SchemaVar × Part) (es fs : List E) (e : E) (n : SchemaVar) (x : Part) → f e ≡ (n, x) → fs ≡ es ++ e ∷ [] → OtherKind ≡ looked n x (map f es) → Some (map f fs) ≡ bind tests n x (map f es)
bound_push f es fs e n x is more told =
    ap (λ l. Some (map f l)) more ∙ ap Some (map-append f es (e ∷ [])) ∙ ap (λ p. Some (map f es ++ p ∷ [])) is ∙ bound_as OtherKind n x (map f es) told
