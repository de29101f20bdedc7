-- Matching that begins without bindings.
use Rattle.std.proofs.Common.{Bool, IfOk, None, Option, Some, [], ap, refl, subst, ◌≡◌, ◌∙◌}
use Rattle.std.specs.declared.result.Result.{Result}
use Rattle.jd_base.specs.declared.memory.NoMemory.{NoMemory}
use Rattle.jd_model.specs.Places as places
use Rattle.jd_model.specs.Places.{FormulaPart, LocPart, TermPart}
use Rattle.jd_patterns.specs.Bindings.{Bindings}
use Rattle.jd_schema_matching.specs.Bound.{answered}
use Rattle.jd_schema_matching.specs.Tested.{tests}
use Rattle.jd_taclet_matching.specs.Found.{matched_from}
use Rattle.jd_taclet_stages.specs.Stages.{matched}
use Rattle.jd_taclets.specs.Taclets.{FormulaFind, Pattern, TermFind}

matched_same : (f : Option Pattern) (x : places.Part) → matched_from f x [] ≡ matched tests f x
matched_same None x = refl
matched_same (Some (FormulaFind a)) (FormulaPart x) = refl
matched_same (Some (FormulaFind a)) (TermPart x) = refl
matched_same (Some (FormulaFind a)) (LocPart x) = refl
matched_same (Some (TermFind p)) (FormulaPart x) = refl
matched_same (Some (TermFind p)) (TermPart x) = refl
matched_same (Some (TermFind p)) (LocPart x) = refl

-- what an answer says, of the same bindings
pub told_of : (r : Result Bool NoMemory) (o p : Option Bindings) (τ : Bindings) → o ≡ p → IfOk r (λ b. answered b τ ≡ o) → IfOk r (λ b. answered b τ ≡ p)
told_of r o p τ e h = subst (λ (q : Option Bindings). IfOk r (λ b. answered b τ ≡ q)) e h

pub found_anew : (f : Option Pattern) (x : places.Part) (none τ : Bindings) (r : Result Bool NoMemory) → none ≡ [] → IfOk r (λ b. answered b τ ≡ matched_from f x none) → IfOk r (λ b. answered b τ ≡ matched tests f x)
found_anew f x none τ r is h = told_of r (matched_from f x none) (matched tests f x) τ (ap (matched_from f x) is ∙ matched_same f x) h
