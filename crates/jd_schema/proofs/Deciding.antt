-- What is found is a match.
use Rattle.std.proofs.Common.{IfSome, List, None, Option, Some, refl, subst, sym, ◌≡◌, []}
use Rattle.jd_model.specs.Places.{FormulaPart, LocPart, TermPart}
use Rattle.jd_model.specs.Places as places
use Rattle.jd_model.specs.Programs.{Program}
use Rattle.jd_pattern_laws.proofs.AllLaws.{binding, decides}
use Rattle.jd_pattern_laws.specs.Laws.{Binds, IsDecided}
use Rattle.jd_patterns.specs.Bindings.{Bindings}
use Rattle.jd_patterns.specs.Instances.{Instance}
use Rattle.jd_patterns.specs.Variables.{Variable}
use Rattle.jd_schema.specs.Matches.{BindsAll, IsMatch, MakesAt, found_in}
use Rattle.jd_schema_matching.specs.Tested.{tests}
use Rattle.jd_taclets.specs.Taclets.{FormulaFind, IsFind, Pattern, TermFind}

nothing_made : (Makes : Instance → Type 0) → ((σ : Instance) → Makes σ → ⊥) → IsDecided tests [] Makes None
nothing_made Makes none = (((λ _. λ σ _. none σ), (λ _. refl)), tt)

all_bound : (vs : List Variable) (o : Option Bindings) → IfSome o (Binds vs []) → BindsAll vs o
all_bound vs None h = tt
all_bound vs (Some τ) h = h.0

pub found_is_match : (p : Program) (f : Option Pattern) (x : Option places.Part) → IsFind f → IsMatch p f x (found_in f x)
found_is_match p f None is = (nothing_made (MakesAt p f None) (λ σ m. m), tt)
found_is_match p None (Some x) is = (nothing_made (MakesAt p None (Some x)) (λ σ m. m), tt)
found_is_match p (Some (FormulaFind a)) (Some (FormulaPart x)) is = (decides.of_formulas p tests [] a x is tt, all_bound _ _ (binding.of_formulas tests [] a x))
found_is_match p (Some (FormulaFind a)) (Some (TermPart x)) is = (nothing_made (MakesAt p (Some (FormulaFind a)) (Some (TermPart x))) (λ σ m. m), tt)
found_is_match p (Some (FormulaFind a)) (Some (LocPart x)) is = (nothing_made (MakesAt p (Some (FormulaFind a)) (Some (LocPart x))) (λ σ m. m), tt)
found_is_match p (Some (TermFind t)) (Some (TermPart x)) is = (decides.of_terms p tests [] t x is tt, all_bound _ _ (binding.of_terms tests [] t x))
found_is_match p (Some (TermFind t)) (Some (FormulaPart x)) is = (nothing_made (MakesAt p (Some (TermFind t)) (Some (FormulaPart x))) (λ σ m. m), tt)
found_is_match p (Some (TermFind t)) (Some (LocPart x)) is = (nothing_made (MakesAt p (Some (TermFind t)) (Some (LocPart x))) (λ σ m. m), tt)

pub is_match : (p : Program) (f : Option Pattern) (x : Option places.Part) (o : Option Bindings) → IsFind f → o ≡ found_in f x → IsMatch p f x o
is_match p f x o is e = subst (λ b. IsMatch p f x b) (sym e) (found_is_match p f x is)
