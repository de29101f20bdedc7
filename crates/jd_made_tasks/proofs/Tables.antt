-- The tables by their parts.
use Rattle.std.proofs.Common.{◌≡◌, inl, ℕ, List, sym, ap, subst, ◌∙◌}
use Rattle.std.specs.Prelude.{Err, IfErr, IfOk, Ok, Result}
use Rattle.jd_syntax.specs.JavaTrees.{JavaUnit}
use Rattle.jd_bodies.specs.Declarations.{Declarations}
use Rattle.jd_model.specs.ContractForms.{PlainBody, PlainCase, PlainContracts, PlainInvariant}
use Rattle.jd_model.specs.Programs.{Program}
use Rattle.jd_jml_formulas.specs.declared.whole.Unmade.{Unmade}
use Rattle.jd_jml_formulas.specs.declared.whole.Unmade.TheVariants as causes
use Rattle.jd_jml_meaning.specs.JmlCases.{JmlProgram}
use Rattle.jd_jml_meaning.specs.Resolved.{JmlExpr}
use Rattle.jd_programs.specs.Cases.{all_cases}
use Rattle.jd_programs.specs.Programs.{IsProgram}
use Rattle.jd_listed_tables.specs.Listed.{body_rows, case_rows, invariant_rows, tables}
use Rattle.jd_case_tables.specs.Large.{TellsOfCases}
use Rattle.jd_made_tasks.specs.Tabled.{TellsOfTables, node_limit}

-- what is known of a result is known of what it is
pub at_ok : {X E : Type 0} (P : X → Type 0) (r : Result X E) (x : X) → r ≡ Ok x → IfOk r P → P x
at_ok P r x is h = subst (λ s. IfOk s P) is h

pub at_err : {X E : Type 0} (P : E → Type 0) (r : Result X E) (e : E) → r ≡ Err e → IfErr r P → P e
at_err P r e is h = subst (λ s. IfErr s P) is h

abbrev of_parts : List PlainCase → List PlainInvariant → List PlainBody → PlainContracts
of_parts cs is bs = record { cases = cs; invariants = is; bodies = bs }

pub tables_made : (units : List JavaUnit) (d e : Declarations) (p : Program) (v : ℕ → List JmlExpr) (cs : List PlainCase) (is : List PlainInvariant) (bs : List PlainBody) → d ≡ e → cs ≡ case_rows units e p v → is ≡ invariant_rows units d p v → bs ≡ body_rows units d p v → record { cases = cs; invariants = is; bodies = bs } ≡ tables units d p v
tables_made units d e p v cs is bs same cases invariants bodies =
    ap (λ l. of_parts l is bs) (cases ∙ ap (λ x. case_rows units x p v) (sym same))
    ∙ ap (λ l. of_parts (case_rows units d p v) l bs) invariants
    ∙ ap (of_parts (case_rows units d p v) (invariant_rows units d p v)) bodies

module _ (units : List JavaUnit) (j : JmlProgram) (is : IsProgram units j) (e : Declarations) (same : is.declarations ≡ e) where
  pub of_cases : (u : Unmade) → TellsOfCases node_limit j.program (all_cases units j.program.superclasses e (λ m. m)) u → TellsOfTables units j is u
  of_cases u tells = inl (subst (λ x. TellsOfCases node_limit j.program (all_cases units j.program.superclasses x (λ m. m)) u) (sym same) tells)

  pub of_memory : (u : Unmade) → u ≡ causes.NoMemory → TellsOfTables units j is u
  of_memory u none = rw none (inl tt)
