-- Where tables of such a program are too large to be made, its task is past a limit; and where there is no row, there is no task.
use Rattle.std.proofs.Common.{◌≡◌, inl, inr, ℕ, true, List, [], ◌∷◌, ◌++◌, map, length, Option, Some, None, option_map, refl, sym, ap, subst, ◌∙◌}
use Rattle.std.specs.List.{slice_get, range_with_len}
use Rattle.std.proofs.lemmas.Option.{none-some}
use Rattle.jd_syntax.specs.JavaTrees.{JavaClass, JavaUnit}
use Rattle.jd_jclasses.specs.Classes.{parents}
use Rattle.jd_jclasses.specs.Refusals.{AreClasses}
use Rattle.jd_bodies.specs.Declarations.{Declarations}
use Rattle.jd_declaration_laws.specs.Laws.{DeclarationsAreOne}
use Rattle.jd_model.specs.ContractForms.{PlainContracts}
use Rattle.jd_model.specs.Programs.{Body}
use Rattle.jd_sequent.specs.Obligations.{PlainTask}
use Rattle.jd_jml_formulas.specs.declared.whole.Unmade.TheVariants as causes
use Rattle.jd_jml_meaning.specs.ContractFormulas.{contract_of}
use Rattle.jd_jml_meaning.specs.InvariantFormulas.{invariant_formulas}
use Rattle.jd_jml_meaning.specs.JmlCases.{JmlCase, JmlProgram}
use Rattle.jd_case_rows.specs.Rows.{spelled_for}
use Rattle.jd_case_clauses.specs.Said.{OneIsLarge}
use Rattle.jd_case_clauses.specs.Whole.{IsTooLarge}
use Rattle.jd_invariant_laws.specs.Laws.{InvariantsAreResolved}
use Rattle.jd_one_program.specs.Laws.{ProgramsAreOne}
use Rattle.jd_task_classes.specs.Classes.{PlainClasses}
use Rattle.jd_program_laws.specs.TaskClasses.{AreClassesOf}
use Rattle.jd_programs.specs.Cases.{all_cases}
use Rattle.jd_programs.specs.Programs.{IsProgram, class_tree, invariants_of_tree}
use Rattle.jd_listed_tables.specs.Listed.{fields_along, invariant_row, invariant_rows, tables}
use Rattle.jd_program_tables.specs.Laws.{ListedTablesAreMade}
use Rattle.jd_program_tables.specs.Made.{RowAt}
use Rattle.jd_case_tables.specs.Large.{OneCaseIsLarge}
use Rattle.jd_body_tables.specs.Invariants.{all_formulas}
use Rattle.jd_case_obligations.specs.Listed.{case_obligation, variables_of_body}
use Rattle.jd_large_obligations.specs.Laws.{LargeClausesMakeLargeSequents}
use Rattle.jd_first_form.specs.Forms.{is_first_form}
use Rattle.jd_first_tasks.specs.Tasks.{IsFirstTask}
use Rattle.jd_first_tasks.proofs.Alike.{alike_there, same_first, without_family}
use Rattle.jd_first_tasks.proofs.Moved.{IsTaskOf, moved}
use Rattle.jd_first_tasks.proofs.OnlyCase.{TheCase, the_case}
use Rattle.jd_made_tasks.specs.Answers.{HasLargeTask}
use Rattle.jd_made_tasks.specs.Tabled.{AreTabled, TellsOfTables, node_limit}
use Rattle.jd_made_tasks.proofs.Form.{OneBody, no_invariants, one_body}

-- ---- no formula of an invariant is too large, as there is none

module _ (law : InvariantsAreResolved) (units : List JavaUnit) (are : AreClasses units) (j : JmlProgram) (is : IsProgram units j) (form : is_first_form is.declarations units ≡ true) where
  none_of_tree : (c : ℕ) (o : Option JavaClass) → class_tree units c ≡ o → invariants_of_tree is.declarations c o ≡ []
  none_of_tree c None e = refl
  none_of_tree c (Some t) e =
      sym (law units are is.declarations is.are_declarations c t e) ∙ ap (map _) (no_invariants units is.declarations form c t e)

  none_own : (c : ℕ) → j.own c ≡ []
  none_own c = is.invariants_ c ∙ none_of_tree c (class_tree units c) refl

  no_formulas : (cs : List ℕ) → all_formulas (map (invariant_row j.program j.own) cs) ≡ []
  no_formulas [] = refl
  no_formulas (c ∷ cs) = ap (λ es. invariant_formulas j.program es ++ all_formulas (map (invariant_row j.program j.own) cs)) (none_own c) ∙ no_formulas cs

  pub no_large_invariant : OneIsLarge node_limit (all_formulas (invariant_rows units is.declarations j.program j.own)) → ⊥
  no_large_invariant large = subst (OneIsLarge node_limit) (no_formulas (range_with_len 0 (length (parents units)))) large

-- ---- a case that is too large

module _ (units : List JavaUnit) (are : AreClasses units) (j : JmlProgram) (is : IsProgram units j) (form : is_first_form is.declarations units ≡ true) (k : PlainClasses) (told : AreClassesOf units k) where
  abbrev d : Declarations
  d = is.declarations

  abbrev along : ℕ → List ℕ
  along = fields_along units j.program.superclasses

  abbrev alone : List JmlCase
  alone = all_cases units j.program.superclasses d (λ m. m)

  -- the one case, whatever family it has
  record LargeCase : Type 0 where
    pub case : JmlCase
    pub first : j.case 0 ≡ Some case
    pub body : Body
    pub runs : j.program.body case.body ≡ Some body
    pub large : IsTooLarge node_limit (contract_of j.program (spelled_for body case.contract))

  -- of a list with one case this is the one
  one_large : (c : JmlCase) → OneCaseIsLarge node_limit j.program (c ∷ []) → (b : Body) × (j.program.body c.body ≡ Some b) × IsTooLarge node_limit (contract_of j.program (spelled_for b c.contract))
  one_large c (inl large) = large
  one_large c (inr none) = absurd none

  some_large : (cs : List JmlCase) → alone ≡ cs → OneCaseIsLarge node_limit j.program cs → LargeCase
  some_large [] e large = absurd large
  some_large (c ∷ cs) e large =
      let first : slice_get alone 0 ≡ Some c = ap (λ l. slice_get l 0) e in
      let its : TheCase units d j.program.superclasses (λ m. m) c = the_case d j.program.superclasses (λ m. m) units form is.are_declarations c first in
      let one = one_large c (subst (OneCaseIsLarge node_limit j.program) (sym e ∙ its.only) large) in
      let there = alike_there (j.case 0) (without_family c)
      (ap (option_map without_family) (is.cases 0) ∙ same_first units j.program.superclasses d is.family (λ m. m) ∙ ap (option_map without_family) first) in
      record {
        case = there.0;
        first = there.1;
        body = one.0;
        runs = ap (λ (x : JmlCase). j.program.body x.body) there.2 ∙ one.1;
        large = subst (λ (x : JmlCase). IsTooLarge node_limit (contract_of j.program (spelled_for one.0 x.contract))) (sym there.2) one.2;
      }

  abbrev task_with : JmlCase → Body → PlainTask
  task_with c b = record { classes = k; contracts = tables units d j.program j.own; obligation = case_obligation units j.program along c b (variables_of_body units d c.body) [] }

  past_of : LargeClausesMakeLargeSequents → LargeCase → HasLargeTask units
  past_of law l = record {
    task = task_with l.case l.body;
    is_task = record { program = j; is_program = is; form = form; classes = told; contracts = refl; case = l.case; first = l.first; body = l.body; runs = l.runs; obligation = refl };
    past = law units j.program along l.case l.body l.large;
  }

  pub past : LargeClausesMakeLargeSequents → InvariantsAreResolved → TellsOfTables units j is causes.TooLarge → HasLargeTask units
  past law resolved (inl cases) = past_of law (some_large alone refl cases)
  past law resolved (inr invariants) = absurd (no_large_invariant resolved units are j is form invariants)

-- ---- where no row is listed

module _ (law : DeclarationsAreOne) (one : ProgramsAreOne) (listed : ListedTablesAreMade) (units : List JavaUnit) (are : AreClasses units) (j : JmlProgram) (is : IsProgram units j) (form : is_first_form is.declarations units ≡ true) (t : PlainContracts) (tabled : AreTabled units j is t) where
  pub no_row : slice_get t.cases 0 ≡ None → (q : PlainTask) → IsFirstTask units q → ⊥
  no_row none q task =
      let m : IsTaskOf units is.declarations j q = moved law one units are q task j is in
      let at = (listed units are j is).cases 0 in
      subst (λ o. RowAt j (fields_along units j.program.superclasses) o (Some m.case)) (ap (λ (x : PlainContracts). slice_get x.cases 0) (sym tabled) ∙ none)
      (subst (RowAt j (fields_along units j.program.superclasses) (slice_get (tables units is.declarations j.program j.own).cases 0)) m.first at)

  pub no_body : slice_get t.bodies 0 ≡ None → ⊥
  no_body none =
      let b : OneBody units is.declarations = one_body units is.declarations form in
      none-some _ (sym none ∙ ap (λ (x : PlainContracts). slice_get x.bodies 0) tabled ∙ ap (λ l. slice_get l 0) b.rows)
