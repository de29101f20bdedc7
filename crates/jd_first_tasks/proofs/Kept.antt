-- Each case of such a program is kept where its one obligation is closed by sound steps.
use Rattle.std.proofs.Common.{◌≡◌, arith, ℕ, zero, suc, false, List, [], ◌∷◌, All, Option, Some, None, option_map, refl, sym, ap, subst, ◌∙◌}
use Rattle.std.specs.List.{slice_get}
use Rattle.std.proofs.lemmas.Option.{same_Some, none-some}
use Rattle.jd_base.specs.declared.sort.Sort.TheVariants.{Int as IntSort}
use Rattle.jd_syntax.specs.CodeNames.{is_special}
use Rattle.jd_syntax.specs.JavaTrees.{JavaUnit}
use Rattle.jd_syntax.specs.Names.{Declared as DeclaredVariable}
use Rattle.jd_term.specs.Terms.{sort_of_term}
use Rattle.jd_jclasses.specs.Methods.{routines}
use Rattle.jd_jclasses.specs.Members.{Declared, Kind, FieldOf, ConstantOf, RoutineOf}
use Rattle.jd_jclasses.specs.Refusals.{AreClasses}
use Rattle.jd_bodies.specs.Declarations.{Declarations}
use Rattle.jd_body_variables.specs.Laws.{BodyVariablesAreOrdinary}
use Rattle.jd_specifications.specs.WrittenCases.{contract}
use Rattle.jd_declaration_laws.specs.Laws.{DeclarationsAreOne}
use Rattle.jd_files.specs.Files.{AreTrees}
use Rattle.jd_java_lexical.specs.Laws.{TreesAreLexical}
use Rattle.jd_refusals.specs.Refusals.{IsFirst}
use Rattle.jd_model.specs.Cases.{Case}
use Rattle.jd_model.specs.ContractForms.{PlainCase, PlainContracts}
use Rattle.jd_model.specs.Programs.{Body}
use Rattle.jd_model.specs.SpecialNames.{entry_measure}
use Rattle.jd_model.specs.Tables.{HasResult, TablesStandFor}
use Rattle.jd_sequent.specs.Obligations.{PlainObligation, PlainTask}
use Rattle.jd_sequent.specs.TaskMeaning.{IsKnownConstant, LoopIsKnown, StepIsSound, StepIsSoundIn, TaskStandsFor}
use Rattle.jd_oblig.specs.KeptByObligations.{IsMadeOfRow, sort_of_result}
use Rattle.jd_jml_meaning.specs.JmlCases.{JmlCase, JmlKept, JmlProgram, case_of, specified}
use Rattle.jd_jml_meaning.specs.Meaning.{Before}
use Rattle.jd_jml_meaning.specs.Translation.{Spelling, term}
use Rattle.jd_case_rows.specs.Rows.{row_of}
use Rattle.jd_programs.specs.Programs.{IsProgram, body_with}
use Rattle.jd_listed_tables.specs.Listed.{fields_along, tables}
use Rattle.jd_program_laws.specs.Laws.{AreLexicalMethods, EveryClosedCaseOfProgramsIsKept}
use Rattle.jd_program_laws.specs.TaskClasses.{ClassesOfProgramsStand}
use Rattle.jd_program_tables.specs.Laws.{ListedFieldsAreThose, ListedTablesAreMade, TablesOfProgramsStand}
use Rattle.jd_program_tables.specs.Made.{RowAt}
use Rattle.jd_one_program.specs.Laws.{ProgramsAreOne}
use Rattle.jd_case_obligations.specs.Listed.{variables_of_body, variables_of_declared, variables_of_kind}
use Rattle.jd_first_form.specs.Conditions.{all_comparisons}
use Rattle.jd_first_form.specs.Forms.{comparison_limit}
use Rattle.jd_first_tasks.specs.Laws.{ClosedFirstTasksAreKept}
use Rattle.jd_first_tasks.specs.Tasks.{IsFirstTask}
use Rattle.jd_first_tasks.proofs.Moved.{IsTaskOf, moved}
use Rattle.jd_first_tasks.proofs.Unrefused.{NoneRefused, refused_at}
use Rattle.jd_first_tasks.proofs.OnlyCase.{TheCase, the_case}
use Rattle.jd_first_tasks.proofs.Rows.{counted, has_result, made_of_row, measure_is}

-- ---- variables are ordinary

module _ (law : BodyVariablesAreOrdinary) (d : Declarations) where
  abbrev AreOrdinary : List DeclaredVariable → Type 0
  AreOrdinary vs = All (λ (v : DeclaredVariable). is_special v.name ≡ false) vs

  ordinary_of : (units : List JavaUnit) → AreLexicalMethods units → (m : ℕ) (r : Declared) (k : Kind) → slice_get (routines units) m ≡ Some r → r.kind ≡ k → AreOrdinary (variables_of_kind d r.class k)
  ordinary_of units lexical m r (FieldOf t) there kind = λ k v lt. absurd (omega (arith, lt))
  ordinary_of units lexical m r (ConstantOf n) there kind = λ k v lt. absurd (omega (arith, lt))
  ordinary_of units lexical m r (RoutineOf t) there kind = law d r.class t (lexical m r t there kind)

  ordinary_at : (units : List JavaUnit) → AreLexicalMethods units → (m : ℕ) (o : Option Declared) → slice_get (routines units) m ≡ o → AreOrdinary (variables_of_declared d o)
  ordinary_at units lexical m None there = λ k v lt. absurd (omega (arith, lt))
  ordinary_at units lexical m (Some r) there = ordinary_of units lexical m r r.kind there refl

  pub ordinary : (units : List JavaUnit) → AreLexicalMethods units → (m : ℕ) → AreOrdinary (variables_of_body units d m)
  ordinary units lexical m = ordinary_at units lexical m (slice_get (routines units) m) refl

-- ---- the case's row

module _ (j : JmlProgram) (fields : ℕ → List ℕ) where
  same_row : (f : PlainCase) (k c : JmlCase) (a b : Body) → k ≡ c → j.program.body k.body ≡ Some a → j.program.body c.body ≡ Some b → f ≡ row_of j.program fields k a → f ≡ row_of j.program fields c b
  same_row f k c a b same u v is =
      is
      ∙ ap (row_of j.program fields k) (same_Some a b (sym u ∙ ap (λ (x : JmlCase). j.program.body x.body) same ∙ v))
      ∙ ap (λ x. row_of j.program fields x b) same

  row_there : (f : Option PlainCase) (k : Option JmlCase) (c : JmlCase) (b : Body) → k ≡ Some c → j.program.body c.body ≡ Some b → RowAt j fields f k → f ≡ Some (row_of j.program fields c b)
  row_there f None c b e runs row = absurd (none-some c e)
  row_there None (Some k) c b e runs row = absurd row
  row_there (Some f) (Some k) c b e runs row = ap Some (same_row f k c row.0 b (same_Some k c e) row.1 runs row.2)

module _
    (law : DeclarationsAreOne)
    (one : ProgramsAreOne)
    (lexical : TreesAreLexical)
    (named : BodyVariablesAreOrdinary)
    (those : ListedFieldsAreThose)
    (listed : ListedTablesAreMade)
    (stand : TablesOfProgramsStand)
    (classes : ClassesOfProgramsStand)
    (files : List (List ℕ))
    (units : List JavaUnit)
    (trees : AreTrees files units)
    (are : AreClasses units)
    (none : IsFirst units None)
    (q : PlainTask)
    (t : IsFirstTask units q)
    (j : JmlProgram)
    (is : IsProgram units j)
  where
    abbrev d : Declarations
    d = is.declarations

    abbrev along : ℕ → List ℕ
    along = fields_along units j.program.superclasses

    task : IsTaskOf units d j q
    task = moved law one units are q t j is

    nothing : NoneRefused d units
    nothing = refused_at law units are d is.are_declarations None refl none

    its : TheCase units d j.program.superclasses is.family task.case
    its = the_case d j.program.superclasses is.family units task.form is.are_declarations task.case (sym (is.cases 0) ∙ task.first)

    tables_stand : TablesStandFor q.contracts (specified j)
    tables_stand =
        subst (λ x. TablesStandFor x (specified j)) (sym task.contracts)
        (stand units are (lexical.parameters files units trees) j is nothing.in_bodies nothing.in_jml along (those units are j is) (tables units d j.program j.own) (listed units are j is))

    body_is : task.body ≡ body_with d 10 its.tree
    body_is =
        same_Some task.body (body_with d 10 its.tree)
        (sym task.runs ∙ ap (λ (x : JmlCase). j.program.body x.body) its.is ∙ is.bodies 0 ∙ its.body)

    found : slice_get q.contracts.cases 0 ≡ Some (row_of j.program along task.case task.body)
    found =
        ap (λ (x : PlainContracts). slice_get x.cases 0) task.contracts
        ∙ row_there j along (slice_get (tables units d j.program j.own).cases 0) (j.case 0) task.case task.body task.first task.runs ((listed units are j is).cases 0)

    result_fits : HasResult (option_map sort_of_result task.case.contract.result) task.body.result
    result_fits =
        subst (λ (x : JmlCase). HasResult (option_map sort_of_result x.contract.result) task.body.result) (sym its.is)
        (subst (λ (b : Body). HasResult (option_map sort_of_result (contract d 10 its.tree its.method.clauses).result) b.result) (sym body_is) (has_result d its.tree.result _))

    measure_fits : (s : Spelling) → sort_of_term (term j.program s Before task.case.contract.measure) ≡ IntSort
    measure_fits s =
        let n = counted comparison_limit (all_comparisons its.method.clauses) its.method.few in
        ap (λ (x : JmlCase). sort_of_term (term j.program s Before x.contract.measure)) its.is
        ∙ ap (λ e. sort_of_term (term j.program s Before e)) (measure_is d 10 _ _ its.method.clauses n.0 n.1)

    made : IsMadeOfRow q.contracts (specified j) 0 (case_of j.program task.case) q.obligation.sequent
    made =
        subst (λ (o : PlainObligation). IsMadeOfRow q.contracts (specified j) 0 (case_of j.program task.case) o.sequent) (sym task.obligation)
        (made_of_row q.contracts j along task.case task.body found task.runs result_fits measure_fits)

    stands_for : TaskStandsFor q (specified j) (case_of j.program task.case)
    stands_for = record {
      classes = classes units are (lexical.constructors files units trees) q.classes task.classes j is;
      tables = tables_stand;
      case = record {
        index = 0;
        found = ap (option_map (case_of j.program)) task.first;
        class = ap (λ (o : PlainObligation). o.class) (sym task.obligation);
        method = ap (λ (o : PlainObligation). o.method) (sym task.obligation);
        number = ap (λ (o : PlainObligation). o.case) (sym task.obligation);
      };
      measure = subst (λ o. IsKnownConstant o entry_measure) (sym task.obligation) refl;
      variables = subst (λ (o : PlainObligation). AreOrdinary named d o.vars) (sym task.obligation) (ordinary named d units (lexical.methods files units trees) task.case.body);
      loops = subst (λ (o : PlainObligation). All (LoopIsKnown o) o.loops) (sym task.obligation) (λ k v lt. absurd (omega (arith, lt)));
    }

    -- there is no other case
    only_zero : (κ : ℕ) (c : Case) → option_map (case_of j.program) (slice_get (task.case ∷ []) κ) ≡ Some c → (κ ≡ 0) × (c ≡ case_of j.program task.case)
    only_zero zero c e = (refl, sym (same_Some (case_of j.program task.case) c e))
    only_zero (suc κ) c e = absurd (none-some c e)

    only : (κ : ℕ) (c : Case) → (specified j).case κ ≡ Some c → (κ ≡ 0) × (c ≡ case_of j.program task.case)
    only κ c e = only_zero κ c (ap (λ l. option_map (case_of j.program) (slice_get l κ)) (sym its.only) ∙ ap (option_map (case_of j.program)) (sym (is.cases κ)) ∙ e)

    made_each : (κ : ℕ) (c : Case) → (specified j).case κ ≡ Some c → IsMadeOfRow q.contracts (specified j) κ c q.obligation.sequent
    made_each κ c e =
        let z = only κ c e in
        subst (λ n. IsMadeOfRow q.contracts (specified j) n c q.obligation.sequent) (sym z.0) (subst (λ x. IsMadeOfRow q.contracts (specified j) 0 x q.obligation.sequent) (sym z.1) made)

    sound_each : StepIsSound q q.obligation.sequent [] → (κ : ℕ) (c : Case) → (specified j).case κ ≡ Some c → StepIsSoundIn (specified j) c q.obligation.sequent []
    sound_each sound κ c e = subst (λ x. StepIsSoundIn (specified j) x q.obligation.sequent []) (sym (only κ c e).1) (sound (specified j) (case_of j.program task.case) stands_for)

    each_kept : EveryClosedCaseOfProgramsIsKept → StepIsSound q q.obligation.sequent [] → (κ : ℕ) (c : JmlCase) → j.case κ ≡ Some c → JmlKept j c
    each_kept closed sound =
        closed units (lexical.methods files units trees) (lexical.parameters files units trees) j is (lexical.constants files units trees d is.are_declarations) nothing.in_bodies q.contracts tables_stand (λ κ. q.obligation.sequent) made_each (sound_each sound)

pub closed_kept : DeclarationsAreOne → ProgramsAreOne → TreesAreLexical → BodyVariablesAreOrdinary → ListedFieldsAreThose → ListedTablesAreMade → TablesOfProgramsStand → ClassesOfProgramsStand → EveryClosedCaseOfProgramsIsKept → ClosedFirstTasksAreKept
closed_kept law one lexical named those listed stand classes closed files units trees are none q t sound j is =
    each_kept law one lexical named those listed stand classes files units trees are none q t j is closed sound
