-- The sequent of the task that is made of files is spelled.
use Rattle.std.proofs.Common.{Bool, List, None, Option, Some, [], ap, ap₂, arith, codes, cond, false, inl, inr, length, map, refl, subst, sym, true, true≢false, ◌∙◌, ◌∷◌, ◌≡◌, ◌≤◌, ◌⊎◌, ℕ}
use Rattle.std.proofs.lemmas.Bool.{leb-true}
use Rattle.std.proofs.lemmas.Option.{same_Some}
use Rattle.std.specs.List.{AllByRecursion as Every, slice_get}
use Rattle.std.specs.Option.{unwrap_or}
use Rattle.std.specs.Prelude.{Ok}
use Rattle.jd_bodies.specs.Bodies.{body_of}
use Rattle.jd_bodies.specs.Declarations.{Declarations}
use Rattle.jd_bodies.specs.Refused as bodies
use Rattle.jd_bodies.specs.Scopes.{Scope, empty_scope}
use Rattle.jd_bodies.specs.Variables.{this_name}
use Rattle.jd_bodies.specs.declared.value.ValueType.TheVariants as types
use Rattle.jd_body_variables.specs.Laws.{VariablesAreMadeOfNames}
use Rattle.jd_case_obligations.specs.Listed.{parts_of, variables_of_body}
use Rattle.jd_case_rows.specs.Rows.{row_of, spelled_for}
use Rattle.jd_declaration_laws.specs.Laws.{DeclarationsAreOne}
use Rattle.jd_files.specs.Files.{AreTrees}
use Rattle.jd_first_form.specs.Conditions.{all_comparisons}
use Rattle.jd_first_form.specs.Forms.{comparison_limit, gives_int}
use Rattle.jd_first_tasks.proofs.OnlyCase.{TheCase, the_case}
use Rattle.jd_first_tasks.proofs.Rows.{counted, measure_is}
use Rattle.jd_first_tasks.proofs.Shape.{with_method}
use Rattle.jd_first_tasks.proofs.Unrefused.{NoneRefused, refused_at}
use Rattle.jd_first_tasks.specs.Tasks.{IsFirstTask}
use Rattle.jd_java_lexical.specs.Laws.{TreesAreLexical}
use Rattle.jd_jclasses.specs.Classes.{class_named}
use Rattle.jd_jclasses.specs.Members.{Declared, RoutineOf}
use Rattle.jd_jclasses.specs.Methods.{routines}
use Rattle.jd_jclasses.specs.Refusals.{AreClasses}
use Rattle.jd_jml_literals.specs.Fitting.{UnitFits}
use Rattle.jd_jml_literals.specs.Laws.{LiteralsOfJmlFit}
use Rattle.jd_jml_meaning.specs.ContractFormulas.{contract_of, result_term}
use Rattle.jd_jml_meaning.specs.JmlCases.{JmlCase}
use Rattle.jd_jml_meaning.specs.Meaning.{Before, Now}
use Rattle.jd_jml_meaning.specs.Resolved as jml
use Rattle.jd_jml_meaning.specs.Resolved.{JmlLocation}
use Rattle.jd_jml_meaning.specs.Translation.{Spelling}
use Rattle.jd_listed_tables.specs.Listed.{fields_along}
use Rattle.jd_model.specs.Cases.{ConstructorOf, Role, Static}
use Rattle.jd_model.specs.Programs as model
use Rattle.jd_model.specs.Programs.{Body, Program}
use Rattle.jd_model.specs.Sequents.{PlainSequent}
use Rattle.jd_names.specs.Tables.{ClassTables, name_table, program_tables}
use Rattle.jd_oblig.specs.CaseObligations.{obligation_sequent}
use Rattle.jd_programs.specs.Programs.{body_with, parameter_names, variable_name}
use Rattle.jd_refusals.specs.Refusals.{IsFirst}
use Rattle.jd_resolved_bodies.specs.Laws.{BodiesAreResolved, ConstantsFit}
use Rattle.jd_resolved_bodies.specs.Lexical.{IsLexicalMethod}
use Rattle.jd_sequent.specs.Obligations.{PlainObligation, PlainTask, names_of}
use Rattle.jd_specifications.specs.Clauses.{before, behind}
use Rattle.jd_specifications.specs.Refused as specified
use Rattle.jd_specifications.specs.Resolution.{Entry, looked_up, typed}
use Rattle.jd_specifications.specs.Scopes.{local_named}
use Rattle.jd_specifications.specs.WrittenCases.{all_clauses, assignable_else, assignable_of, builds, contract, entries, has_mark, is_nullable, is_pure, model_type, result, result_value}
use Rattle.jd_spelled_first_steps.specs.TermNames.{AreTermNames}
use Rattle.jd_spelled_tasks.proofs.Cases.{each_case}
use Rattle.jd_spelled_tasks.proofs.Clauses.{IsGood, ensures_spelled, requires_spelled, says_no_more, SaysNoMore}
use Rattle.jd_spelled_tasks.proofs.Formulas.{IntTerm}
use Rattle.jd_spelled_tasks.proofs.Parameters.{AreInts, IsIntParameter, argument_known, int_type, parameters_are_ints, respelled_ints}
use Rattle.jd_spelled_tasks.proofs.Scopes.{name_is_int, parameters_found}
use Rattle.jd_spelled_tasks.proofs.Sequents.{IsIntCase, sequent_spelled, spelling_of}
use Rattle.jd_spelled_tasks.proofs.TermNames.{are_term_names, words_pass}
use Rattle.jd_spelled_tasks.proofs.Unrefused.{around, body_is_fine, contract_fits, contract_is_good}
use Rattle.jd_spelled_tasks.specs.Laws.{FirstTasksAreSpelled}
use Rattle.jd_straight_bodies.specs.Laws.{IsKnownBody, StraightBodiesAreKnown}
use Rattle.jd_spelled_trees.specs.Places.{IsSpelledSequent}
use Rattle.jd_syntax.specs.Codes.{OfClass}
use Rattle.jd_syntax.specs.JavaTrees.{Gives, JavaMethod, JavaResult, JavaUnit, OfConstructor, Void}
use Rattle.jd_syntax.specs.JavaTypes.{PlainIdentifier}
use Rattle.jd_syntax.specs.Names.{Name}
use Rattle.jd_syntax.specs.SpecTrees.{PlainSpecBlock}
use Rattle.jd_tforms.specs.Known.{IsKind}
use Rattle.jd_tgrammar.specs.NameTables.{NameTable}
use Rattle.jd_variable_words.specs.Laws.{VariablesAreCalledByWords}
use Rattle.jd_variable_words.specs.Words.{MethodHasWords, is_plain_word}

-- ---- what a static method that gives an int is

module _ (d : Declarations) where
  role_is : (r : JavaResult) (static : Bool) (other : Role) → gives_int r ≡ true → static ≡ true → cond (builds d r) (ConstructorOf 10) (cond static Static other) ≡ Static
  role_is Void static other e is = absurd (true≢false (sym e))
  role_is (Gives w) true other e is = refl
  role_is (Gives w) false other e is = absurd (true≢false (sym is))
  role_is OfConstructor static other e is = absurd (true≢false (sym e))

  result_is : (r : JavaResult) (nullable : Bool) → gives_int r ≡ true → result d r nullable ≡ Some (record { type = model.IntType; nullable = nullable })
  result_is Void nullable e = absurd (true≢false (sym e))
  result_is (Gives w) nullable e = ap (λ t. Some (record { type = model_type d t; nullable = nullable })) (int_type d.class_named w.written e)
  result_is OfConstructor nullable e = absurd (true≢false (sym e))

  value_is : (r : JavaResult) → gives_int r ≡ true → result_value d r ≡ types.Int
  value_is Void e = absurd (true≢false (sym e))
  value_is (Gives w) e = int_type d.class_named w.written e
  value_is OfConstructor e = absurd (true≢false (sym e))

  assignable_is : (o : Option (List JmlLocation)) (pure : Bool) (r : JavaResult) → gives_int r ≡ true → o ≡ None
      → (unwrap_or o (assignable_else d pure (builds d r)) ≡ jml.Nothing ∷ []) ⊎ (unwrap_or o (assignable_else d pure (builds d r)) ≡ jml.Everything ∷ [])
  assignable_is o pure Void e none = absurd (true≢false (sym e))
  assignable_is o true (Gives w) e none = inl (ap (λ x. unwrap_or x (jml.Nothing ∷ [])) none)
  assignable_is o false (Gives w) e none = inr (ap (λ x. unwrap_or x (jml.Everything ∷ [])) none)
  assignable_is o pure OfConstructor e none = absurd (true≢false (sym e))

-- the class of all that is thrown is there
throwable_known : (at : ℕ) (name : PlainIdentifier) (parent : Option PlainIdentifier) (end : Option PlainSpecBlock) (m : JavaMethod) (vs : List Name) (n : ℕ)
    → class_named (with_method at name parent end m) (codes "Throwable") ≡ Some n → IsKind (name_table (program_tables (with_method at name parent end m)) vs) (OfClass n)
throwable_known at name parent end m vs n e = subst (λ c. IsKind (name_table (program_tables (with_method at name parent end m)) vs) (OfClass c)) (same_Some 1 n e) refl

-- ---- the task

abbrev sequent_for : Program → (ℕ → List ℕ) → JmlCase → Body → PlainSequent
sequent_for p fields c b = obligation_sequent (row_of p fields c b) b (parts_of p (contract_of p (spelled_for b c.contract)))

module _
    (straight : StraightBodiesAreKnown)
    (law : DeclarationsAreOne)
    (lexical : TreesAreLexical)
    (words : VariablesAreCalledByWords)
    (resolved : BodiesAreResolved)
    (made : VariablesAreMadeOfNames)
    (literals : LiteralsOfJmlFit)
    (files : List (List ℕ))
    (units : List JavaUnit)
    (trees : AreTrees files units)
    (are : AreClasses units)
    (none : IsFirst units None)
    (q : PlainTask)
    (t : IsFirstTask units q)
  where
    abbrev d : Declarations
    d = t.is_program.declarations

    abbrev p : Program
    p = t.program.program

    its : TheCase units d p.superclasses t.is_program.family t.case
    its = the_case d p.superclasses t.is_program.family units t.form t.is_program.are_declarations t.case (sym (t.is_program.cases 0) ∙ t.first)

    abbrev m : JavaMethod
    m = its.tree

    abbrev b : Body
    b = body_with d 10 m

    abbrev c : JmlCase
    c = record { contract = contract d 10 m its.method.clauses; class = 10; method = 0; number = 1; body = 0; family = t.is_program.family 0 }

    abbrev names : NameTable
    names = name_table (program_tables units) (map variable_name (body_of d 10 m).variables)

    nothing : NoneRefused d units
    nothing = refused_at law units are d t.is_program.are_declarations None refl none

    -- ---- the method

    abbrev routine : Declared
    routine = record { class = 10; file = 0; member = 0; name = m.name; kind = RoutineOf m }

    there : slice_get (routines units) 0 ≡ Some routine
    there = ap (λ us. slice_get (routines us) 0) its.shape

    has_words : MethodHasWords m
    has_words = words files units trees 0 routine m there refl

    is_lexical : IsLexicalMethod m
    is_lexical = lexical.methods files units trees 0 routine m there refl

    constants_fit : ConstantsFit d
    constants_fit = lexical.constants files units trees d t.is_program.are_declarations

    fine : (s : Scope) × (bodies.method d 10 m empty_scope ≡ Ok s)
    fine = body_is_fine d its.at its.name its.parent its.end m (ap (λ us. bodies.first_fault d us) (sym its.shape) ∙ nothing.in_bodies)

    few : length m.parameters ≤ 1000
    few = let le : length m.parameters ≤ 20 = leb-true (length m.parameters) 20 its.method.few_parameters in omega (arith, le)

    known : IsKnownBody names (parameter_names d 10 m) (body_of d 10 m).code_
    known = straight names d 10 m fine.0 its.method.static has_words fine.1 few its.method.straight (resolved d constants_fit 10 m is_lexical fine.0 fine.1).code refl

    ints : AreInts (length m.parameters) (parameter_names d 10 m)
    ints = parameters_are_ints d 10 m its.method.static its.method.ints

    -- ---- its clauses

    good : Every (IsGood d (around d m)) its.method.clauses
    good =
        (subst (Every (λ l. Every (IsGood d (around d m)) l)) its.method.cases
        (each_case (IsGood d (around d m)) (all_clauses m.specs)
        (contract_is_good d its.at its.name its.parent its.end m (ap (λ us. specified.first_fault d us) (sym its.shape) ∙ nothing.in_jml)
        (contract_fits its.at its.name its.parent its.end m (subst (Every UnitFits) its.shape (literals files units trees)))))).0

    count : (n : ℕ) × (all_comparisons its.method.clauses ≡ Some n)
    count = counted comparison_limit (all_comparisons its.method.clauses) its.method.few

    abbrev es : List Entry
    es = entries d 0 m.parameters []

    no_more : SaysNoMore d 10 (result_value d m.result) es its.method.clauses
    no_more = says_no_more d 10 (result_value d m.result) es its.method.clauses count.0 count.1

    abbrev sp : Spelling
    sp = spelling_of names p (fields_along units p.superclasses) c b

    takes : Every IsIntParameter (spelled_for b c.contract).parameters
    takes = respelled_ints names d (parameter_names d 10 m) m.parameters ints known.parameters_ its.method.ints

    gives : c.contract.result ≡ Some (record { type = model.IntType; nullable = has_mark is_nullable m.specs })
    gives = result_is d m.result (has_mark is_nullable m.specs) its.method.gives

    given : IntTerm names sp.result
    given = subst (λ r. IntTerm names (result_term r)) (sym gives) (refl, refl, refl)

    is_case : IsIntCase names p (fields_along units p.superclasses) c b
    is_case = record {
      static = role_is d m.result m.is_static _ its.method.gives its.method.static;
      nullable = has_mark is_nullable m.specs;
      gives = gives;
      signals = no_more.signals;
      only = no_more.only;
      assignable = assignable_is d (assignable_of d 10 (result_value d m.result) es its.method.clauses) (has_mark is_pure m.specs) m.result its.method.gives no_more.assignable;
      measure = measure_is d 10 (result_value d m.result) es its.method.clauses count.0 count.1;
      receiver = ap (λ s. cond s None (Some this_name)) its.method.static;
      takes = takes;
      ints = ints.ints;
      known = known.parameters_;
      runs = known.code;
      fits = known.sorted;
      throwable =
          subst (λ us. IsKind (name_table (program_tables us) (map variable_name (body_of d 10 m).variables)) (OfClass p.throwable)) (sym its.shape)
          (throwable_known its.at its.name its.parent its.end m (map variable_name (body_of d 10 m).variables) p.throwable (subst (λ us. class_named us (codes "Throwable") ≡ Some p.throwable) its.shape t.is_program.classes.throwable));
      before =
          requires_spelled names p sp d 10 (result_value d m.result) es (value_is d m.result its.method.gives) given (around d m)
          (λ at x h. name_is_int names p sp d (λ when k. argument_known names (spelled_for b c.contract).parameters k takes) m.is_static at (looked_up 0 es x) (typed es x) (local_named (specified.parameters d m.parameters []) x) (d.variable 10 x) its.method.static (parameters_found d m.parameters its.method.ints x) (λ n e. constants_fit 10 x n e) h)
          Before its.method.clauses count.0 count.1 good;
      behind =
          ensures_spelled names p sp d 10 (result_value d m.result) es (value_is d m.result its.method.gives) given (around d m)
          (λ at x h. name_is_int names p sp d (λ when k. argument_known names (spelled_for b c.contract).parameters k takes) m.is_static at (looked_up 0 es x) (typed es x) (local_named (specified.parameters d m.parameters []) x) (d.variable 10 x) its.method.static (parameters_found d m.parameters its.method.ints x) (λ n e. constants_fit 10 x n e) h)
          Now its.method.clauses count.0 count.1 good;
    }

    -- ---- together

    body_is : t.body ≡ b
    body_is = same_Some t.body b (sym t.runs ∙ ap (λ (x : JmlCase). p.body x.body) its.is ∙ t.is_program.bodies 0 ∙ its.body)

    sequent_is : q.obligation.sequent ≡ sequent_for p (fields_along units p.superclasses) c b
    sequent_is = ap (λ (o : PlainObligation). o.sequent) t.obligation ∙ ap₂ (λ x y. sequent_for p (fields_along units p.superclasses) x y) its.is body_is

    variables_are : map variable_name q.obligation.vars ≡ map variable_name (body_of d 10 m).variables
    variables_are = ap (map variable_name) (ap (λ (o : PlainObligation). o.vars) t.obligation ∙ ap (λ (x : JmlCase). variables_of_body units d x.body) its.is ∙ its.variables)

    names_are : names_of q ≡ names
    names_are = ap₂ (λ (k : ClassTables) (vs : List Name). name_table k vs) t.classes.tables variables_are

    spelled : IsSpelledSequent (names_of q) q.obligation.sequent × AreTermNames (names_of q).variables
    spelled =
        subst (λ n. IsSpelledSequent n q.obligation.sequent × AreTermNames n.variables) (sym names_are)
        (subst (IsSpelledSequent names) (sym sequent_is) (sequent_spelled names p (fields_along units p.superclasses) c b is_case), are_term_names (body_of d 10 m).variables (made is_plain_word d 10 m (words_pass m has_words)))

pub tasks_spelled : StraightBodiesAreKnown → DeclarationsAreOne → TreesAreLexical → VariablesAreCalledByWords → BodiesAreResolved → VariablesAreMadeOfNames → LiteralsOfJmlFit → FirstTasksAreSpelled
tasks_spelled straight law lexical words resolved made literals files units trees are none q t = spelled straight law lexical words resolved made literals files units trees are none q t
