-- Each instance of `useContract` and of `newObject` is a sound step.
use Rattle.std.proofs.Common.{Bool, List, Option, Some, ap, false, map, refl, subst, sym, true, ◌≡◌, ◌++◌, ◌∷◌, ◌∙◌, ◌&&◌, ℕ, ℤ, []}
use Rattle.jd_base.specs.declared.sort.Sort.{Sort}
use Rattle.jd_base.specs.declared.sort.Sort.TheVariants.{Ref as RefSort}
use Rattle.jd_call.proofs.Calls.{receiver_term}
use Rattle.jd_call.proofs.Dispatch.{CaseRow, NamedCase, case_row, covers, named, parameters_are}
use Rattle.jd_call.proofs.NewObject.{made_array, new_array_object, new_object_means, without_focus}
use Rattle.jd_call.proofs.Operands.{all_simple, arguments_ok, call_in, is_heap_sort, operands_in, other_than_heap, receiver_sort, target_ok, target_simple}
use Rattle.jd_call.proofs.Sites.{Site}
use Rattle.jd_call.proofs.Use.{NullFor, OldConstant, OldVariable, UseOk, use_box, use_diamond}
use Rattle.jd_call.specs.Calls.{ConstructorTarget, FocusedCall, OperandsAreSimple, StaticTarget, Target, VirtualTarget, call_of, call_stmt, called_class, called_method, formula_of, parameters_of, target_kind}
use Rattle.jd_call.specs.Laws.{NewObjectIsSound, UseContractIsSound}
use Rattle.jd_task_classes.specs.Classes.{methods_of}
use Rattle.jd_task_classes.specs.Methods.{IsKindOf, IsResultSort, MethodOfCase, MethodsStandFor, PlainMethods}
use Rattle.jd_call.specs.NewObject.{Allocation, ArrayOf, LengthIsSimple, ObjectOf, alloc_stmt, allocation_premise, object_constant}
use Rattle.jd_call.specs.Premises.{call_constants, call_premises, call_variables, entry_premise, null_premises}
use Rattle.jd_task_classes.specs.ResolvedCalls.{CallsAreResolved}
use Rattle.jd_call.specs.UseContract.{MayCall, UseContractInstance, is_in_cluster}
use Rattle.jd_heap.specs.Values.{IntValue, RefValue}
use Rattle.jd_model.proofs.BodyTables.{bodies_assign_no_heap}
use Rattle.jd_model.proofs.InnermostFocus.{Fills, focus_fills}
use Rattle.jd_model.proofs.RightRows.{AllGiven}
use Rattle.jd_model.proofs.Wider.{fill_ctx, fill_focus, formula_wider}
use Rattle.jd_model.proofs.Writes.{not_in}
use Rattle.jd_model.specs.Bodies.{AllAssignNoHeap}
use Rattle.jd_model.specs.Cases.{Case, SpecifiedProgram}
use Rattle.jd_model.specs.Contexts.{Context, fill, one}
use Rattle.jd_model.specs.ContractForms.{PlainBody, PlainCase}
use Rattle.jd_model.specs.InnermostFocus.{innermost_focus}
use Rattle.jd_model.specs.KeptCases.{Usable}
use Rattle.jd_model.specs.Occurrences.{Always, ExprIn, FormulaIn, FormulasIn, NotIn, member}
use Rattle.jd_model.specs.Places.{put_at}
use Rattle.jd_model.specs.Programs.{Body}
use Rattle.jd_model.specs.Sequents.{PlainPlace, PlainSequent}
use Rattle.jd_model.specs.SpecialNames.{entry_measure}
use Rattle.jd_model.specs.States.{State, read}
use Rattle.jd_model.specs.Tables.{BodyAt}
use Rattle.jd_model.specs.Truth.{Setting, Truth}
use Rattle.jd_model.specs.Validity.{AllValid}
use Rattle.jd_sequent.proofs.Freshness.{known_constant_old, left_old, right_old}
use Rattle.jd_sequent.proofs.RulesBelowUpdates.{at_update_place, formulas_wider, sound_below_updates}
use Rattle.jd_sequent.specs.Obligations.{PlainTask}
use Rattle.jd_sequent.specs.TaskMeaning.{StepIsSoundIn, TaskStandsFor}
use Rattle.jd_syntax.specs.CodeNames.{heap_name, same_name}
use Rattle.jd_syntax.specs.Codes.{Done, Exprs, PlainCode, Raise, Stmt}
use Rattle.jd_syntax.specs.Names.{Name}
use Rattle.jd_term.specs.Formulas.{Equal, Implies, Modal, PlainFormula}
use Rattle.jd_term.specs.Terms.{NullTerm}
use Rattle.jd_term.specs.declared.formula.Modality.{Modality}
use Rattle.jd_term.specs.declared.formula.Modality.TheVariants as modalities

-- a name that is new is none of a list of new names, by the tests that say so
module _ (vs cs : List Name) where
  without_tests : (l : List PlainFormula) → FormulasIn (λ x. member x vs ≡ false) (λ x. member x cs ≡ false) l → FormulasIn (λ x. NotIn x vs) (λ x. NotIn x cs) l
  without_tests l h = formulas_wider (λ x. member x vs ≡ false) (λ x. member x cs ≡ false) (λ x. NotIn x vs) (λ x. NotIn x cs) (λ x o. not_in x vs o) (λ x o. not_in x cs o) l h

  of_constants : (l : List PlainFormula) → FormulasIn (λ x. NotIn x vs) (λ x. NotIn x cs) l → FormulasIn Always (λ x. NotIn x cs) l
  of_constants l h = formulas_wider (λ x. NotIn x vs) (λ x. NotIn x cs) Always (λ x. NotIn x cs) (λ x o. tt) (λ x o. o) l h

-- the code is its focus in its context
focus_is : (c : PlainCode) (k : Context) (z : Stmt) → innermost_focus c ≡ Some (k, z) → c ≡ fill k (one z)
focus_is c k z e = subst (Fills c) e (focus_fills c)

-- ---- newObject

allocation_means : (g : Setting) (d : ℕ) (m : Modality) (k : Context) (x : Name) (w : Allocation) → LengthIsSimple w → (r : Name) (a : PlainFormula) → r.sort ≡ RefSort → same_name x heap_name ≡ false → FormulaIn Always (λ y. NotIn y (r ∷ [])) (Modal m (fill k Done) a) → (i s : State) → AllGiven g d i s [] (r ∷ []) (allocation_premise x w r m k a ∷ []) → Truth g d i s [] (Modal m (fill k (one (alloc_stmt x w))) a)
allocation_means g d m k x (ObjectOf c) o r a r_sort apart a_in i s h = new_object_means g d m k x c r a r_sort apart a_in i s h
allocation_means g d m k x (ArrayOf e) o r a r_sort apart a_in i s h = new_array_object g d x e o r r_sort apart m k a a_in i s (h.0 (RefValue (made_array g d x e o r r_sort apart m k a a_in i s) ∷ []))

pub new_object_sound : NewObjectIsSound
new_object_sound t s place n premises inst p c task d m usable valid =
    let news = object_constant n ∷ [] in
    let focus = focus_is inst.code inst.context (alloc_stmt inst.variable inst.allocation) inst.at_focus in
    let left = without_tests [] news s.left (left_old [] news t.obligation s tt (inst.constant_new, tt)) in
    let right = without_tests [] news s.right (right_old [] news t.obligation s tt (inst.constant_new, tt)) in
    let here = formula_wider (λ x. NotIn x []) (λ x. NotIn x news) Always (λ x. NotIn x news) (λ x o. tt) (λ x o. o) (Modal inst.modality inst.code inst.after) (at_update_place (λ x. NotIn x []) (λ x. NotIn x news) s place (Modal inst.modality inst.code inst.after) inst.at_place right) in
    sound_below_updates p.setting d m (Modal inst.modality inst.code inst.after) news s place inst.at_place
    (allocation_premise inst.variable inst.allocation (object_constant n) inst.modality inst.context inst.after ∷ [])
    (λ i u e h. subst (λ z. Truth p.setting d i u [] (Modal inst.modality z inst.after)) (sym focus)
    (allocation_means p.setting d inst.modality inst.context inst.variable inst.allocation inst.length_simple (object_constant n) inst.after refl (other_than_heap inst.variable (ap is_heap_sort inst.variable_sort)) (without_focus (λ y. NotIn y news) inst.modality inst.context (one (alloc_stmt inst.variable inst.allocation)) inst.after (subst (λ z. FormulaIn Always (λ x. NotIn x news) (Modal inst.modality z inst.after)) focus here)) i u h))
    (not_in entry_measure news (known_constant_old [] news t.obligation s tt (inst.constant_new, tt) entry_measure task.measure))
    (of_constants [] news s.left left) (of_constants [] news s.right right)
    (subst (AllValid p.setting d m) inst.premises_are valid)

-- ---- useContract

given_null : (g : Setting) (d : ℕ) (f : PlainCase) (xs : List Name) (r : Option Sort) (t0 : Target) (bs : Exprs) (n : ℕ) (m : Modality) (k : Context) (a : PlainFormula) (np : ℕ) (i s : State) (t : Target) (l : List PlainFormula) → AllGiven g d i s [] (call_constants r n) (null_premises f xs r t0 bs n m k a np t ++ l) → NullFor t (Truth g d i s [] (Implies (Equal (receiver_term t) NullTerm) (Modal m (fill k (one (Raise np))) a))) × AllGiven g d i s [] (call_constants r n) l
given_null g d f xs r t0 bs n m k a np i s (VirtualTarget c z o) l h = (h.0 [], h.1)
given_null g d f xs r t0 bs n m k a np i s (StaticTarget z) l h = (tt, h)
given_null g d f xs r t0 bs n m k a np i s (ConstructorTarget z o) l h = (tt, h)

-- what is permitted, in the program's words
abbrev Permitted : SpecifiedProgram → ℕ → Case → Modality → Bool → Type 0
Permitted p own c modalities.Necessity cluster = cluster ≡ false
Permitted p own c modalities.Possibility cluster = (c.contract.diverges ≡ false) × ((p.reaches own c.family ≡ true) × (p.reaches c.family own ≡ cluster))

module _ (p : SpecifiedProgram) (bodies : AllAssignNoHeap p.setting.program) (q : Site) (y : Option Name) (k : Context) (a : PlainFormula) (ok : UseOk p q y k a) (own d : ℕ) (m : ℤ) (usable : Usable p own d m) where
  call_means : (mode : Modality) (cluster : Bool) → Permitted p own q.case mode cluster → (i s : State) → read i entry_measure ≡ IntValue m → AllGiven p.setting d i s [] (call_constants q.result q.number) (call_premises q.form q.body.parameters q.result q.target q.operands q.number mode k a p.setting.program.null_pointer y cluster) → Truth p.setting d i s [] (Modal mode (fill k (one (call_stmt y (call_of q.target q.operands)))) a)
  call_means modalities.Necessity cluster may i s im h =
      let n = given_null p.setting d q.form q.body.parameters q.result q.target q.operands q.number modalities.Necessity k a p.setting.program.null_pointer i s q.target _ h.1 in
      use_box p bodies q y k a ok i s d usable.below (subst (λ c. Truth p.setting d i s [] (entry_premise q.form q.body.parameters q.result q.target q.operands q.number c)) may (h.0 [])) n.0 n.1.0 n.1.1.0
  call_means modalities.Possibility cluster may i s im h =
      let n = given_null p.setting d q.form q.body.parameters q.result q.target q.operands q.number modalities.Possibility k a p.setting.program.null_pointer i s q.target _ h.1 in
      use_diamond p bodies q y k a ok i s own d m usable im may.0 may.1.0 d cluster may.1.1 (h.0 []) n.0 n.1.0 n.1.1.0

permitted_by : (p : SpecifiedProgram) (own : ℕ) (c : Case) (f : PlainCase) → f.diverges ≡ c.contract.diverges → (mode : Modality) (reached back : Bool) → reached ≡ p.reaches own c.family → back ≡ p.reaches c.family own → MayCall mode f reached → Permitted p own c mode (is_in_cluster mode reached back)
permitted_by p own c f e modalities.Necessity reached back r b may = refl
permitted_by p own c f e modalities.Possibility reached back r b may = (sym e ∙ may.0, (sym r ∙ may.1, sym (ap (λ z. z && back) may.1 ∙ b)))

module _ (t : PlainTask) (s : PlainSequent) (place : PlainPlace) (number n : ℕ) (premises : List PlainSequent) (inst : UseContractInstance t s place number n premises) (p : SpecifiedProgram) (c : Case) (task : TaskStandsFor t p c) where
  abbrev methods : PlainMethods
  methods = methods_of t.classes

  tables : MethodsStandFor methods p
  tables = task.classes.cases

  resolved : CallsAreResolved p
  resolved = task.classes.calls

  abbrev call : FocusedCall
  call = inst.call

  abbrev method : ℕ
  method = called_method call.target

  abbrev result : Option Sort
  result = methods.result method

  abbrev news : List Name
  news = call_constants result n

  -- the names of the sequent are old

  left_in : FormulasIn (OldVariable n) (OldConstant result n) s.left
  left_in = without_tests (call_variables n) news s.left (left_old (call_variables n) news t.obligation s inst.variables_new inst.constants_new)

  right_in : FormulasIn (OldVariable n) (OldConstant result n) s.right
  right_in = without_tests (call_variables n) news s.right (right_old (call_variables n) news t.obligation s inst.variables_new inst.constants_new)

  focus : call.code ≡ fill call.context (one (call_stmt call.into (call_of call.target call.operands)))
  focus = focus_is call.code call.context (call_stmt call.into (call_of call.target call.operands)) inst.at_focus

  abbrev filled : PlainFormula
  filled = Modal call.modality (fill call.context (one (call_stmt call.into (call_of call.target call.operands)))) call.after

  formula_old : FormulaIn (OldVariable n) (OldConstant result n) filled
  formula_old = subst (λ z. FormulaIn (OldVariable n) (OldConstant result n) (Modal call.modality z call.after)) focus (at_update_place (OldVariable n) (OldConstant result n) s place (formula_of call) inst.at_place right_in)

  call_old : ExprIn (OldVariable n) (OldVariable n) (call_of call.target call.operands)
  call_old = call_in n call.into (call_of call.target call.operands) (fill_focus (OldVariable n) (OldVariable n) call.context (one (call_stmt call.into (call_of call.target call.operands))) formula_old.0.0)

  -- the case, its body and its role

  row : CaseRow t.contracts.cases (called_class methods call.target) method inst.case
  row = case_row t.contracts.cases (called_class methods call.target) method number inst.case inst.case_found

  named_case : NamedCase p inst.case
  named_case = named p t.contracts task.tables (called_class methods call.target) method inst.case row

  case_method : named_case.case.method ≡ method
  case_method = sym named_case.stands.method ∙ row.method_is

  of_case : MethodOfCase methods named_case.case
  of_case = tables.cases named_case.index named_case.case named_case.is_case

  kind_of : IsKindOf (target_kind call.target) named_case.case.contract.role
  kind_of = subst (λ k. IsKindOf k named_case.case.contract.role) (ap methods.kind case_method ∙ inst.fits.kind) of_case.kind

  result_of : IsResultSort result named_case.case.contract.result
  result_of = subst (λ z. IsResultSort (methods.result z) named_case.case.contract.result) case_method of_case.result

  callee_family : methods.family method ≡ named_case.case.family
  callee_family = ap methods.family (sym case_method) ∙ of_case.family

  own_family : methods.family t.obligation.method ≡ c.family
  own_family = ap methods.family (sym task.case.method) ∙ (tables.cases task.case.index c task.case.found).family

  body_is : p.setting.program.body method ≡ Some named_case.body
  body_is = ap p.setting.program.body (sym case_method ∙ sym (resolved.own_body named_case.index named_case.case named_case.is_case)) ∙ named_case.has_body

  body_at : BodyAt (Some inst.body) (Some named_case.body)
  body_at = subst (λ (e : Option PlainBody × Option Body). BodyAt e.0 e.1) (λ x. (inst.body_found x, body_is x)) (task.tables.bodies method)

  parameters : parameters_of (target_kind call.target) inst.body ≡ named_case.body.parameters
  parameters = parameters_are (target_kind call.target) named_case.case.contract.role kind_of named_case.body.receiver (resolved.receiver_variable named_case.index named_case.case named_case.is_case named_case.body named_case.has_body) inst.body named_case.body.parameters body_at.0

  operands_fit : OperandsAreSimple call.operands named_case.body.parameters
  operands_fit = subst (OperandsAreSimple call.operands) parameters inst.fits.operands

  -- the use

  abbrev site : Site
  site = record {
    case = named_case.case;
    body = named_case.body;
    form = inst.case;
    result = result;
    target = call.target;
    operands = call.operands;
    number = n;
  }

  ok : UseOk p site call.into call.context call.after
  ok = record {
    site = record {
      stands = named_case.stands;
      target = target_ok n call.target call.operands named_case.case.contract.role kind_of inst.fits.receiver call_old;
      arguments = arguments_ok n call.operands named_case.body.parameters named_case.case.contract.parameters named_case.stands.sorts operands_fit (operands_in n call.target call.operands call_old);
      result = result_of;
    };
    target_simple = target_simple call.target inst.fits.receiver;
    operands_simple = all_simple call.operands named_case.body.parameters operands_fit;
    receiver_sort = receiver_sort call.target inst.fits.receiver;
    covers = covers p resolved t.contracts task.tables named_case.index named_case.case named_case.is_case call.target kind_of (sym case_method);
    into_ok = inst.fits.result;
    context_in = fill_ctx (OldVariable n) (OldVariable n) call.context (one (call_stmt call.into (call_of call.target call.operands))) formula_old.0.0;
    formula_in = formula_old.1;
  }

  abbrev cluster : Bool
  cluster = is_in_cluster call.modality (methods.reaches (methods.family t.obligation.method) (methods.family method)) (methods.reaches (methods.family method) (methods.family t.obligation.method))

  permitted : Permitted p c.family named_case.case call.modality cluster
  permitted = permitted_by p c.family named_case.case inst.case named_case.stands.diverges call.modality (methods.reaches (methods.family t.obligation.method) (methods.family method)) (methods.reaches (methods.family method) (methods.family t.obligation.method))
      ((λ x. methods.reaches (own_family x) (callee_family x)) ∙ tables.reaches task.case.index named_case.index c named_case.case task.case.found named_case.is_case)
      ((λ x. methods.reaches (callee_family x) (own_family x)) ∙ tables.reaches named_case.index task.case.index named_case.case c named_case.is_case task.case.found)
      inst.permitted

  sound : AllAssignNoHeap p.setting.program → StepIsSoundIn p c s premises
  sound bodies d m usable valid =
      sound_below_updates p.setting d m (formula_of call) news s place inst.at_place
      (call_premises inst.case named_case.body.parameters result call.target call.operands n call.modality call.context call.after p.setting.program.null_pointer call.into cluster)
      (λ i u e h. subst (λ z. Truth p.setting d i u [] (Modal call.modality z call.after)) (sym focus) (call_means p bodies site call.into call.context call.after ok c.family d m usable call.modality cluster permitted i u e h))
      (not_in entry_measure news (known_constant_old (call_variables n) news t.obligation s inst.variables_new inst.constants_new entry_measure task.measure))
      (of_constants (call_variables n) news s.left left_in) (of_constants (call_variables n) news s.right right_in)
      (subst (λ (e : List Name × ℕ). AllValid p.setting d m (map (put_at s place) (call_premises inst.case e.0 result call.target call.operands n call.modality call.context call.after e.1 call.into cluster))) (λ x. (parameters x, tables.null_pointer x)) (subst (AllValid p.setting d m) inst.premises_are valid))

pub use_contract_sound : UseContractIsSound
use_contract_sound t bodies s place number n premises inst p c task = sound t s place number n premises inst p c task (bodies_assign_no_heap t.contracts p task.tables bodies)
