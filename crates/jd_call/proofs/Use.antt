-- `useContract`: from the truth of its premises for all values of the new constants to the truth of the modality.
use Rattle.std.proofs.Common.{Bool, List, None, Option, Some, ap, arith, cond, false, int_le, int_lt, map, pos, refl, subst, suc, sym, true, true≢false, zero, ◌≡◌, ◌≤◌, ◌++◌, ◌∷◌, ◌∙◌, ℕ, ℤ, []}
use Rattle.jd_base.specs.declared.sort.Sort.{Sort}
use Rattle.jd_base.specs.declared.sort.Sort.TheVariants.{Bool as BoolSort, Field as FieldSort, Heap as HeapSort, Int as IntSort, Ref as RefSort}
use Rattle.jd_call.proofs.After.{after_call, after_thrown, box_moves, box_waits, call_waits, dia_moves, exec_call, returns_like, throws_like}
use Rattle.jd_call.proofs.Calls.{AllSimple, CallMeets, Returns, TargetSimple, Throws, body_meets, body_of, call_runs, if_null, is_not_ended, over_back, receiver_term, returns, throws}
use Rattle.jd_call.proofs.Sites.{ResultGiven, Site, SiteOk, after_state, back_true, call_heap, call_receiver, call_values, conj_parts, conj_true, entry_means, entry_renaming, exceptional_true, exit_renaming, front_true, given_receiver, heap_renewed, measure_means, normal_true, result_values, typed_sort}
use Rattle.jd_call.specs.Calls.{ConstructorTarget, ResultFits, StaticTarget, Target, VirtualTarget, call_of, call_stmt}
use Rattle.jd_task_classes.specs.Methods.{IsResultSort}
use Rattle.jd_call.specs.Premises.{call_constants, call_variables, entry_premise, exception_constant, exception_variable, exceptional_premise, heap_after, heap_before, normal_premise, result_constant, result_constants, smaller_measure, unless_receiver_is_null, with_result_in}
use Rattle.jd_heap.specs.Heaps.{Heap}
use Rattle.jd_heap.specs.References.{Array, Null, Object, Reference, is_null}
use Rattle.jd_heap.specs.Values.{HeapValue, IntValue, IsOf, RefValue, Value, as_int, as_ref, default}
use Rattle.jd_model.proofs.Coincidence.{Agree, agree_write, any_heap}
use Rattle.jd_model.proofs.Grows.{created_stays, heap_written, one_heap, values_heap}
use Rattle.jd_model.proofs.Modalities.{modal_alike}
use Rattle.jd_model.proofs.More.{runner_ext}
use Rattle.jd_model.proofs.Writes.{new_values, read_other, read_own, read_there}
use Rattle.jd_model.specs.Bodies.{AllAssignNoHeap, AtEnd, Grows}
use Rattle.jd_model.specs.Cases.{Case, Contract, DeclaredType, SpecifiedProgram}
use Rattle.jd_model.specs.Conjunctions.{conjunction}
use Rattle.jd_model.specs.Contexts.{Context, fill, one}
use Rattle.jd_model.specs.ContractForms.{PlainCase}
use Rattle.jd_model.specs.EntryExit.{EntryAs, Receiver, ResultOf, measure_at}
use Rattle.jd_model.specs.KeptCases.{KeptBelow, KeptFrom, MeetsTo, Usable, measure_of, run_of, start_state}
use Rattle.jd_model.specs.Occurrences.{ContextIn, FormulaIn, NotIn}
use Rattle.jd_model.specs.Outcomes.{IsOver, Outcome}
use Rattle.jd_model.specs.Programs.{Body, BooleanType, IntType, ReferenceType, ValueType, type_sort}
use Rattle.jd_model.specs.Renamings.{rename_all}
use Rattle.jd_term.specs.Renamings.{rename_term}
use Rattle.jd_model.specs.Runs.{dispatch, eval, exec_at, raise, run_body, runner, with_one, with_values}
use Rattle.jd_model.specs.SimpleExpressions.{term_of}
use Rattle.jd_model.specs.SpecialNames.{entry_measure}
use Rattle.jd_model.specs.States.{State, empty_state, heap_of, read, with_heap, write}
use Rattle.jd_model.specs.Tables.{loosened}
use Rattle.jd_model.specs.TermValues.{value}
use Rattle.jd_model.specs.Truth.{IfEnds, InvTruth, Setting, Truth}
use Rattle.jd_model.specs.Validity.{AllTrue}
use Rattle.jd_syntax.specs.CodeNames.{heap_name}
use Rattle.jd_syntax.specs.Codes.{Done, Expr, Exprs, PlainCode, Raise, ThrowUnchecked, Variable}
use Rattle.jd_syntax.specs.Names.{Name}
use Rattle.jd_term.specs.Formulas.{Equal, Implies, Modal, PlainFormula, Updated, WellFormed}
use Rattle.jd_term.specs.Terms.{Constant, NullTerm, ProgramVariable}
use Rattle.jd_term.specs.declared.formula.Modality.{Modality}
use Rattle.jd_term.specs.declared.formula.Modality.TheVariants as modalities

-- a body's run never takes `created` away
body_grows : (p : SpecifiedProgram) → AllAssignNoHeap p.setting.program → (m : ℕ) (b : Body) → p.setting.program.body m ≡ Some b → (d n : ℕ) (h : Heap) (r : Reference) (vs : List Value) → AtEnd (run_of p b d n h r vs) (λ t. Grows h (heap_of t))
body_grows p ok m b has d n h r vs =
    let o = ok m b has in
    subst (λ k. AtEnd (run_of p b d n h r vs) (λ t. Grows k (heap_of t))) (values_heap _ b.parameters vs o.parameters ∙ one_heap _ b.receiver (RefValue r) o.receiver ∙ heap_written empty_state h)
    (created_stays p.setting.program ok d n b.code o.code (start_state b h r vs))

null_value : (v : Value) → IsOf RefSort v → is_null (as_ref v) ≡ true → v ≡ RefValue Null
null_value (RefValue Null) o e = refl
null_value (RefValue (Object c n)) o e = absurd (true≢false (sym e))
null_value (RefValue (Array c n)) o e = absurd (true≢false (sym e))
null_value v o e = absurd o

-- what the second premise says, where there is one
abbrev pub NullFor : Target → Type 0 → Type 0
NullFor (VirtualTarget k m a) X = X
NullFor (StaticTarget m) X = Unit {0}
NullFor (ConstructorTarget m a) X = Unit {0}

-- a call on null throws; any other runs a body, and has what the first premise says
module _ (g : Setting) (d : ℕ) (i s : State) (f : PlainCase) (xs : List Name) (c : Option Sort) (t0 : Target) (bs : Exprs) (n : ℕ) where
  split : {Z : Type 0} (t : Target) (X : Type 0) → NullFor t X → (X → is_null (as_ref (value i s [] (receiver_term t))) ≡ true → ((o : Outcome Value) → if_null g.program t (as_ref (value i s [] (receiver_term t))) s o ≡ raise g.program g.program.null_pointer s) → Z) → (((e : PlainFormula) → Truth g d i s [] (unless_receiver_is_null f xs c t0 bs n t e) → Truth g d i s [] e) → ((o : Outcome Value) → if_null g.program t (as_ref (value i s [] (receiver_term t))) s o ≡ o) → Z) → Z
  split (StaticTarget m) X x null go = go (λ e h. h) (λ o. refl)
  split (ConstructorTarget m a) X x null go = go (λ e h. h) (λ o. refl)
  split {Z = Z} (VirtualTarget k m a) X x null go = by (is_null (as_ref (value i s [] (term_of a)))) refl
    where
      by : (b : Bool) → is_null (as_ref (value i s [] (term_of a))) ≡ b → Z
      by true e = null x e (λ o. ap (λ c. cond c (raise g.program g.program.null_pointer s) o) e)
      by false e = go (λ e' h. h (λ z. true≢false (ap (λ v. is_null (as_ref v)) (sym z) ∙ e))) (λ o. ap (λ c. cond c (raise g.program g.program.null_pointer s) o) e)

-- ---- the new constants

apart_after : (r : Option Sort) (c : Option DeclaredType) → IsResultSort r c → (n : ℕ) → NotIn (heap_after n) (exception_constant n ∷ result_constants r n)
apart_after None None o n = (refl, tt)
apart_after (Some k) (Some d) o n = subst (λ z. NotIn (heap_after n) (exception_constant n ∷ result_constants (Some z) n)) (sym o) (by d.type)
  where
    by : (t : ValueType) → NotIn (heap_after n) (exception_constant n ∷ result_constants (Some (type_sort t)) n)
    by IntType = (refl, (refl, tt))
    by BooleanType = (refl, (refl, tt))
    by (ReferenceType z) = (refl, (refl, tt))
apart_after None (Some d) o n = absurd o
apart_after (Some k) None o n = absurd o

apart_exception : (r : Option Sort) (c : Option DeclaredType) → IsResultSort r c → (n : ℕ) → NotIn (exception_constant n) (result_constants r n)
apart_exception None None o n = tt
apart_exception (Some k) (Some d) o n = subst (λ z. NotIn (exception_constant n) (result_constants (Some z) n)) (sym o) (by d.type)
  where
    by : (t : ValueType) → NotIn (exception_constant n) (result_constants (Some (type_sort t)) n)
    by IntType = (refl, tt)
    by BooleanType = (refl, tt)
    by (ReferenceType z) = (refl, tt)
apart_exception None (Some d) o n = absurd o
apart_exception (Some k) None o n = absurd o

result_given : (g : Setting) (r : Option Sort) (c : Option DeclaredType) → IsResultSort r c → (n : ℕ) (s : State) (v : Value) (z : Heap) → ResultOf g z c v → ResultGiven r n (with_values s (result_constants r n) (result_values r v)) v
result_given g None None o n s v z e = tt
result_given g (Some k) (Some d) o n s v z e =
    let is : IsOf k v = subst (λ x. IsOf x v) (sym o) (typed_sort g z d.type d.nullable v e) in
    (read_own s (result_constant k n) v is, is)
result_given g None (Some d) o n s v z e = absurd o
result_given g (Some k) None o n s v z e = absurd o

-- a value for the result where the call throws
abbrev no_result : Option Sort → Value
no_result None = RefValue Null
no_result (Some k) = default k

default_is : (k : Sort) → IsOf k (default k)
default_is IntSort = tt
default_is BoolSort = tt
default_is RefSort = tt
default_is HeapSort = tt
default_is FieldSort = tt

none_given : (r : Option Sort) (n : ℕ) (s : State) → ResultGiven r n (with_values s (result_constants r n) (result_values r (no_result r))) (no_result r)
none_given None n s = tt
none_given (Some k) n s = (read_own s (result_constant k n) (default k) (default_is k), default_is k)

-- ---- the conditions of a use

-- names that are none of the step's new ones
abbrev pub OldVariable : ℕ → Name → Type 0
OldVariable n x = NotIn x (call_variables n)

abbrev pub OldConstant : Option Sort → ℕ → Name → Type 0
OldConstant r n x = NotIn x (call_constants r n)

-- the case whose body a call runs for a receiver: with the named case's contract and family, for the receiver's class
pub record Found (p : SpecifiedProgram) (c : Case) (t : Target) (r : Reference) : Type 0 where
  pub number : ℕ
  pub case : Case
  pub is_case : p.case number ≡ Some case
  pub contract_same : c.contract ≡ case.contract
  pub family_same : case.family ≡ c.family
  pub exactly : (h : Heap) → Receiver p.setting false c.contract.role c.class h r → Receiver p.setting true c.contract.role case.class h r
  pub body : Body
  pub has_body : p.setting.program.body case.body ≡ Some body
  pub runs : body_of p.setting.program t r ≡ Some case.body

pub record UseOk (p : SpecifiedProgram) (q : Site) (y : Option Name) (k : Context) (a : PlainFormula) : Type 0 where
  pub site : SiteOk p q
  pub target_simple : TargetSimple q.target
  pub operands_simple : AllSimple q.operands
  pub receiver_sort : (i s : State) → IsOf RefSort (value i s [] (receiver_term q.target))
  pub covers : (h : Heap) (r : Reference) → Receiver p.setting false q.case.contract.role q.case.class h r → Found p q.case q.target r
  pub into_ok : ResultFits y q.result
  pub context_in : ContextIn (OldVariable q.number) (OldVariable q.number) k
  pub formula_in : FormulaIn (OldVariable q.number) (OldConstant q.result q.number) a

module _ (p : SpecifiedProgram) (bodies : AllAssignNoHeap p.setting.program) (q : Site) (y : Option Name) (k : Context) (a : PlainFormula) (ok : UseOk p q y k a) (i s : State) where
  abbrev g : Setting
  g = p.setting

  abbrev h : Heap
  h = call_heap p q ok.site i s

  abbrev r : Reference
  r = call_receiver p q ok.site i s

  abbrev vs : List Value
  vs = call_values p q ok.site i s

  abbrev entered : Type 0
  entered = EntryAs g false q.case.contract q.case.class h r vs

  -- the values of the new constants
  abbrev news : Heap → Reference → Value → List Value
  news z x v = HeapValue z ∷ (RefValue x ∷ result_values q.result v)

  abbrev with_news : Heap → Reference → Value → State
  with_news z x v = with_values i (call_constants q.result q.number) (news z x v)

  news_old : (z : Heap) (x : Reference) (v : Value) → Agree (OldConstant q.result q.number) i (with_news z x v)
  news_old z x v = new_values (call_constants q.result q.number) (news z x v) i

  reads_after : (z : Heap) (x : Reference) (v : Value) → read (with_news z x v) (heap_after q.number) ≡ HeapValue z
  reads_after z x v = read_other (write i (heap_after q.number) (HeapValue z)) (exception_constant q.number ∷ result_constants q.result q.number) (RefValue x ∷ result_values q.result v) (heap_after q.number) (apart_after q.result q.case.contract.result ok.site.result q.number) ∙ read_own i (heap_after q.number) (HeapValue z) tt

  reads_exception : (z : Heap) (x : Reference) (v : Value) → read (with_news z x v) (exception_constant q.number) ≡ RefValue x
  reads_exception z x v = read_other (write (write i (heap_after q.number) (HeapValue z)) (exception_constant q.number) (RefValue x)) (result_constants q.result q.number) (result_values q.result v) (exception_constant q.number) (apart_exception q.result q.case.contract.result ok.site.result q.number) ∙ read_own (write i (heap_after q.number) (HeapValue z)) (exception_constant q.number) (RefValue x) tt

  given_result : (z : Heap) (v : Value) → ResultOf g z q.case.contract.result v → ResultGiven q.result q.number (with_news z Null v) v
  given_result z v e = result_given g q.result q.case.contract.result ok.site.result q.number (write (write i (heap_after q.number) (HeapValue z)) (exception_constant q.number) (RefValue Null)) v z e

  given_none : (z : Heap) (x : Reference) → ResultGiven q.result q.number (with_news z x (no_result q.result)) (no_result q.result)
  given_none z x = none_given q.result q.number (write (write i (heap_after q.number) (HeapValue z)) (exception_constant q.number) (RefValue x))

  -- the caller's state after the call, and the state of the premise, agree at the old variables
  old_state : (z : Heap) → Agree (OldVariable q.number) (with_heap s z) (after_state p q ok.site i s z)
  old_state z = any_heap (OldVariable q.number) z s (write s (heap_before q.number) (HeapValue h)) (λ x o. sym (read_there s (heap_before q.number) (HeapValue h) x o.0))

  abbrev into_value : Option Name → State → Value
  into_value None j = RefValue Null
  into_value (Some x) j = read j (result_constant x.sort q.number)

  old_into : (e : Option Name) (c : Option Sort) → ResultFits e c → (z : Heap) (j : State) (v : Value) → ResultGiven c q.number j v → Agree (OldVariable q.number) (with_one (with_heap s z) e v) (with_one (after_state p q ok.site i s z) e (into_value e j))
  old_into None c o z j v f = old_state z
  old_into (Some x) (Some c) o z j v f = agree_write (OldVariable q.number) (with_heap s z) (after_state p q ok.site i s z) x v (read j (result_constant x.sort q.number)) (sym (ap (λ z. read j (result_constant z q.number)) o ∙ f.0)) (old_state z)
  old_into (Some x) None o z j v f = absurd o

  abbrev caught_state : Heap → State → State
  caught_state z j = write (after_state p q ok.site i s z) (exception_variable q.number) (read j (exception_constant q.number))

  old_caught : (z : Heap) (j : State) → Agree (OldVariable q.number) (with_heap s z) (caught_state z j)
  old_caught z j x o = old_state z x o ∙ sym (read_there (after_state p q ok.site i s z) (exception_variable q.number) (read j (exception_constant q.number)) x o.1.0)

  caught_read : (z : Heap) (j : State) (x : Reference) → read j (exception_constant q.number) ≡ RefValue x → read (caught_state z j) (exception_variable q.number) ≡ RefValue x
  caught_read z j x e = ap (λ v. read (write (after_state p q ok.site i s z) (exception_variable q.number) v) (exception_variable q.number)) e ∙ read_own (after_state p q ok.site i s z) (exception_variable q.number) (RefValue x) tt

  abbrev set_into : Option Name → PlainFormula → PlainFormula
  set_into e m = with_result_in q.form q.body.parameters q.result q.target q.operands q.number e m

  set_truth : (d : ℕ) (e : Option Name) (j t : State) (m : PlainFormula) → Truth g d j t [] (set_into e m) → Truth g d j (with_one t e (into_value e j)) [] m
  set_truth d None j t m h = h
  set_truth d (Some x) j t m h = h

  -- what the two premises after the call give, for the heap and the result or exception of a call that met its exit
  module _ (d : ℕ) (m : Modality) where
    abbrev NormalHolds : Type 0
    NormalHolds = (us : List Value) → Truth g d (with_values i (call_constants q.result q.number) us) s [] (normal_premise q.form q.body.parameters q.result q.target q.operands q.number m k a y)

    abbrev ThrownHolds : Type 0
    ThrownHolds = (us : List Value) → Truth g d (with_values i (call_constants q.result q.number) us) s [] (exceptional_premise q.form q.body.parameters q.result q.target q.operands q.number m k a)

    normal_goes : NormalHolds → (b : Body) (z : Heap) (v : Value) → Returns p q.case.contract b h r vs s z v → Truth g d (with_news z Null v) (with_one (after_state p q ok.site i s z) y (into_value y (with_news z Null v))) [] (Modal m (fill k Done) a)
    normal_goes holds b z v met =
        let j = with_news z Null v in
        set_truth d y j (after_state p q ok.site i s z) (Modal m (fill k Done) a)
        (subst (λ t. Truth g d j t [] (Implies (conjunction (WellFormed (ProgramVariable heap_name) ∷ rename_all (exit_renaming q) q.form.exit)) (set_into y (Modal m (fill k Done) a))))
        (heap_renewed p q ok.site i s j z (reads_after z Null v) met.1 met.0.1)
        (holds (news z Null v))
        (conj_true g d j (after_state p q ok.site i s z) (WellFormed (ProgramVariable heap_name) ∷ rename_all (exit_renaming q) q.form.exit) (normal_true p q ok.site i s d j z v (reads_exception z Null v) (given_result z v met.0.0.typed) met.0.0)))

    thrown_goes : ThrownHolds → (b : Body) (z : Heap) (x : Reference) → Throws p q.case.contract b h r vs s z x → Truth g d (with_news z x (no_result q.result)) (caught_state z (with_news z x (no_result q.result))) [] (Modal m (fill k (one (ThrowUnchecked (Variable (exception_variable q.number))))) a)
    thrown_goes holds b z x met =
        let j = with_news z x (no_result q.result) in
        subst (λ t. Truth g d j t [] (Implies (conjunction (WellFormed (ProgramVariable heap_name) ∷ rename_all (exit_renaming q) q.form.exceptional)) (Updated ((exception_variable q.number, Constant (exception_constant q.number)) ∷ []) (Modal m (fill k (one (ThrowUnchecked (Variable (exception_variable q.number))))) a))))
        (heap_renewed p q ok.site i s j z (reads_after z x (no_result q.result)) met.1 met.0.1)
        (holds (news z x (no_result q.result)))
        (conj_true g d j (after_state p q ok.site i s z) (WellFormed (ProgramVariable heap_name) ∷ rename_all (exit_renaming q) q.form.exceptional) (exceptional_true p q ok.site i s d j z x (no_result q.result) (reads_exception z x (no_result q.result)) (given_none z x) met.0.0))

  -- ---- the call

  abbrev call : Expr
  call = call_of q.target q.operands

  abbrev code : PlainCode
  code = one (call_stmt y call)

  call_is : (d n : ℕ) → eval p.setting.program (runner p.setting.program d n) n call s ≡ if_null p.setting.program q.target r s (dispatch p.setting.program (runner p.setting.program d n) (body_of p.setting.program q.target r) r vs s)
  call_is d n = call_runs p.setting.program i [] (runner p.setting.program d n) n q.target q.operands ok.target_simple ok.operands_simple s

  heap_old : OldVariable q.number heap_name
  heap_old = (refl, (refl, tt))

  found : entered → Found p q.case q.target r
  found e = ok.covers h r e.receiver

  exact_entry : (e : entered) → EntryAs g true (found e).case.contract (found e).case.class h r vs
  exact_entry e = let f = found e in subst (λ c. EntryAs g true c f.case.class h r vs) f.contract_same (record {
    well_formed = e.well_formed;
    receiver = f.exactly h e.receiver;
    arguments = e.arguments;
    required = e.required;
    invariant = e.invariant;
    fields = e.fields;
  })

  -- a body kept to a depth makes a call one level up meet its exit
  found_meets : (e : entered) (d n : ℕ) → MeetsTo p (found e).case d h r vs → CallMeets s (Returns p q.case.contract (found e).body h r vs s) (Throws p q.case.contract (found e).body h r vs s) (runner p.setting.program (suc d) n (found e).case.body r vs s)
  found_meets e d n meets =
      let f = found e in
      subst (λ c. CallMeets s (Returns p c f.body h r vs s) (Throws p c f.body h r vs s) (runner p.setting.program (suc d) n f.case.body r vs s)) (sym f.contract_same)
      (body_meets p f.case f.body f.has_body d n s r vs meets (body_grows p bodies f.case.body f.body f.has_body d n h r vs))

  box_run : (d n : ℕ) → NormalHolds d modalities.Necessity → ThrownHolds d modalities.Necessity → (b : Body) (o : Outcome Value) → CallMeets s (Returns p q.case.contract b h r vs s) (Throws p q.case.contract b h r vs s) o → eval p.setting.program (runner p.setting.program d n) n call s ≡ o → IfEnds (exec_at p.setting.program d n (fill k code) s) (λ t. Truth g d i t [] a)
  box_run d n nh th b o (returns z v met) e =
      let j = with_news z Null v in
      box_moves g i j (OldVariable q.number) (OldConstant q.result q.number) heap_old k ok.context_in a ok.formula_in (news_old z Null v) code Done s (with_one (after_state p q ok.site i s z) y (into_value y j)) d n
      (returns_like p.setting.program d n (OldVariable q.number) y call s _ v (with_heap s z) e (old_into y q.result ok.into_ok z j v (given_result z v met.0.0.typed)))
      (normal_goes d modalities.Necessity nh b z v met)
  box_run d n nh th b o (throws z x met) e =
      let j = with_news z x (no_result q.result) in
      box_moves g i j (OldVariable q.number) (OldConstant q.result q.number) heap_old k ok.context_in a ok.formula_in (news_old z x (no_result q.result)) code (one (ThrowUnchecked (Variable (exception_variable q.number)))) s (caught_state z j) d n
      (throws_like p.setting.program d n (OldVariable q.number) y call s _ x (with_heap s z) (exception_variable q.number) e (old_caught z j) (caught_read z j x (reads_exception z x (no_result q.result))))
      (thrown_goes d modalities.Necessity th b z x met)
  box_run d n nh th b o is_not_ended e = box_waits g i k a code s d n (call_waits p.setting.program d n y call s e)

  box_goes : (d n : ℕ) → KeptBelow p d → (e : entered) → NormalHolds d modalities.Necessity → ThrownHolds d modalities.Necessity → eval p.setting.program (runner p.setting.program d n) n call s ≡ dispatch p.setting.program (runner p.setting.program d n) (body_of p.setting.program q.target r) r vs s → IfEnds (exec_at p.setting.program d n (fill k code) s) (λ t. Truth g d i t [] a)
  box_goes zero n below e nh th ev = box_waits g i k a code s 0 n (call_waits p.setting.program 0 n y call s (ev ∙ ap (λ o. dispatch p.setting.program (runner p.setting.program 0 n) o r vs s) (found e).runs))
  box_goes (suc d) n below e nh th ev = let f = found e in
      box_run (suc d) n nh th f.body (runner p.setting.program (suc d) n f.case.body r vs s) (found_meets e d n (below f.number f.case f.is_case d (omega arith) h r vs (exact_entry e)))
      (ev ∙ ap (λ o. dispatch p.setting.program (runner p.setting.program (suc d) n) o r vs s) f.runs)

  abbrev NullHolds : ℕ → Modality → Type 0
  NullHolds d m = NullFor q.target (Truth g d i s [] (Implies (Equal (receiver_term q.target) NullTerm) (Modal m (fill k (one (Raise p.setting.program.null_pointer))) a)))

  -- a call on null: as the second premise says
  null_goes : (d : ℕ) (m : Modality) → Truth g d i s [] (Implies (Equal (receiver_term q.target) NullTerm) (Modal m (fill k (one (Raise p.setting.program.null_pointer))) a)) → is_null r ≡ true → ((o : Outcome Value) → if_null p.setting.program q.target r s o ≡ raise p.setting.program p.setting.program.null_pointer s) → Truth g d i s [] (Modal m (fill k code) a)
  null_goes d m nul e throws_null =
      subst (λ X. X) (sym (modal_alike g d (InvTruth g d) i [] m k code (one (Raise p.setting.program.null_pointer)) a s s
      (λ f n. exec_call p.setting.program f n y call s ∙ ap (after_call y) (call_is f n ∙ throws_null _) ∙ after_thrown y _ _)))
      (nul (null_value (given_receiver p q ok.site i s) (ok.receiver_sort i s) e))

  abbrev EntryHolds : ℕ → Bool → Type 0
  EntryHolds d cluster = Truth g d i s [] (entry_premise q.form q.body.parameters q.result q.target q.operands q.number cluster)

  abbrev the_members : List PlainFormula
  the_members = rename_all (entry_renaming q) (map loosened q.form.entry)

  abbrev the_measure : Bool → List PlainFormula
  the_measure cluster = smaller_measure q.form q.body.parameters q.result q.target q.operands q.number cluster

  -- in a box
  pub use_box : (d : ℕ) → KeptBelow p d → EntryHolds d false → NullHolds d modalities.Necessity → NormalHolds d modalities.Necessity → ThrownHolds d modalities.Necessity → Truth g d i s [] (Modal modalities.Necessity (fill k code) a)
  use_box d below en nul nh th = split g d i s q.form q.body.parameters q.result q.target q.operands q.number q.target _ nul (null_goes d modalities.Necessity)
      (λ open' runs n. box_goes d n below (entry_means p q ok.site i s d (front_true g d i s the_members [] (conj_parts g d i s (the_members ++ []) (open' (conjunction (the_members ++ [])) en)))) nh th (call_is d n ∙ runs _))

  -- ---- in a diamond

  -- where some run of the call is over with this outcome, and each deeper one has it too
  dia_run : (d f l : ℕ) → NormalHolds d modalities.Possibility → ThrownHolds d modalities.Possibility → (b : Body) (o : Outcome Value) → CallMeets s (Returns p q.case.contract b h r vs s) (Throws p q.case.contract b h r vs s) o → IsOver o → ((e' n : ℕ) → f ≤ e' → l ≤ n → eval p.setting.program (runner p.setting.program e' n) n call s ≡ o) → Truth g d i s [] (Modal modalities.Possibility (fill k code) a)
  dia_run d f l nh th b o (returns z v met) over e =
      let j = with_news z Null v in
      dia_moves g i j (OldVariable q.number) (OldConstant q.result q.number) heap_old k ok.context_in a ok.formula_in (news_old z Null v) code Done s (with_one (after_state p q ok.site i s z) y (into_value y j)) d f l
      (λ e' n le lt. returns_like p.setting.program e' n (OldVariable q.number) y call s _ v (with_heap s z) (e e' n le lt) (old_into y q.result ok.into_ok z j v (given_result z v met.0.0.typed)))
      (normal_goes d modalities.Possibility nh b z v met)
  dia_run d f l nh th b o (throws z x met) over e =
      let j = with_news z x (no_result q.result) in
      dia_moves g i j (OldVariable q.number) (OldConstant q.result q.number) heap_old k ok.context_in a ok.formula_in (news_old z x (no_result q.result)) code (one (ThrowUnchecked (Variable (exception_variable q.number)))) s (caught_state z j) d f l
      (λ e' n le lt. throws_like p.setting.program e' n (OldVariable q.number) y call s _ x (with_heap s z) (exception_variable q.number) (e e' n le lt) (old_caught z j) (caught_read z j x (reads_exception z x (no_result q.result))))
      (thrown_goes d modalities.Possibility th b z x met)
  dia_run d f l nh th b o is_not_ended over e = absurd over

  dia_goes : (d : ℕ) (e : entered) → KeptFrom p (found e).case h r vs → NormalHolds d modalities.Possibility → ThrownHolds d modalities.Possibility → ((e' n : ℕ) → eval p.setting.program (runner p.setting.program e' n) n call s ≡ dispatch p.setting.program (runner p.setting.program e' n) (body_of p.setting.program q.target r) r vs s) → Truth g d i s [] (Modal modalities.Possibility (fill k code) a)
  dia_goes d e kept nh th ev = let f = found e in λ denied. kept.1 f.body f.has_body (λ f0 n0 over.
      dia_run d (suc f0) n0 nh th f.body (runner p.setting.program (suc f0) n0 f.case.body r vs s) (found_meets e f0 n0 (kept.0 f0)) (call_over f0 n0 over)
      (λ e' n le lt. ev e' n ∙ ap (λ o. dispatch p.setting.program (runner p.setting.program e' n) o r vs s) f.runs ∙ sym (runner_ext p.setting.program (suc f0) e' n0 n le lt f.case.body r vs s (call_over f0 n0 over)))
      denied)
    where
      call_over : (f0 n0 : ℕ) → IsOver (run_of p (found e).body f0 n0 h r vs) → IsOver (runner p.setting.program (suc f0) n0 (found e).case.body r vs s)
      call_over f0 n0 over = let f = found e in
          subst (λ o. IsOver (run_body p.setting.program o (λ c t. exec_at p.setting.program f0 n0 c t) r vs s)) (sym f.has_body)
          (over_back p f.case.contract f.body h r vs s (run_of p f.body f0 n0 h r vs) (kept.0 f0 f.body f.has_body f0 n0 (omega arith)) over)

  module _ (own d : ℕ) (m : ℤ) (usable : Usable p own d m) (im : read i entry_measure ≡ IntValue m) (ends : q.case.contract.diverges ≡ false) (to : p.reaches own q.case.family ≡ true) where
    -- what is usable of the case that runs: whole where it is of a lower cluster, else as its measure is smaller
    callee_kept : (d' : ℕ) (e : entered) (cluster : Bool) → p.reaches q.case.family own ≡ cluster → AllTrue g d' i s [] (the_measure cluster) → KeptFrom p (found e).case h r vs
    callee_kept d' e false out none = let f = found e in
        let kept = usable.lower f.number f.case f.is_case (ap (λ c. c.diverges) (sym f.contract_same) ∙ ends) (ap (p.reaches own) f.family_same ∙ to) (ap (λ a. p.reaches a own) f.family_same ∙ out) in
        ((λ x. kept.0 x h r vs (exact_entry e)), kept.1 (ap (λ c. c.diverges) (sym f.contract_same) ∙ ends) h r vs (exact_entry e))
    callee_kept d' e true back two = let f = found e in
        usable.smaller f.number f.case f.is_case (ap (λ c. c.diverges) (sym f.contract_same) ∙ ends) (ap (p.reaches own) f.family_same ∙ to) (ap (λ a. p.reaches a own) f.family_same ∙ back) h r vs (exact_entry e)
        (ap (λ z. int_le (pos 0) z) (sym same_measure) ∙ two.0)
        (under_measure (sym same_measure) two.1.0)
      where
        same_measure : as_int (value i s [] (rename_term (entry_renaming q) q.form.measure)) ≡ measure_of p (found e).case h r vs
        same_measure = ap as_int (measure_means p q ok.site i s) ∙ ap (λ (c : Contract). as_int (measure_at g c h r vs)) (found e).contract_same

        under_measure : {x z : ℤ} → x ≡ z → int_lt z (as_int (read i entry_measure)) ≡ true → int_lt x m ≡ true
        under_measure {x = x} {z = z} u w = (λ e. int_lt (u e) (as_int (sym im e))) ∙ w

    pub use_diamond : (d' : ℕ) (cluster : Bool) → p.reaches q.case.family own ≡ cluster → EntryHolds d' cluster → NullHolds d' modalities.Possibility → NormalHolds d' modalities.Possibility → ThrownHolds d' modalities.Possibility → Truth g d' i s [] (Modal modalities.Possibility (fill k code) a)
    use_diamond d' cluster back en nul nh th = split g d' i s q.form q.body.parameters q.result q.target q.operands q.number q.target _ nul (null_goes d' modalities.Possibility)
        (λ open' runs.
        let all = conj_parts g d' i s (the_members ++ the_measure cluster) (open' (conjunction (the_members ++ the_measure cluster)) en) in
        let e = entry_means p q ok.site i s d' (front_true g d' i s the_members (the_measure cluster) all) in
        dia_goes d' e (callee_kept d' e cluster back (back_true g d' i s the_members (the_measure cluster) all)) nh th (λ e' n. call_is e' n ∙ runs _))
