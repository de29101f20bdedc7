-- The written step is an instance, and its task's tables stand for a program.
use Rattle.std.specs.Fmt.{digits}
use Rattle.std.proofs.lemmas.List.Elements.{All-from_recursion}
use Rattle.std.proofs.Common.{if◌then◌else◌, Bool, List, None, Option, Some, ap, false, int_le, nat_eq, pos, refl, subst, suc, sym, true, true≢false, zero, ◌≡◌, ◌↔◌, ◌∷◌, ◌∙◌, ◌==◌, ℕ, []}
use Rattle.std.specs.Prelude.{slice_get}
use Rattle.std.specs.Option.{unwrap_or}
use Rattle.jd_model.specs.BodyTables.{RowAssignsNoHeap}
use Rattle.jd_model.specs.Bodies.{NotHeap}
use Rattle.jd_syntax.specs.Names.{Declared}
use Rattle.jd_syntax.specs.CodeNames.{is_special}
use Rattle.jd_sequent.specs.TaskMeaning.{LoopIsKnown}
use Rattle.jd_base.specs.declared.sort.Sort.TheVariants.{Int as IntSort}
use Rattle.jd_call.proofs.Steps.{use_contract_sound}
use Rattle.jd_call.specs.Calls.{VirtualTarget}
use Rattle.jd_jinfos.specs.Infos.{PlainMethodInfo}
use Rattle.jd_task_classes.proofs.OneClass.{alone, one_class_stands}
use Rattle.jd_task_classes.specs.Classes.{methods_of, of_routine}
use Rattle.jd_task_classes.specs.Methods.{MethodOfCase, MethodsStandFor}
use Rattle.jd_task_classes.specs.OneClass.{HaveResults, the_class}
use Rattle.jd_task_classes.specs.ResolvedCalls.{CallsAreResolved, CaseFor, HasReceiver, ReceiverVariable, body_on}
use Rattle.jd_task_classes.specs.Standing.{result_sort}
use Rattle.jd_call.specs.RecursiveCall.{RecursiveCallIsSound, an_int, at_least_zero, call, call_place, call_sequent, call_task, goal, int_result, method_with, n_constant, only_first, return_x, this, written_premises, x, y, zero_body, zero_body_row, zero_case, zero_contract, zero_methods, zero_program, zero_row, zero_variables}
use Rattle.jd_call.specs.UseContract.{UseContractInstance}
use Rattle.jd_heap.specs.Heaps.{Heap}
use Rattle.jd_heap.specs.References.{Array, Null, Object, Reference}
use Rattle.jd_heap.specs.Values.{BoolValue, HeapValue, IntValue, IsOf, RefValue, Value, as_bool, as_heap, as_int, as_ref}
use Rattle.jd_model.proofs.States.{read_of}
use Rattle.jd_model.proofs.Writes.{read_copied, read_here}
use Rattle.jd_model.specs.BodyTables.{BodiesAssignNoHeap}
use Rattle.jd_model.specs.Cases.{Case, Ordinary, SpecifiedProgram}
use Rattle.jd_model.specs.Contexts.{Here, InCatch, InFrame}
use Rattle.jd_model.specs.EntryExit.{EntryAs, ExceptionalEnd, Holds, NormalEnd, entry_moment, is_of, normal_moment, thrown_moment}
use Rattle.jd_model.specs.Programs.{Body, is_subclass}
use Rattle.jd_model.specs.SpecialNames.{entry_heap, receiver, thrown_variable}
use Rattle.jd_model.specs.States.{State, empty_state, heap_of, read, with_heap, write}
use Rattle.jd_model.specs.Tables.{BodyAt, CaseAt, CaseStandsFor, members}
use Rattle.jd_model.specs.Truth.{InvTruth, InvariantsOf, Setting}
use Rattle.jd_model.specs.Validity.{AllTrue}
use Rattle.jd_model.specs.WellFormedHeaps.{in_int}
use Rattle.jd_sequent.specs.TaskMeaning.{TaskStandsFor}
use Rattle.jd_syntax.specs.CodeNames.{heap_name}
use Rattle.jd_syntax.specs.Codes.{Done, ExprThen, NoExprs, Then, Variable}
use Rattle.jd_term.specs.Formulas.{WellFormed}
use Rattle.jd_term.specs.Terms.{Constant, ProgramVariable}
use Rattle.jd_term.specs.declared.formula.Modality.TheVariants as modalities

-- ---- the instance

written : UseContractInstance call_task call_sequent call_place 1 1 written_premises
unfolding digits
written = record {
  call = record {
    modality = modalities.Possibility;
    code = method_with (Then call return_x);
    after = goal;
    context = InCatch (InFrame (Some int_result) (Here return_x) Done) thrown_variable Done Done;
    into = Some x;
    target = VirtualTarget 10 0 (Variable this);
    operands = ExprThen (Variable y) NoExprs;
  };
  at_place = record { right = refl; found = refl };
  at_focus = refl;
  body = zero_body_row;
  body_found = refl;
  fits = record { kind = refl; receiver = refl; operands = (refl, tt); result = refl };
  case = zero_row;
  case_found = refl;
  permitted = (refl, refl);
  variables_new = (record { absent = refl; not_special = refl }, (record { absent = refl; not_special = refl }, tt));
  in_no_body = (refl, (refl, tt));
  constants_new = (record { absent = refl; not_known = refl }, (record { absent = refl; not_known = refl }, (record { absent = refl; not_known = refl }, tt)));
  premises_are = refl;
}

bodies_leave_heap : BodiesAssignNoHeap call_task.contracts
bodies_leave_heap = All-from_recursion RowAssignsNoHeap (zero_body_row ∷ []) (
  record {
    variables = All-from_recursion (λ (v : Declared). NotHeap v.name) zero_variables (refl, (refl, (refl, (refl, tt))));
    code = (((tt, tt), (tt, tt), tt), ((refl, (tt, tt)), ((refl, (tt, (tt, tt))), (tt, tt))));
  },
  tt,
)

-- ---- the program

none_some : {A : Type 0} {a : A} → None ≡ Some a → ⊥
none_some {A = A} e = true≢false (ap (λ (o : Option A). elim o [ None ↦ true | Some z ↦ false ]) e)

-- there is one case
of_one : {A : Type 0} (P : A → Type 0) (a : A) → P a → (κ : ℕ) (c : A) → only_first a κ ≡ Some c → P c
of_one P a h zero c e = subst P (ap (λ o. unwrap_or o a) e) h
of_one P a h (suc κ) c e = absurd (none_some e)

int_is : (g : Setting) (h : Heap) (v : Value) → IsOf IntSort v → is_of g h an_int v ≡ in_int (as_int v)
int_is g h (IntValue z) o = refl
int_is g h v o = absurd o

abbrev p : SpecifiedProgram
p = zero_program

abbrev g : Setting
g = p.setting

-- no class has an invariant
no_invariants : (d : ℕ) (h : Heap) (o : Reference) (cs : List ℕ) → InvariantsOf g d h o cs
no_invariants d h o [] = tt
no_invariants d h o (c ∷ cs) = (tt, no_invariants d h o cs)

invariant : (d : ℕ) (h : Heap) (o : Reference) → InvTruth g d h o
invariant d h Null = tt
invariant d h (Object c k) = no_invariants d h (Object c k) (g.program.superclasses c)
invariant d h (Array l k) = tt

-- the clauses at a moment
abbrev pre_of : Heap → Reference → State
pre_of h r = write (write empty_state entry_heap (HeapValue h)) receiver (RefValue r)

requires_means : (h : Heap) (r : Reference) (v : Value) → Holds g zero_contract (entry_moment g h r (v ∷ [])) (at_least_zero (Constant n_constant)) ≡ (int_le (pos 0) (as_int v) ≡ true)
requires_means h r v = λ j. int_le (pos 0) (as_int (read_here (pre_of h r) n_constant v j)) ≡ true

ensures_means : (h k : Heap) (r : Reference) (v w : Value) → Holds g zero_contract (normal_moment g h r (v ∷ []) k w) (at_least_zero (ProgramVariable int_result)) ≡ (int_le (pos 0) (as_int w) ≡ true)
ensures_means h k r v w = λ j. int_le (pos 0) (as_int (read_here (write (with_heap empty_state k) thrown_variable (RefValue Null)) int_result w j)) ≡ true

module _ (d : ℕ) (i s : State) where
  abbrev h : Heap
  h = as_heap (read i entry_heap)

  abbrev r : Reference
  r = as_ref (read i receiver)

  abbrev v : Value
  v = read i n_constant

  entry_true : AllTrue g d i s [] (members true zero_row.entry) ↔ EntryAs g true zero_contract the_class h r (v ∷ [])
  entry_true = (
    (λ t. record { well_formed = t.0; receiver = (t.1.0, ap as_bool t.1.1.0); arguments = (int_is g h v (read_of i n_constant) ∙ t.1.1.1.0, tt); required = (subst (λ X. X) (sym (requires_means h r v)) t.1.1.1.1.0, tt); invariant = invariant 0 h r; fields = tt }),
    (λ e. (e.well_formed, (e.receiver.0, (ap BoolValue e.receiver.1, (sym (int_is g h v (read_of i n_constant)) ∙ e.arguments.0, (subst (λ X. X) (requires_means h r v) e.required.0, (invariant d h r, tt))))))),
  )

  entry_loose : AllTrue g d i s [] (members false zero_row.entry) ↔ EntryAs g false zero_contract the_class h r (v ∷ [])
  entry_loose = (
    (λ t. record { well_formed = t.0; receiver = (t.1.0, ap as_bool t.1.1.0); arguments = (int_is g h v (read_of i n_constant) ∙ t.1.1.1.0, tt); required = (subst (λ X. X) (sym (requires_means h r v)) t.1.1.1.1.0, tt); invariant = invariant 0 h r; fields = tt }),
    (λ e. (e.well_formed, (e.receiver.0, (ap BoolValue e.receiver.1, (sym (int_is g h v (read_of i n_constant)) ∙ e.arguments.0, (subst (λ X. X) (requires_means h r v) e.required.0, (invariant d h r, tt))))))),
  )

  exit_true : AllTrue g d i s [] (WellFormed (ProgramVariable heap_name) ∷ zero_row.exit) ↔ NormalEnd g zero_contract (normal_moment g h r (v ∷ []) (heap_of s) (read s int_result))
  exit_true = (
    (λ t. record { well_formed = t.0; typed = int_is g (heap_of s) (read s int_result) (read_of s int_result) ∙ t.1.0; ensured = (subst (λ X. X) (sym (ensures_means h (heap_of s) r v (read s int_result))) t.1.1.0, tt); invariant = invariant 0 (heap_of s) r; allowed = tt }),
    (λ e. (e.well_formed, (sym (int_is g (heap_of s) (read s int_result) (read_of s int_result)) ∙ e.typed, (subst (λ X. X) (ensures_means h (heap_of s) r v (read s int_result)) e.ensured.0, (invariant d (heap_of s) r, tt))))),
  )

  exceptional_true : AllTrue g d i s [] (WellFormed (ProgramVariable heap_name) ∷ zero_row.exceptional) ↔ ExceptionalEnd g zero_contract (thrown_moment g h r (v ∷ []) (heap_of s) (as_ref (read s thrown_variable)))
  exceptional_true = (
    (λ t. record { well_formed = t.0; thrown = t.1.0; created = ap as_bool t.1.1.0; signalled = tt; only = tt; allowed = tt; invariant = invariant 0 (heap_of s) r }),
    (λ e. (e.well_formed, (e.thrown, (ap BoolValue e.created, (invariant d (heap_of s) r, tt))))),
  )

entry_means : (exactly : Bool) (d : ℕ) (i s : State) → AllTrue g d i s [] (members exactly zero_row.entry) ↔ EntryAs g exactly zero_contract the_class (as_heap (read i entry_heap)) (as_ref (read i receiver)) (read i n_constant ∷ [])
entry_means true d i s = entry_true d i s
entry_means false d i s = entry_loose d i s

stands : CaseStandsFor p zero_case zero_body zero_row
stands = record {
  method = refl;
  class = refl;
  number = refl;
  diverges = refl;
  sorts = (refl, tt);
  apart = ((refl, (refl, (refl, tt))), ((refl, (refl, tt)), ((refl, tt), (tt, tt))));
  entry_first_order = (tt, (tt, (tt, (tt, (tt, (tt, tt))))));
  exit_first_order = (tt, (tt, (tt, tt)));
  exceptional_first_order = (tt, (tt, (tt, tt)));
  entry = entry_means;
  exit = exit_true;
  exceptional = exceptional_true;
  frame = λ i s q. refl;
  measure = λ i s. sym (read_copied (pre_of (as_heap (read i entry_heap)) (as_ref (read i receiver))) i n_constant n_constant refl);
}

case_at : (κ : ℕ) → CaseAt p (slice_get (zero_row ∷ []) κ) (only_first zero_case κ)
case_at zero = (zero_body, refl, stands)
case_at (suc κ) = tt

body_at : (t : Bool) → BodyAt (if t then Some zero_body_row else None) (if t then Some zero_body else None)
body_at true = (refl, refl, refl)
body_at false = tt

tables : MethodsStandFor (methods_of call_task.classes) p
tables = record {
  cases = of_one (MethodOfCase (methods_of call_task.classes)) zero_case (record { kind = tt; result = refl; family = refl });
  reaches = λ κ ι c d e f. refl;
  null_pointer = refl;
}

resolved : CallsAreResolved p
resolved = record {
  own_body = of_one (λ (c : Case). c.body ≡ c.method) zero_case refl;
  receiver_variable = of_one (λ (c : Case). (b : Body) → g.program.body c.body ≡ Some b → ReceiverVariable c.contract.role b.receiver) zero_case (λ b e. subst (λ (b : Body). ReceiverVariable Ordinary b.receiver) (ap (λ o. unwrap_or o zero_body) e) tt);
  not_object = of_one (λ (c : Case). HasReceiver c.contract.role → nat_eq c.class 0 ≡ false) zero_case (λ o. refl);
  dispatched = of_one (λ (c : Case). HasReceiver c.contract.role → (class : ℕ) → is_subclass g.program class c.class ≡ true → CaseFor p c class) zero_case (λ o class below. record {
    index = 0;
    case = zero_case;
    found = refl;
    contract_same = refl;
    family_same = refl;
    class_is = sym (alone zero_methods g.program.body class below);
    runs = ap (λ k. body_on g.program Ordinary 0 k) (alone zero_methods g.program.body class below);
  });
}

-- one method, of one body
results : HaveResults zero_methods g.program.body
results zero i b e f = ap (λ (o : Option Body). (unwrap_or o zero_body).result) (sym f) ∙ ap (λ (o : Option PlainMethodInfo). of_routine IntSort (λ (j : PlainMethodInfo). result_sort j.result) o) e
results (suc m) i b e f = absurd (none_some e)

task : TaskStandsFor call_task p zero_case
task = record {
  classes = one_class_stands zero_methods g.program.body results p refl tables resolved;
  tables = record { cases = case_at; invariants = λ c. refl; bodies = λ m. body_at (0 == m) };
  case = record { index = 0; found = refl; class = refl; method = refl; number = refl };
  measure = refl;
  variables = All-from_recursion (λ (v : Declared). is_special v.name ≡ false) zero_variables (refl, (refl, (refl, (refl, tt))));
  loops = All-from_recursion (LoopIsKnown call_task.obligation) [] tt;
}

pub recursive_call_is_sound : RecursiveCallIsSound
recursive_call_is_sound = record {
  written = written;
  bodies = bodies_leave_heap;
  task = task;
  sound = use_contract_sound call_task bodies_leave_heap call_sequent call_place 1 1 written_premises written;
}
