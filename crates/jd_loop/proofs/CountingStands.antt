-- The counting task stands for its program, and the contracts there are usable.
use Rattle.std.proofs.Common.{◌≡◌, ◌==◌, if◌then◌else◌, nat_eq, ℕ, zero, suc, pos, int_le, Bool, true, false, Option, Some, None, [], ◌∷◌, refl, sym, ap, subst, ◌∙◌, true≢false, arith}
use Rattle.std.proofs.lemmas.Int.{ints}
use Rattle.std.specs.Prelude.{slice_get}
use Rattle.std.specs.List.{list_any}
use Rattle.std.specs.Option.{unwrap_or}
use Rattle.std.proofs.lemmas.Option.{none-some}
use Rattle.std.proofs.lemmas.List.Elements.{All-from_recursion}
use Rattle.jd_base.specs.declared.sort.Sort.TheVariants.{Int as IntSort}
use Rattle.jd_syntax.specs.Names.{Declared}
use Rattle.jd_syntax.specs.CodeNames.{same_name, is_special}
use Rattle.jd_heap.specs.References.{Null}
use Rattle.jd_heap.specs.Heaps.{Heap}
use Rattle.jd_heap.specs.Values.{Value, IntValue, BoolValue, RefValue, HeapValue, as_int, as_bool, as_heap, IsOf}
use Rattle.jd_model.specs.SpecialNames.{entry_heap, receiver, thrown_variable}
use Rattle.jd_model.specs.States.{State, read, write, empty_state, heap_of, with_heap}
use Rattle.jd_model.specs.WellFormedHeaps.{in_int}
use Rattle.jd_model.specs.Validity.{AllTrue}
use Rattle.jd_model.specs.Bodies.{NotHeap}
use Rattle.jd_model.specs.BodyTables.{RowAssignsNoHeap, BodiesAssignNoHeap}
use Rattle.jd_model.specs.EntryExit.{is_of, EntryAs}
use Rattle.jd_model.specs.KeptCases.{Usable}
use Rattle.jd_model.specs.Tables.{members, CaseStandsFor, CaseAt, BodyAt, TablesStandFor}
use Rattle.jd_model.proofs.States.{read_of}
use Rattle.jd_model.proofs.Writes.{read_own}
use Rattle.jd_model.specs.Cases.{Case, Static}
use Rattle.jd_model.specs.Programs.{Body, is_subclass}
use Rattle.jd_jinfos.specs.Infos.{PlainMethodInfo}
use Rattle.jd_task_classes.proofs.OneClass.{one_class_stands}
use Rattle.jd_task_classes.specs.Classes.{methods_of, of_routine}
use Rattle.jd_task_classes.specs.Methods.{MethodOfCase, MethodsStandFor}
use Rattle.jd_task_classes.specs.OneClass.{HaveResults, the_class}
use Rattle.jd_task_classes.specs.ResolvedCalls.{CallsAreResolved, CaseFor, HasReceiver, ReceiverVariable}
use Rattle.jd_task_classes.specs.Standing.{result_sort}
use Rattle.jd_sequent.specs.TaskMeaning.{LoopIsKnown, TaskStandsFor}
use Rattle.jd_loop.specs.CountingMethod.{n, i, int_result, n_constant, int_type, only_case, counting_body, counting_contract, counting_case, counting_methods, counting_program, counting_loop, counting_variables, counting_row, body_row, counting_tables}
use Rattle.jd_loop.specs.CountingLoop.{counting_task, CountingStep}
use Rattle.jd_loop.proofs.CountingLoop.{counting_instance}
use Rattle.jd_loop.proofs.CountingValid.{counting_valid}

int_is : (h : Heap) (v : Value) → IsOf IntSort v → is_of counting_program.setting h int_type v ≡ in_int (as_int v)
int_is h (IntValue z) o = refl
int_is h v o = absurd o

-- ---- the case's row
entry_gives : (exactly : Bool) (d : ℕ) (j s : State) → AllTrue counting_program.setting d j s [] (members exactly counting_row.entry) → EntryAs counting_program.setting exactly counting_contract the_class (as_heap (read j entry_heap)) Null (read j n_constant ∷ [])
entry_gives exactly d j s = by exactly
  where
    made : (b : Bool) → AllTrue counting_program.setting d j s [] counting_row.entry → EntryAs counting_program.setting b counting_contract the_class (as_heap (read j entry_heap)) Null (read j n_constant ∷ [])
    made b r = record {
      well_formed = r.0;
      receiver = refl;
      arguments = (int_is (as_heap (read j entry_heap)) (read j n_constant) (read_of j n_constant) ∙ r.1.0, tt);
      required = (ap (λ v. int_le (pos 0) (as_int v)) (read_own (write (write empty_state entry_heap (HeapValue (as_heap (read j entry_heap)))) receiver (RefValue Null)) n_constant (read j n_constant) (read_of j n_constant)) ∙ r.1.1.0, tt);
      invariant = tt;
      fields = tt;
    }

    by : (b : Bool) → AllTrue counting_program.setting d j s [] (members b counting_row.entry) → EntryAs counting_program.setting b counting_contract the_class (as_heap (read j entry_heap)) Null (read j n_constant ∷ [])
    by true r = made true r
    by false r = made false r

entry_from : (exactly : Bool) (d : ℕ) (j s : State) → EntryAs counting_program.setting exactly counting_contract the_class (as_heap (read j entry_heap)) Null (read j n_constant ∷ []) → AllTrue counting_program.setting d j s [] (members exactly counting_row.entry)
entry_from exactly d j s = by exactly
  where
    made : (b : Bool) → EntryAs counting_program.setting b counting_contract the_class (as_heap (read j entry_heap)) Null (read j n_constant ∷ []) → AllTrue counting_program.setting d j s [] counting_row.entry
    made b e = (
      e.well_formed,
      (
        sym (int_is (as_heap (read j entry_heap)) (read j n_constant) (read_of j n_constant)) ∙ e.arguments.0,
        (ap (λ v. int_le (pos 0) (as_int v)) (sym (read_own (write (write empty_state entry_heap (HeapValue (as_heap (read j entry_heap)))) receiver (RefValue Null)) n_constant (read j n_constant) (read_of j n_constant))) ∙ e.required.0, tt),
      ),
    )

    by : (b : Bool) → EntryAs counting_program.setting b counting_contract the_class (as_heap (read j entry_heap)) Null (read j n_constant ∷ []) → AllTrue counting_program.setting d j s [] (members b counting_row.entry)
    by true e = made true e
    by false e = made false e

-- the result's variable has its value in the state of the moment
result_read : (s : State) (v : Value) → IsOf IntSort v → read (write s int_result v) int_result ≡ v
result_read s v o = read_own s int_result v o

stands : CaseStandsFor counting_program counting_case counting_body counting_row
stands = record {
  method = refl;
  class = refl;
  number = refl;
  diverges = refl;
  sorts = (refl, tt);
  apart = ((refl, (refl, (refl, tt))), ((refl, (refl, tt)), ((refl, tt), (tt, tt))));
  entry_first_order = (tt, (tt, (tt, tt)));
  exit_first_order = (tt, (tt, tt));
  exceptional_first_order = (tt, (tt, tt));
  entry = λ exactly d j s. (entry_gives exactly d j s, entry_from exactly d j s);
  exit = λ d j s. (
    λ r. record {
      well_formed = r.0;
      typed = int_is (heap_of s) (read s int_result) (read_of s int_result) ∙ r.1.0;
      ensured = (result_read (write (with_heap empty_state (heap_of s)) thrown_variable (RefValue Null)) (read s int_result) (read_of s int_result) ∙ r.1.1.0, tt);
      invariant = tt;
      allowed = tt;
    },
    λ e. (
      e.well_formed,
      (
        sym (int_is (heap_of s) (read s int_result) (read_of s int_result)) ∙ e.typed,
        (sym (result_read (write (with_heap empty_state (heap_of s)) thrown_variable (RefValue Null)) (read s int_result) (read_of s int_result)) ∙ e.ensured.0, tt),
      ),
    ),
  );
  exceptional = λ d j s. (
    λ r. record { well_formed = r.0; thrown = r.1.0; created = ap as_bool r.1.1.0; signalled = tt; only = tt; allowed = tt; invariant = tt },
    λ e. (e.well_formed, (e.thrown, (ap BoolValue e.created, tt))),
  );
  frame = λ j s q. refl;
  measure = λ j s. refl;
}

case_at : (κ : ℕ) → CaseAt counting_program (slice_get counting_tables.cases κ) (counting_program.case κ)
case_at zero = (counting_body, refl, stands)
case_at (suc κ) = tt

body_at : (b : Bool) → BodyAt (if b then Some body_row else None) (if b then Some counting_body else None)
body_at true = (refl, refl, refl)
body_at false = tt

tables : TablesStandFor counting_tables counting_program
tables = record { cases = case_at; invariants = λ c. refl; bodies = λ m. body_at (0 == m) }

-- ---- the task
known : LoopIsKnown counting_task.obligation counting_loop
known = record {
  scope = All-from_recursion (λ x. list_any (λ (v : Declared). same_name x v.name) counting_task.obligation.vars ≡ true) (n ∷ i ∷ []) (refl, (refl, tt));
  assignable = tt;
  invariant = ((tt, refl), (refl, refl));
  variant = (refl, refl);
}

-- there is one case
of_one : (P : Case → Type 0) → P counting_case → (κ : ℕ) (c : Case) → only_case κ ≡ Some c → P c
of_one P h zero c e = subst P (ap (λ o. unwrap_or o counting_case) e) h
of_one P h (suc κ) c e = absurd (none-some c e)

methods : MethodsStandFor (methods_of counting_task.classes) counting_program
methods = record {
  cases = of_one (MethodOfCase (methods_of counting_task.classes)) (record { kind = tt; result = refl; family = refl });
  reaches = λ κ ι c d e f. of_one (λ (a : Case). nat_eq a.family d.family ≡ true) (of_one (λ (b : Case). nat_eq 0 b.family ≡ true) refl ι d f) κ c e;
  null_pointer = refl;
}

-- it has no receiver
resolved : CallsAreResolved counting_program
resolved = record {
  own_body = of_one (λ (c : Case). c.body ≡ c.method) refl;
  receiver_variable = of_one (λ (c : Case). (b : Body) → counting_program.setting.program.body c.body ≡ Some b → ReceiverVariable c.contract.role b.receiver) (λ b e. subst (λ (b : Body). ReceiverVariable Static b.receiver) (ap (λ o. unwrap_or o counting_body) e) tt);
  not_object = of_one (λ (c : Case). HasReceiver c.contract.role → nat_eq c.class 0 ≡ false) (λ o. absurd o);
  dispatched = of_one (λ (c : Case). HasReceiver c.contract.role → (class : ℕ) → is_subclass counting_program.setting.program class c.class ≡ true → CaseFor counting_program c class) (λ o class below. absurd o);
}

results : HaveResults counting_methods counting_program.setting.program.body
results zero i b e f = ap (λ (o : Option Body). (unwrap_or o counting_body).result) (sym f) ∙ ap (λ (o : Option PlainMethodInfo). of_routine IntSort (λ (j : PlainMethodInfo). result_sort j.result) o) e
results (suc m) i b e f = absurd (none-some i e)

task : TaskStandsFor counting_task counting_program counting_case
task = record {
  classes = one_class_stands counting_methods counting_program.setting.program.body results counting_program refl methods resolved;
  tables = tables;
  case = record { index = 0; found = refl; class = refl; method = refl; number = refl };
  measure = refl;
  variables = All-from_recursion (λ (v : Declared). is_special v.name ≡ false) counting_variables (refl, (refl, (refl, tt)));
  loops = All-from_recursion (LoopIsKnown counting_task.obligation) (counting_loop ∷ []) (known, tt);
}

rows : BodiesAssignNoHeap counting_tables
rows = All-from_recursion RowAssignsNoHeap (body_row ∷ []) (
  record {
    variables = All-from_recursion (λ (v : Declared). NotHeap v.name) counting_variables (refl, (refl, (refl, tt)));
    code = ((refl, tt), (((tt, tt), ((refl, tt), ((refl, (tt, tt)), tt))), (tt, tt)));
  },
  tt,
)

usable : Usable counting_program counting_case.family 0 (pos 0)
usable = record {
  below = λ κ c f e lt. absurd (omega arith);
  lower = λ κ c f div up down. absurd (true≢false down);
  smaller = λ κ c f div up down h r vs entry low high. absurd (omega (arith, ints));
}

pub counting_step : CountingStep
counting_step = record { instance = counting_instance; valid = counting_valid; rows = rows; stands = task; usable = usable }
