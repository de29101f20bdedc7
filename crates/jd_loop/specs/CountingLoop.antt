-- One step of the loop rule at the loop of a method that counts, as it is written.
use Rattle.std.specs.Prelude.{ℕ, ℤ, pos, true, false, List, [], ◌∷◌, codes}
use Rattle.jd_base.specs.declared.sort.Sort.TheVariants.{Int as IntSort, Bool as BoolSort, Ref as RefSort, Heap as HeapSort, Field as FieldSort}
use Rattle.jd_syntax.specs.Names.{Name}
use Rattle.jd_syntax.specs.CodeNames.{heap_name}
use Rattle.jd_syntax.specs.Codes.{IntLiteral, BoolLiteral, Variable, Binary, Set, If, Stop, PlainCode, Done, Then}
use Rattle.jd_syntax.specs.declared.code.BinaryOp.TheVariants as binary_ops
use Rattle.jd_term.specs.declared.formula.Modality.TheVariants as modalities
use Rattle.jd_term.specs.Terms.{PlainTerm, Number, Boolean, ProgramVariable, Constant, Bound, Select, Anon, CreatedField, NoLocations}
use Rattle.jd_term.specs.Formulas.{PlainFormula, Not, And, Or, Implies, Equal, Less, LessOrEqual, Forall, Updated, Modal, InLocations, InInt, WellFormed}
use Rattle.jd_model.specs.declared.sequent.Side.TheVariants.{Right}
use Rattle.jd_model.specs.SpecialNames.{entry_heap, entry_measure, receiver}
use Rattle.jd_model.specs.Sequents.{PlainSequent, PlainPlace}
use Rattle.jd_model.specs.Truth.{Setting}
use Rattle.jd_model.specs.Validity.{AllValid}
use Rattle.jd_model.specs.KeptCases.{Usable}
use Rattle.jd_model.specs.BodyTables.{BodiesAssignNoHeap}
use Rattle.jd_task_classes.specs.OneClass.{one_class, the_class}
use Rattle.jd_sequent.specs.Obligations.{PlainTask}
use Rattle.jd_sequent.specs.TaskMeaning.{TaskStandsFor}
use Rattle.jd_loop.specs.CountingMethod.{int_named, n, i, t, int_result, n_constant, test, return_zero, method_with, counting_code, variant, counting_loop, counting_variables, counting_tables, counting_methods, counting_program, counting_case}
use Rattle.jd_loop.specs.LoopInstances.{IsLoopInstance}

-- ---- the new names of the number 1
-- the heap before the loop
abbrev pub heap_before : Name
heap_before = record { text = codes "@h~1"; sort = HeapSort }

-- the heap before a turn
abbrev pub heap_now : Name
heap_now = record { text = codes "#h~1"; sort = HeapSort }

-- the variant before a turn
abbrev pub variant_before : Name
variant_before = int_named (codes "@iv~1")

-- whether a whole turn was made
abbrev pub mark : Name
mark = record { text = codes "@bx~1"; sort = BoolSort }

-- i before the loop
abbrev pub i_before : Name
i_before = int_named (codes "@i1~1")

-- i before a turn
abbrev pub i_now : Name
i_now = int_named (codes "#i1~1")

-- t before the loop
abbrev pub t_before : Name
t_before = int_named (codes "@i2~1")

-- t before a turn
abbrev pub t_now : Name
t_now = int_named (codes "#i2~1")

-- ---- the task
-- behind the method the result is 0 and the local is n
abbrev pub goal : PlainFormula
goal = And (Equal (ProgramVariable int_result) (Number (pos 0))) (Equal (ProgramVariable i) (ProgramVariable n))

-- (wf @heap), (inInt n), (le 0 n)
abbrev pub assumed : List PlainFormula
assumed = WellFormed (ProgramVariable heap_name) ∷ (InInt (ProgramVariable n) ∷ (LessOrEqual (Number (pos 0)) (ProgramVariable n) ∷ []))

-- behind `i = 0` this formula
abbrev pub counting_with : PlainFormula → PlainSequent
counting_with a = record { left = assumed; right = Updated ((i, Number (pos 0)) ∷ []) a ∷ [] }

-- the loop in a diamond
abbrev pub counting_sequent : PlainSequent
counting_sequent = counting_with (Modal modalities.Possibility counting_code goal)

-- `R1.2`
abbrev pub counting_place : PlainPlace
counting_place = record { side = Right; index = 1; path = 2 ∷ [] }

-- the task
abbrev pub counting_task : PlainTask
counting_task = record {
  classes = one_class counting_methods;
  contracts = counting_tables;
  obligation = record {
    name = codes "Z::f#1";
    class = the_class;
    method = 0;
    case = 1;
    vars = counting_variables;
    loops = counting_loop ∷ [];
    consts = entry_heap ∷ entry_measure ∷ receiver ∷ n_constant ∷ [];
    diamond = true;
    sequent = counting_sequent;
  };
}

-- ---- the premises
-- (and (wf @heap) (and (inInt i) (and (le 0 i) (le i n))))
abbrev pub counting_invariant : PlainFormula
counting_invariant = And (WellFormed (ProgramVariable heap_name)) (And (InInt (ProgramVariable i)) (And (LessOrEqual (Number (pos 0)) (ProgramVariable i)) (LessOrEqual (ProgramVariable i) (ProgramVariable n))))

-- the object is created in the heap
abbrev pub created : PlainTerm → PlainTerm → PlainFormula
created h o = Equal (Select BoolSort h o CreatedField) (Boolean true)

-- (forall Ref (forall Field (or (in %1 %0 none) (or (not cr(@h~1,%1)) (and (eq (selI @heap %1 %0) (selI @h~1 %1 %0)) ..)))))
abbrev pub counting_frame : PlainFormula
counting_frame = Forall RefSort (Forall FieldSort
    (Or (InLocations (Bound 1 RefSort) (Bound 0 FieldSort) NoLocations)
    (Or (Not (created (ProgramVariable heap_before) (Bound 1 RefSort)))
    (And (Equal (Select IntSort (ProgramVariable heap_name) (Bound 1 RefSort) (Bound 0 FieldSort)) (Select IntSort (ProgramVariable heap_before) (Bound 1 RefSort) (Bound 0 FieldSort)))
    (And (Equal (Select BoolSort (ProgramVariable heap_name) (Bound 1 RefSort) (Bound 0 FieldSort)) (Select BoolSort (ProgramVariable heap_before) (Bound 1 RefSort) (Bound 0 FieldSort)))
    (Equal (Select RefSort (ProgramVariable heap_name) (Bound 1 RefSort) (Bound 0 FieldSort)) (Select RefSort (ProgramVariable heap_before) (Bound 1 RefSort) (Bound 0 FieldSort))))))))

-- (and (le 0 @iv~1) (lt (sub n i) @iv~1))
abbrev pub counting_falls : PlainFormula
counting_falls = And (LessOrEqual (Number (pos 0)) (ProgramVariable variant_before)) (Less variant (ProgramVariable variant_before))

-- `(if (lt i n) ((set t i) (set i (add t 1)) (set @bx~1 true) (stop)) ())`
abbrev pub one_turn : PlainCode
one_turn = Then (If test (Then (Set t (Variable i)) (Then (Set i (Binary binary_ops.Add (Variable t) (IntLiteral (pos 1)))) (Then (Set mark (BoolLiteral true)) (Then Stop Done)))) Done) return_zero

-- what is to be shown of one turn
abbrev pub counting_turn : PlainFormula
counting_turn =
    Updated ((heap_before, ProgramVariable heap_name) ∷ ((i_before, ProgramVariable i) ∷ ((t_before, ProgramVariable t) ∷ [])))
    (Updated ((heap_name, Anon (ProgramVariable heap_name) NoLocations (Constant heap_now)) ∷ ((i, Constant i_now) ∷ ((t, Constant t_now) ∷ [])))
    (Implies counting_invariant
    (Updated ((variant_before, variant) ∷ ((mark, Boolean false) ∷ []))
    (Modal modalities.Possibility (method_with one_turn)
    (And (Implies (Equal (ProgramVariable mark) (Boolean false)) goal)
    (Implies (Equal (ProgramVariable mark) (Boolean true)) (And counting_invariant (And counting_frame counting_falls))))))))

-- both premises
abbrev pub counting_premises : List PlainSequent
counting_premises = counting_with counting_invariant ∷ (counting_with counting_turn ∷ [])

-- the step is an instance, and its premises are valid for each program, at each depth and entry measure; and the task stands
-- for a program of which the contracts are usable
pub record CountingStep : Type 0 where
  pub instance : IsLoopInstance counting_task counting_sequent counting_place 1 counting_premises
  pub valid : (g : Setting) (d : ℕ) (m : ℤ) → AllValid g d m counting_premises
  pub rows : BodiesAssignNoHeap counting_task.contracts
  pub stands : TaskStandsFor counting_task counting_program counting_case
  pub usable : Usable counting_program counting_case.family 0 (pos 0)
