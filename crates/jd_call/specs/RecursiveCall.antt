-- A method that calls itself, and the use of its contract at that call as it is written.
use Rattle.std.specs.Prelude.{List, None, Option, Some, codes, false, nat_eq, pos, suc, true, zero, ◌∷◌, ◌==◌, ℕ, [], if◌then◌else◌}
use Rattle.jd_base.specs.declared.sort.Sort.TheVariants.{Bool as BoolSort, Heap as HeapSort, Int as IntSort, Ref as RefSort}
use Rattle.jd_jinfos.specs.Infos.{PlainMethodInfo}
use Rattle.jd_task_classes.specs.OneClass.{one_class, program_of, the_class}
use Rattle.jd_call.specs.UseContract.{UseContractInstance}
use Rattle.jd_model.specs.BodyTables.{BodiesAssignNoHeap}
use Rattle.jd_model.specs.Cases.{AnyEnd, Case, Contract, DeclaredType, Ordinary, SpecifiedProgram}
use Rattle.jd_model.specs.Contexts.{one}
use Rattle.jd_model.specs.ContractForms.{PlainBody, PlainCase}
use Rattle.jd_model.specs.Programs as model
use Rattle.jd_model.specs.Programs.{Body}
use Rattle.jd_model.specs.Sequents.{PlainPlace, PlainSequent}
use Rattle.jd_model.specs.SpecialNames.{entry_heap, entry_measure, receiver, result_variable, thrown_variable}
use Rattle.jd_model.specs.declared.sequent.Side.TheVariants.{Right}
use Rattle.jd_sequent.specs.Obligations.{PlainTask}
use Rattle.jd_sequent.specs.TaskMeaning.{StepIsSound, TaskStandsFor}
use Rattle.jd_syntax.specs.CodeNames.{heap_name}
use Rattle.jd_syntax.specs.Codes.{Binary, Catch, Done, ExprThen, Frame, If, IntLiteral, NoExprs, OfClass, PlainCode, Raise, Return, Set, Stmt, Then, ThrowUnchecked, Variable, VirtualCall}
use Rattle.jd_syntax.specs.JavaTypes.{IntType}
use Rattle.jd_syntax.specs.Names.{Declared, Name}
use Rattle.jd_term.specs.Formulas.{And, Equal, Implies, InInt, Invariant, IsExactInstance, IsInstance, Less, LessOrEqual, Modal, Not, PlainFormula, Updated, WellFormed}
use Rattle.jd_term.specs.Terms.{Anon, Arithmetic, Boolean, Constant, CreatedField, NoLocations, NullTerm, Number, PlainTerm, ProgramVariable, Select, Wrap}
use Rattle.jd_term.specs.declared.term.ArithmeticOp.TheVariants as arithmetic_ops
use Rattle.jd_syntax.specs.declared.code.BinaryOp.TheVariants as binary_ops
use Rattle.jd_term.specs.declared.formula.Modality.TheVariants as modalities

-- ---- the method
abbrev pub int_named : List ℕ → Name
int_named l = record { text = l; sort = IntSort }

abbrev pub this : Name
this = record { text = codes "this"; sort = RefSort }

abbrev pub n : Name
n = int_named (codes "n")

abbrev pub x : Name
x = int_named (codes "x")

abbrev pub y : Name
y = int_named (codes "y")

abbrev pub n_constant : Name
n_constant = int_named (codes "#i_n")

abbrev pub int_result : Name
int_result = result_variable IntSort

-- `requires 0 <= n; ensures 0 <= \result; assignable \nothing; measured_by n;`
abbrev pub at_least_zero : PlainTerm → PlainFormula
at_least_zero t = LessOrEqual (Number (pos 0)) t

-- `x = zero(y); return x;`
abbrev pub call : Stmt
call = Set x (VirtualCall 10 0 (Variable this) (ExprThen (Variable y) NoExprs))

abbrev pub return_x : PlainCode
return_x = one (Return (Variable x))

-- `int zero(int n) { if (n <= 0) return 0; int y = n - 1; int x = zero(y); return x; }`
abbrev pub zero_code : PlainCode
zero_code = Then (If (Binary binary_ops.LessOrEqual (Variable n) (IntLiteral (pos 0))) (one (Return (IntLiteral (pos 0)))) Done) (Then (Set y (Binary binary_ops.Subtract (Variable n) (IntLiteral (pos 1)))) (Then call return_x))

-- ---- the task, with one class behind those that are always there
abbrev pub zero_methods : List PlainMethodInfo
zero_methods = record { name = codes "zero"; class = the_class; member = 0; static = false; constructor = false; params = IntType ∷ []; result = Some IntType } ∷ []

abbrev pub created : PlainTerm → PlainTerm → PlainFormula
created h o = Equal (Select BoolSort h o CreatedField) (Boolean true)

abbrev pub throwable : ℕ
throwable = 1

abbrev pub null_pointer : ℕ
null_pointer = 4

abbrev pub zero_row : PlainCase
zero_row = record {
  method = 0;
  class = the_class;
  number = 1;
  entry =
      WellFormed (Constant entry_heap)
      ∷ (IsExactInstance (OfClass the_class) (Constant receiver)
      ∷ (created (Constant entry_heap) (Constant receiver)
      ∷ (InInt (Constant n_constant)
      ∷ (at_least_zero (Constant n_constant)
      ∷ (Invariant (Constant entry_heap) (Constant receiver) ∷ [])))));
  exit = InInt (ProgramVariable int_result) ∷ (at_least_zero (ProgramVariable int_result) ∷ (Invariant (ProgramVariable heap_name) (Constant receiver) ∷ []));
  exceptional = IsInstance (OfClass throwable) (ProgramVariable thrown_variable) ∷ (created (ProgramVariable heap_name) (ProgramVariable thrown_variable) ∷ (Invariant (ProgramVariable heap_name) (Constant receiver) ∷ []));
  frame = NoLocations;
  measure = Constant n_constant;
  diverges = false;
}

abbrev pub declared : Name → Option ℕ → Declared
declared v k = record { name = v; class = k }

abbrev pub zero_variables : List Declared
zero_variables = declared this (Some the_class) ∷ (declared n None ∷ (declared y None ∷ (declared x None ∷ [])))

abbrev pub zero_body_row : PlainBody
zero_body_row = record { method = 0; params = 2; vars = zero_variables; result = Some IntSort; code = zero_code }

abbrev pub method_with : PlainCode → PlainCode
method_with c = one (Catch (one (Frame (Some int_result) c)) thrown_variable Done)

-- what is shown of the run's end
abbrev pub goal : PlainFormula
goal = at_least_zero (ProgramVariable int_result)

-- behind `y = n - 1`
abbrev pub behind : PlainFormula → PlainSequent
behind a = record { left = WellFormed (ProgramVariable heap_name) ∷ []; right = Updated ((y, Wrap (Arithmetic arithmetic_ops.Subtract (ProgramVariable n) (Number (pos 1)))) ∷ []) a ∷ [] }

abbrev pub ends_with : PlainCode → PlainFormula
ends_with c = Modal modalities.Possibility (method_with c) goal

abbrev pub call_sequent : PlainSequent
call_sequent = behind (ends_with (Then call return_x))

-- `R1.2`
abbrev pub call_place : PlainPlace
call_place = record { side = Right; index = 1; path = 2 ∷ [] }

abbrev pub call_task : PlainTask
call_task = record {
  classes = one_class zero_methods;
  contracts = record { cases = zero_row ∷ []; invariants = []; bodies = zero_body_row ∷ [] };
  obligation = record {
    name = codes "Z::zero#1";
    class = the_class;
    method = 0;
    case = 1;
    vars = zero_variables;
    loops = [];
    consts = entry_heap ∷ (entry_measure ∷ (receiver ∷ (n_constant ∷ [])));
    diamond = true;
    sequent = call_sequent;
  };
}

-- ---- the premises
abbrev pub heap : PlainTerm
heap = ProgramVariable heap_name

abbrev pub object : PlainTerm
object = ProgramVariable this

abbrev pub operand : PlainTerm
operand = ProgramVariable y

-- `@h~1`, `#h~1`, `#i~1`, `#rx~1`, `@rx~1`
abbrev pub heap_1 : Name
heap_1 = record { text = codes "@h~1"; sort = HeapSort }

abbrev pub new_heap : Name
new_heap = record { text = codes "#h~1"; sort = HeapSort }

abbrev pub new_result : Name
new_result = int_named (codes "#i~1")

abbrev pub new_exception : Name
new_exception = record { text = codes "#rx~1"; sort = RefSort }

abbrev pub exception : Name
exception = record { text = codes "@rx~1"; sort = RefSort }

-- (imp (not (eq this null)) (and (wf @heap) (and (inst Z this) (and cr(@heap,this) (and (inInt y) (and (le 0 y) (and (inv @heap this) (and (le 0 y) (lt y #im)))))))))
abbrev pub written_entry : PlainFormula
written_entry = Implies (Not (Equal object NullTerm))
    (And (WellFormed heap)
    (And (IsInstance (OfClass the_class) object)
    (And (created heap object)
    (And (InInt operand)
    (And (at_least_zero operand)
    (And (Invariant heap object)
    (And (LessOrEqual (Number (pos 0)) operand) (Less operand (Constant entry_measure)))))))))

-- (imp (eq this null) (dia (.. (raise NullPointerException) (return x) ..) ..))
abbrev pub written_null : PlainFormula
written_null = Implies (Equal object NullTerm) (ends_with (Then (Raise null_pointer) return_x))

-- (upd ((@h~1 @heap)) (upd ((@heap (anon @heap none #h~1))) ..))
abbrev pub written_after : PlainFormula → PlainFormula
written_after a = Updated ((heap_1, heap) ∷ []) (Updated ((heap_name, Anon heap NoLocations (Constant new_heap)) ∷ []) a)

-- (imp (and (wf @heap) (and (inInt #i~1) (and (le 0 #i~1) (inv @heap this)))) (upd ((x #i~1)) (dia (.. (return x) ..) ..)))
abbrev pub written_normal : PlainFormula
written_normal = written_after (Implies
    (And (WellFormed heap)
    (And (InInt (Constant new_result))
    (And (at_least_zero (Constant new_result))
    (Invariant heap object))))
    (Updated ((x, Constant new_result) ∷ []) (ends_with return_x)))

-- (imp (and (wf @heap) (and (inst Throwable #rx~1) (and cr(@heap,#rx~1) (inv @heap this)))) (upd ((@rx~1 #rx~1)) (dia (.. (throwx @rx~1) (return x) ..) ..)))
abbrev pub written_exceptional : PlainFormula
written_exceptional = written_after (Implies
    (And (WellFormed heap)
    (And (IsInstance (OfClass throwable) (Constant new_exception))
    (And (created heap (Constant new_exception))
    (Invariant heap object))))
    (Updated ((exception, Constant new_exception) ∷ []) (ends_with (Then (ThrowUnchecked (Variable exception)) return_x))))

abbrev pub written_premises : List PlainSequent
written_premises = behind written_entry ∷ (behind written_null ∷ (behind written_normal ∷ (behind written_exceptional ∷ [])))

-- ---- the program

abbrev pub an_int : DeclaredType
an_int = record { type = model.IntType; nullable = false }

abbrev pub zero_contract : Contract
zero_contract = record {
  role = Ordinary;
  parameters = record { constant = n_constant; declared = an_int } ∷ [];
  result = Some an_int;
  behaviour = AnyEnd;
  requires_ = at_least_zero (Constant n_constant) ∷ [];
  ensures_ = at_least_zero (ProgramVariable int_result) ∷ [];
  signals = [];
  signals_only = [];
  assignable = NoLocations;
  measure = Constant n_constant;
  diverges = false;
}

abbrev pub zero_case : Case
zero_case = record { contract = zero_contract; class = the_class; method = 0; number = 1; body = 0; family = 0 }

abbrev pub zero_body : Body
zero_body = record { receiver = Some this; parameters = n ∷ []; result = IntSort; code = zero_code }

abbrev pub only_first : {A : Type 0} → A → ℕ → Option A
only_first a zero = Some a
only_first a (suc k) = None

abbrev pub zero_program : SpecifiedProgram
zero_program = record {
  setting = record { program = program_of zero_methods (λ m. if 0 == m then Some zero_body else None); invariants = λ c. [] };
  case = only_first zero_case;
  families = 1;
  reaches = λ a b. nat_eq a b;
}

-- the written step is an instance, the task's tables stand for a program, so that all conditions of the law can be met together, and the
-- step is sound
pub record RecursiveCallIsSound : Type 0 where
  pub written : UseContractInstance call_task call_sequent call_place 1 1 written_premises
  pub bodies : BodiesAssignNoHeap call_task.contracts
  pub task : TaskStandsFor call_task zero_program zero_case
  pub sound : StepIsSound call_task call_sequent written_premises
