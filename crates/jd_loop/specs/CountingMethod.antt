-- A method that counts, its contract, and the tables that stand for its program.
use Rattle.std.specs.Prelude.{ℕ, zero, suc, pos, true, false, ◌==◌, if◌then◌else◌, Option, Some, None, List, [], ◌∷◌, codes}
use Rattle.jd_base.specs.declared.sort.Sort.TheVariants.{Int as IntSort}
use Rattle.jd_syntax.specs.JavaTypes.{IntType}
use Rattle.jd_syntax.specs.Names.{Name, Declared}
use Rattle.jd_syntax.specs.CodeNames.{heap_name}
use Rattle.jd_syntax.specs.Codes.{OfClass, Expr, IntLiteral, Variable, Binary, Set, While, Catch, Frame, Return, PlainCode, Done, Then}
use Rattle.jd_syntax.specs.declared.code.BinaryOp.TheVariants as binary_ops
use Rattle.jd_term.specs.declared.term.ArithmeticOp.TheVariants as arithmetic_ops
use Rattle.jd_term.specs.Terms.{PlainTerm, Number, ProgramVariable, Constant, Arithmetic, NoLocations, AllLocations}
use Rattle.jd_term.specs.Formulas.{And, Equal, LessOrEqual, InInt, WellFormed, IsInstance}
use Rattle.jd_model.specs.SpecialNames.{entry_heap, thrown_variable, result_variable}
use Rattle.jd_model.specs.Contexts.{one}
use Rattle.jd_model.specs.Conjunctions.{created_at}
use Rattle.jd_model.specs.Programs as model
use Rattle.jd_model.specs.Programs.{Body}
use Rattle.jd_model.specs.Cases.{DeclaredType, Static, AnyEnd, Contract, Case, SpecifiedProgram}
use Rattle.jd_model.specs.ContractForms.{PlainCase, PlainBody, PlainContracts}
use Rattle.jd_jinfos.specs.Infos.{PlainMethodInfo}
use Rattle.jd_task_classes.specs.OneClass.{program_of, the_class}
use Rattle.jd_sequent.specs.Obligations.{PlainLoop}

-- ---- names
-- a name of the sort Int
abbrev pub int_named : List ℕ → Name
int_named l = record { text = l; sort = IntSort }

-- the method's parameter
abbrev pub n : Name
n = int_named (codes "n")

-- its local
abbrev pub i : Name
i = int_named (codes "i")

-- a local of the loop's body
abbrev pub t : Name
t = int_named (codes "t")

-- the variable of its result
abbrev pub int_result : Name
int_result = result_variable IntSort

-- ---- the method
-- `i < n`
abbrev pub test : Expr
test = Binary binary_ops.Less (Variable i) (Variable n)

-- `t = i; i = t + 1;`
abbrev pub body : PlainCode
body = Then (Set t (Variable i)) (one (Set i (Binary binary_ops.Add (Variable t) (IntLiteral (pos 1)))))

-- `return 0;`
abbrev pub return_zero : PlainCode
return_zero = one (Return (IntLiteral (pos 0)))

-- a method's frame with this code
abbrev pub method_with : PlainCode → PlainCode
method_with c = one (Catch (one (Frame (Some int_result) c)) thrown_variable Done)

-- the loop, and what is behind it
abbrev pub counting_code : PlainCode
counting_code = method_with (Then (While 1 test body) return_zero)

-- n - i
abbrev pub variant : PlainTerm
variant = Arithmetic arithmetic_ops.Subtract (ProgramVariable n) (ProgramVariable i)

-- `maintaining 0 <= i && i <= n; decreases n - i; assignable \nothing;`
abbrev pub counting_loop : PlainLoop
counting_loop = record {
  number = 1;
  scope = n ∷ i ∷ [];
  assignable = NoLocations;
  invariant = And (LessOrEqual (Number (pos 0)) (ProgramVariable i)) (LessOrEqual (ProgramVariable i) (ProgramVariable n));
  variant = Some variant;
}

-- ---- the program
-- `int f(int n) { int i = 0; while (i < n) { int t = i; i = t + 1; } return 0; }`
abbrev pub method_code : PlainCode
method_code = Then (Set i (IntLiteral (pos 0))) (Then (While 1 test body) return_zero)

-- the method as it runs
abbrev pub counting_body : Body
counting_body = record { receiver = None; parameters = n ∷ []; result = IntSort; code = method_code }

-- the constant of the parameter
abbrev pub n_constant : Name
n_constant = int_named (codes "#i_n")

-- `int`
abbrev pub int_type : DeclaredType
int_type = record { type = model.IntType; nullable = false }

-- `requires 0 <= n; ensures \result == 0;`
abbrev pub counting_contract : Contract
counting_contract = record {
  role = Static;
  parameters = record { constant = n_constant; declared = int_type } ∷ [];
  result = Some int_type;
  behaviour = AnyEnd;
  requires_ = LessOrEqual (Number (pos 0)) (Constant n_constant) ∷ [];
  ensures_ = Equal (ProgramVariable int_result) (Number (pos 0)) ∷ [];
  signals = [];
  signals_only = [];
  assignable = AllLocations;
  measure = Number (pos 0);
  diverges = false;
}

-- the method's one case
abbrev pub counting_case : Case
counting_case = record { contract = counting_contract; class = the_class; method = 0; number = 1; body = 0; family = 0 }

-- the cases of the program
abbrev pub only_case : ℕ → Option Case
only_case zero = Some counting_case
only_case (suc k) = None

-- its method
abbrev pub counting_methods : List PlainMethodInfo
counting_methods = record { name = codes "f"; class = the_class; member = 0; static = true; constructor = false; params = IntType ∷ []; result = Some IntType } ∷ []

-- the program with its case
abbrev pub counting_program : SpecifiedProgram
counting_program = record {
  setting = record { program = program_of counting_methods (λ m. if 0 == m then Some counting_body else None); invariants = λ c. [] };
  case = only_case;
  families = 1;
  reaches = λ a b. true;
}

-- ---- the tables
-- an `int` variable
abbrev pub int_declared : Name → Declared
int_declared x = record { name = x; class = None }

-- the variables of the body
abbrev pub counting_variables : List Declared
counting_variables = int_declared n ∷ int_declared i ∷ int_declared t ∷ []

-- the row of the case
abbrev pub counting_row : PlainCase
counting_row = record {
  method = 0;
  class = the_class;
  number = 1;
  entry = WellFormed (Constant entry_heap) ∷ (InInt (Constant n_constant) ∷ (LessOrEqual (Number (pos 0)) (Constant n_constant) ∷ []));
  exit = InInt (ProgramVariable int_result) ∷ (Equal (ProgramVariable int_result) (Number (pos 0)) ∷ []);
  exceptional = IsInstance (OfClass 1) (ProgramVariable thrown_variable) ∷ (created_at (ProgramVariable heap_name) (ProgramVariable thrown_variable) ∷ []);
  frame = AllLocations;
  measure = Number (pos 0);
  diverges = false;
}

-- the row of the body
abbrev pub body_row : PlainBody
body_row = record { method = 0; params = 1; vars = counting_variables; result = Some IntSort; code = method_code }

-- all tables
abbrev pub counting_tables : PlainContracts
counting_tables = record { cases = counting_row ∷ []; invariants = []; bodies = body_row ∷ [] }
