-- A worked example: `class T { /*@ ensures \result >= x; assignable \nothing; @*/ static int id(int x) { return x; } }`.
-- The row, the body and the obligation are written out; with them the conditions of the theorem hold, and so the case is kept.
use Rattle.std.specs.Prelude.{ℕ, zero, suc, true, false, nat_eq, pos, Option, Some, None, List, [], ◌∷◌, codes}
use Rattle.jd_base.specs.declared.sort.Sort.TheVariants.{Int as IntSort, Bool as BoolSort}
use Rattle.jd_syntax.specs.Names.{Name}
use Rattle.jd_syntax.specs.CodeNames.{heap_name}
use Rattle.jd_syntax.specs.Codes.{OfClass, Variable, Catch, Frame, Return, PlainCode, Done, Then}
use Rattle.jd_term.specs.declared.formula.Modality.TheVariants.{Possibility}
use Rattle.jd_term.specs.Terms.{PlainTerm, Number, Boolean, NullTerm, ProgramVariable, Constant, Select, CreatedField, NoLocations}
use Rattle.jd_term.specs.Formulas.{PlainFormula, Not, And, Implies, Equal, LessOrEqual, Updated, Modal, InInt, WellFormed, IsInstance}
use Rattle.jd_model.specs.Sequents.{PlainSequent}
use Rattle.jd_model.specs.SpecialNames.{entry_heap, entry_measure, thrown_variable, result_variable}
use Rattle.jd_model.specs.Programs.{Program, Body, IntType}
use Rattle.jd_model.specs.Conjunctions.{frame}
use Rattle.jd_model.specs.Cases.{DeclaredType, Static, AnyEnd, Contract, Case, SpecifiedProgram}
use Rattle.jd_model.specs.KeptCases.{Kept}
use Rattle.jd_model.specs.ContractForms.{PlainCase}
use Rattle.jd_model.specs.ResolvedBodies.{AllResolved}
use Rattle.jd_oblig.specs.CaseObligations.{ObligationParts}
use Rattle.jd_oblig.specs.KeptByObligations.{IsObligationOf, IsReachability, IsValidWhereUsable}

-- ---- the contract and the body

abbrev pub an_int : DeclaredType
an_int = record { type = IntType; nullable = false }

abbrev pub x_variable : Name
x_variable = record { text = codes "x"; sort = IntSort }

abbrev pub x_constant : Name
x_constant = record { text = codes "#i_x"; sort = IntSort }

abbrev pub the_result : PlainTerm
the_result = ProgramVariable (result_variable IntSort)

abbrev pub at_least_x : PlainFormula
at_least_x = LessOrEqual (Constant x_constant) the_result

abbrev pub id_contract : Contract
id_contract = record {
  role = Static;
  parameters = record { constant = x_constant; declared = an_int } ∷ [];
  result = Some an_int;
  behaviour = AnyEnd;
  requires_ = [];
  ensures_ = at_least_x ∷ [];
  signals = [];
  signals_only = [];
  assignable = NoLocations;
  measure = Number (pos 0);
  diverges = false;
}

-- the class comes after the ten that are always there
abbrev pub id_case : Case
id_case = record { contract = id_contract; class = 10; method = 0; number = 1; body = 0; family = 0 }

abbrev pub id_body : Body
id_body = record { receiver = None; parameters = x_variable ∷ []; result = IntSort; code = Then (Return (Variable x_variable)) Done }

-- ---- its formulas

abbrev pub none_thrown : PlainFormula
none_thrown = Equal (ProgramVariable thrown_variable) NullTerm

abbrev pub thrown_created : PlainFormula
thrown_created = Equal (Select BoolSort (ProgramVariable heap_name) (ProgramVariable thrown_variable) CreatedField) (Boolean true)

abbrev pub normal_end : List PlainFormula
normal_end = InInt the_result ∷ at_least_x ∷ []

abbrev pub only_first : {A : Type 0} → A → ℕ → Option A
only_first a zero = Some a
only_first a (suc n) = None

-- in any tables of classes and with any invariants
module _ (classes : Program) (invariants : ℕ → List PlainFormula) where
  abbrev pub id_program : SpecifiedProgram
  id_program = record {
    setting = record {
      program = record {
        superclasses = classes.superclasses;
        object = classes.object;
        throwable = classes.throwable;
        null_pointer = classes.null_pointer;
        arithmetic = classes.arithmetic;
        bounds = classes.bounds;
        cast = classes.cast;
        negative_size = classes.negative_size;
        field_type = classes.field_type;
        has_field = classes.has_field;
        lookup = λ c m. None;
        body = only_first id_body;
      };
      invariants = invariants;
    };
    case = only_first id_case;
    families = 1;
    reaches = nat_eq;
  }

  abbrev pub exceptional_end : List PlainFormula
  exceptional_end = IsInstance (OfClass classes.throwable) (ProgramVariable thrown_variable) ∷ thrown_created ∷ []

  abbrev pub id_row : PlainCase
  id_row = record {
    method = 0;
    class = 10;
    number = 1;
    entry = WellFormed (Constant entry_heap) ∷ InInt (Constant x_constant) ∷ [];
    exit = normal_end;
    exceptional = exceptional_end;
    frame = NoLocations;
    measure = Number (pos 0);
    diverges = false;
  }

  abbrev pub id_parts : ObligationParts
  id_parts = record { result = Some IntSort; normal = normal_end; exceptional = exceptional_end; keeps_invariant = false }

  -- what is to be shown of the state in which the run ends
  abbrev pub id_exit : PlainFormula
  id_exit =
      And (WellFormed (ProgramVariable heap_name))
      (And (Implies none_thrown (And (InInt the_result) at_least_x))
      (And (Implies (Not none_thrown) (And (IsInstance (OfClass classes.throwable) (ProgramVariable thrown_variable)) thrown_created))
      (frame NoLocations (Constant entry_heap))))

  -- `(catch ((frame @ires ((return x)))) @rexc ())`
  abbrev pub id_run : PlainCode
  id_run = Then (Catch (Then (Frame (Some (result_variable IntSort)) (Then (Return (Variable x_variable)) Done)) Done) thrown_variable Done) Done

  abbrev pub id_sequent : PlainSequent
  id_sequent = record {
    left = And (WellFormed (Constant entry_heap)) (And (InInt (Constant x_constant)) (Equal (Constant entry_measure) (Number (pos 0)))) ∷ [];
    right =
        Updated ((heap_name, Constant entry_heap) ∷ (x_variable, Constant x_constant) ∷ (thrown_variable, NullTerm) ∷ [])
        (Modal Possibility id_run id_exit)
        ∷ [];
  }

-- each condition of the theorem holds of the example, and so does its conclusion
pub record IdentityIsKept : Type 0 where
  pub resolved : (classes : Program) (invariants : ℕ → List PlainFormula) → AllResolved (id_program classes invariants).setting.program
  pub reachability : (classes : Program) (invariants : ℕ → List PlainFormula) → IsReachability (id_program classes invariants)
  pub obligation : (classes : Program) (invariants : ℕ → List PlainFormula) → IsObligationOf (id_program classes invariants) id_case (id_sequent classes invariants)
  pub valid : (classes : Program) (invariants : ℕ → List PlainFormula) → IsValidWhereUsable (id_program classes invariants) id_case (id_sequent classes invariants)
  pub kept : (classes : Program) (invariants : ℕ → List PlainFormula) → Kept (id_program classes invariants) id_case
