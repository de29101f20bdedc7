-- A second worked example: `class C { int f; //@ invariant 0 <= f;` and `/*@ diverges true; @*/ void skip() { } }`.
-- It has a receiver, an invariant, no result and a run that need not end.
use Rattle.std.specs.Prelude.{ℕ, true, cond, nat_eq, pos, Some, None, List, [], ◌∷◌, codes}
use Rattle.jd_base.specs.declared.sort.Sort.TheVariants.{Int as IntSort, Bool as BoolSort, Ref as RefSort}
use Rattle.jd_syntax.specs.Names.{Name}
use Rattle.jd_syntax.specs.CodeNames.{heap_name}
use Rattle.jd_syntax.specs.Codes.{OfClass, Catch, Frame, PlainCode, Done, Then}
use Rattle.jd_term.specs.declared.formula.Modality.TheVariants.{Necessity}
use Rattle.jd_term.specs.Terms.{PlainTerm, Number, Boolean, NullTerm, ProgramVariable, Constant, Select, NamedField, CreatedField, AllLocations}
use Rattle.jd_term.specs.Formulas.{PlainFormula, TrueFormula, Not, And, Implies, Equal, LessOrEqual, Updated, Modal, WellFormed, Invariant, IsInstance, IsExactInstance}
use Rattle.jd_model.specs.Sequents.{PlainSequent}
use Rattle.jd_model.specs.SpecialNames.{entry_heap, receiver, thrown_variable}
use Rattle.jd_model.specs.Programs.{Program, Body}
use Rattle.jd_model.specs.Cases.{Ordinary, AnyEnd, Contract, Case, SpecifiedProgram}
use Rattle.jd_model.specs.KeptCases.{Kept}
use Rattle.jd_model.specs.ContractForms.{PlainCase}
use Rattle.jd_model.specs.ResolvedBodies.{AllResolved}
use Rattle.jd_oblig.specs.CaseObligations.{ObligationParts}
use Rattle.jd_oblig.specs.KeptByObligations.{IsObligationOf, IsReachability, IsValidWhereUsable}
use Rattle.jd_oblig.specs.IdentityExample.{only_first}

-- ---- the contract, the invariant and the body

abbrev pub this_variable : Name
this_variable = record { text = codes "this"; sort = RefSort }

abbrev pub field_not_negative : PlainFormula
field_not_negative = LessOrEqual (Number (pos 0)) (Select IntSort (ProgramVariable heap_name) (Constant receiver) (NamedField 0))

-- the class comes after the ten that are always there
abbrev pub skip_invariants : ℕ → List PlainFormula
skip_invariants c = cond (nat_eq c 10) (field_not_negative ∷ []) []

abbrev pub skip_contract : Contract
skip_contract = record {
  role = Ordinary;
  parameters = [];
  result = None;
  behaviour = AnyEnd;
  requires_ = [];
  ensures_ = [];
  signals = [];
  signals_only = [];
  assignable = AllLocations;
  measure = Number (pos 0);
  diverges = true;
}

abbrev pub skip_case : Case
skip_case = record { contract = skip_contract; class = 10; method = 0; number = 1; body = 0; family = 0 }

abbrev pub skip_body : Body
skip_body = record { receiver = Some this_variable; parameters = []; result = IntSort; code = Done }

-- ---- its formulas

abbrev pub created_in : PlainTerm → PlainTerm → PlainFormula
created_in h o = Equal (Select BoolSort h o CreatedField) (Boolean true)

abbrev pub none_thrown : PlainFormula
none_thrown = Equal (ProgramVariable thrown_variable) NullTerm

abbrev pub invariant_after : PlainFormula
invariant_after = Invariant (ProgramVariable heap_name) (Constant receiver)

-- in any tables of classes
module _ (classes : Program) where
  abbrev pub skip_program : SpecifiedProgram
  skip_program = record {
    setting = record {
      program = record {
        superclasses = classes.superclasses;
        object = classes.object;
        throwable = classes.throwable;
        null_pointer = classes.null_pointer;
        arithmetic = classes.arithmetic;
        bounds = classes.bounds;
        cast = classes.cast;
        negative_size = classes.negative_size;
        field_type = classes.field_type;
        has_field = classes.has_field;
        lookup = classes.lookup;
        body = only_first skip_body;
      };
      invariants = skip_invariants;
    };
    case = only_first skip_case;
    families = 1;
    reaches = nat_eq;
  }

  abbrev pub thrown_end : List PlainFormula
  thrown_end = IsInstance (OfClass classes.throwable) (ProgramVariable thrown_variable) ∷ created_in (ProgramVariable heap_name) (ProgramVariable thrown_variable) ∷ []

  abbrev pub skip_row : PlainCase
  skip_row = record {
    method = 0;
    class = 10;
    number = 1;
    entry = WellFormed (Constant entry_heap) ∷ IsExactInstance (OfClass 10) (Constant receiver) ∷ created_in (Constant entry_heap) (Constant receiver) ∷ Invariant (Constant entry_heap) (Constant receiver) ∷ [];
    exit = invariant_after ∷ [];
    exceptional =
        IsInstance (OfClass classes.throwable) (ProgramVariable thrown_variable)
        ∷ created_in (ProgramVariable heap_name) (ProgramVariable thrown_variable)
        ∷ invariant_after
        ∷ [];
    frame = AllLocations;
    measure = Number (pos 0);
    diverges = true;
  }

  abbrev pub skip_parts : ObligationParts
  skip_parts = record { result = None; normal = []; exceptional = thrown_end; keeps_invariant = true }

  abbrev pub skip_exit : PlainFormula
  skip_exit =
      And (WellFormed (ProgramVariable heap_name))
      (And (Implies none_thrown TrueFormula)
      (And (Implies (Not none_thrown) (And (IsInstance (OfClass classes.throwable) (ProgramVariable thrown_variable)) (created_in (ProgramVariable heap_name) (ProgramVariable thrown_variable))))
      invariant_after))

  -- `(catch ((frame - ())) @rexc ())`
  abbrev pub skip_run : PlainCode
  skip_run = Then (Catch (Then (Frame None Done) Done) thrown_variable Done) Done

  abbrev pub skip_sequent : PlainSequent
  skip_sequent = record {
    left =
        And (WellFormed (Constant entry_heap))
        (And (IsExactInstance (OfClass 10) (Constant receiver))
        (And (created_in (Constant entry_heap) (Constant receiver))
        (Invariant (Constant entry_heap) (Constant receiver))))
        ∷ [];
    right =
        Updated ((heap_name, Constant entry_heap) ∷ (this_variable, Constant receiver) ∷ (thrown_variable, NullTerm) ∷ [])
        (Modal Necessity skip_run skip_exit)
        ∷ [];
  }

-- each condition of the theorem holds of the example, and so does its conclusion
pub record SkipIsKept : Type 0 where
  pub resolved : (classes : Program) → AllResolved (skip_program classes).setting.program
  pub reachability : (classes : Program) → IsReachability (skip_program classes)
  pub obligation : (classes : Program) → IsObligationOf (skip_program classes) skip_case (skip_sequent classes)
  pub valid : (classes : Program) → IsValidWhereUsable (skip_program classes) skip_case (skip_sequent classes)
  pub kept : (classes : Program) → Kept (skip_program classes) skip_case
