-- The obligation of a case: its name, its variables and constants, and its sequent (The KeY Book, 8.3).
use Rattle.std.specs.Prelude.{ℕ, Bool, true, false, not, cond, nat_eq, List, [], ◌∷◌, ◌++◌, option_map, Option, Some, None, codes}
use Rattle.std.specs.Fmt.{decimal}
use Rattle.std.specs.List.{slice_get}
use Rattle.std.specs.Option.{unwrap_or}
use Rattle.jd_syntax.specs.JavaTrees.{JavaUnit}
use Rattle.jd_syntax.specs.Names.{Declared as DeclaredVariable}
use Rattle.jd_jclasses.specs.Classes.{class_names}
use Rattle.jd_jclasses.specs.Members.{Declared, Kind, FieldOf, ConstantOf, RoutineOf, is_constructor}
use Rattle.jd_jclasses.specs.Methods.{routines}
use Rattle.jd_bodies.specs.Bodies.{body_of}
use Rattle.jd_bodies.specs.Declarations.{Declarations}
use Rattle.jd_model.specs.Cases.{Contract, Role, Static, Ordinary, Helper, ConstructorOf}
use Rattle.jd_model.specs.Programs.{Body, Program}
use Rattle.jd_model.specs.Sequents.{PlainSequent}
use Rattle.jd_model.specs.SpecialNames.{entry_heap, entry_measure, receiver}
use Rattle.jd_model.specs.Tables.{constants_of_parameters}
use Rattle.jd_sequent.specs.Obligations.{PlainLoop, PlainObligation}
use Rattle.jd_oblig.specs.CaseObligations.{ObligationParts, obligation_sequent}
use Rattle.jd_oblig.specs.KeptByObligations.{sort_of_result}
use Rattle.jd_jml_meaning.specs.ContractFormulas.{contract_of}
use Rattle.jd_jml_meaning.specs.JmlCases.{JmlCase}
use Rattle.jd_case_rows.specs.Rows.{exceptional_members, normal_members, row_of, spelled_for}

-- ---- names: `C::m#k`, `C::new#k` of the class's own constructor, and `C::A::new#k` of that of a class above it

module _ (units : List JavaUnit) where
  abbrev pub class_text : ℕ → List ℕ
  class_text c = unwrap_or (slice_get (class_names units) c) []

  abbrev pub constructor_text : ℕ → ℕ → List ℕ
  constructor_text class owner = cond (nat_eq owner class) (codes "new") (class_text owner ++ codes "::new")

  abbrev pub text_of_declared : ℕ → Option Declared → List ℕ
  text_of_declared class None = []
  text_of_declared class (Some r) = cond (is_constructor r.kind) (constructor_text class r.class) r.name.name

  abbrev pub routine_text : ℕ → ℕ → List ℕ
  routine_text class m = text_of_declared class (slice_get (routines units) m)

  abbrev pub obligation_name : ℕ → ℕ → ℕ → List ℕ
  obligation_name class m number = class_text class ++ (codes "::" ++ (routine_text class m ++ (codes "#" ++ decimal number)))

-- ---- what the row does not tell

abbrev pub variables_of_kind : Declarations → ℕ → Kind → List DeclaredVariable
variables_of_kind d class (FieldOf t) = []
variables_of_kind d class (ConstantOf n) = []
variables_of_kind d class (RoutineOf m) = (body_of d class m).variables

abbrev pub variables_of_declared : Declarations → Option Declared → List DeclaredVariable
variables_of_declared d None = []
variables_of_declared d (Some r) = variables_of_kind d r.class r.kind

-- the variables of the body of the number
abbrev pub variables_of_body : List JavaUnit → Declarations → ℕ → List DeclaredVariable
variables_of_body units d m = variables_of_declared d (slice_get (routines units) m)

abbrev pub keeps_invariant : Role → Bool
keeps_invariant Static = false
keeps_invariant Ordinary = true
keeps_invariant Helper = false
keeps_invariant (ConstructorOf a) = false

abbrev pub parts_of : Program → Contract → ObligationParts
parts_of p k = record {
  result = option_map sort_of_result k.result;
  normal = normal_members k;
  exceptional = exceptional_members p k;
  keeps_invariant = keeps_invariant k.role;
}

-- ---- together: the heap and the measure at the entry, the receiver and each parameter are constants

module _ (units : List JavaUnit) (p : Program) (fields : ℕ → List ℕ) (c : JmlCase) (b : Body) where
  abbrev pub case_sequent : PlainSequent
  case_sequent = obligation_sequent (row_of p fields c b) b (parts_of p (contract_of p (spelled_for b c.contract)))

  -- with the variables of the body, and with what is said of its loops
  abbrev pub case_obligation : List DeclaredVariable → List PlainLoop → PlainObligation
  case_obligation variables loops = record {
    name = obligation_name units c.class c.method c.number;
    class = c.class;
    method = c.method;
    case = c.number;
    vars = variables;
    loops = loops;
    consts = entry_heap ∷ entry_measure ∷ receiver ∷ constants_of_parameters b.parameters;
    diamond = not c.contract.diverges;
    sequent = case_sequent;
  }
