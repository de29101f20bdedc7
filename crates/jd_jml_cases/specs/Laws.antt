-- The cases of a method stand for the contracts that a program has for it.
use Rattle.std.specs.Prelude.{◌≡◌, ℕ, false, List, [], ◌∷◌, flat_map, reverse, Option, Some, None}
use Rattle.std.specs.List.{slice_get}
use Rattle.jd_syntax.specs.JavaTrees.{JavaUnit}
use Rattle.jd_syntax.specs.SpecTrees.{PlainClause}
use Rattle.jd_jclasses.specs.Members.{Declared, Kind, FieldOf, ConstantOf, RoutineOf, is_constructor}
use Rattle.jd_jclasses.specs.Classes.{parents}
use Rattle.jd_jclasses.specs.Methods.{routines}
use Rattle.jd_jclasses.specs.Refusals.{AreClasses}
use Rattle.jd_classes.specs.Fields.{IsLineage}
use Rattle.jd_bodies.specs.Declarations.{Declarations}
use Rattle.jd_jml_meaning.specs.JmlContracts.{JmlContract}
use Rattle.jd_specifications.specs.WrittenCases.{contract}
use Rattle.jd_programs.specs.Cases as programs
use Rattle.jd_jml_written.specs.Marked.{PlainCase}
use Rattle.jd_jml_cases.specs.Cases.{lineage, method_cases, written_at}

abbrev pub contract_of_kind : Declarations → ℕ → Kind → List PlainClause → List JmlContract
contract_of_kind d class (FieldOf t) cs = []
contract_of_kind d class (ConstantOf n) cs = []
contract_of_kind d class (RoutineOf m) cs = contract d class m cs ∷ []

abbrev pub contract_of_declared : Declarations → Option Declared → List PlainClause → List JmlContract
contract_of_declared d None cs = []
contract_of_declared d (Some r) cs = contract_of_kind d r.class r.kind cs

-- of the declaration at which the case is written
abbrev pub contract_of_case : List JavaUnit → Declarations → PlainCase → List JmlContract
contract_of_case units d c = contract_of_declared d (slice_get (routines units) c.declared) c.clauses

-- a method's cases, those of the methods that it overrides among them, in the order of the obligations
abbrev pub CasesAreContracts : Type 0
CasesAreContracts = (units : List JavaUnit) (d : Declarations) (m : ℕ) (r : Declared) → slice_get (routines units) m ≡ Some r → is_constructor r.kind ≡ false → programs.contracts_in units (lineage units) d r.class m ≡ flat_map (contract_of_case units d) (method_cases units m)

-- and those that are written at a method or constructor
abbrev pub WrittenAreContracts : Type 0
WrittenAreContracts = (units : List JavaUnit) (d : Declarations) (m : ℕ) → programs.written_at units (lineage units) d m ≡ flat_map (contract_of_case units d) (written_at units m)

-- a class and those above it are all there, the class last
abbrev pub LineagesAreClassesUp : Type 0
LineagesAreClassesUp = (units : List JavaUnit) → AreClasses units → (c : ℕ) (above : List ℕ) → IsLineage (parents units) c above → lineage units c ≡ reverse above
