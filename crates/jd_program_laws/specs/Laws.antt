-- What holds of each program that files mean.
use Rattle.std.specs.Prelude.{◌≡◌, ◌≢◌, ◌==◌, ℕ, false, true, not, List, [], ◌∷◌, None, Some, codes}
use Rattle.std.specs.List.{list_all, slice_get}
use Rattle.jd_syntax.specs.JavaTrees.{JavaMethod, JavaParameter, JavaUnit}
use Rattle.jd_jclasses.specs.Members.{Declared, RoutineOf, is_constructor, is_static}
use Rattle.jd_jclasses.specs.Methods.{routines}
use Rattle.jd_jclasses.specs.Refusals.{AreClasses}
use Rattle.jd_classes.specs.Tables.{AreTables}
use Rattle.jd_classes.specs.declared.classes.Classes.{Classes}
use Rattle.jd_bodies.specs.Declarations.{AreDeclarations, Declarations}
use Rattle.jd_model.specs.ResolvedBodies.{AllResolved}
use Rattle.jd_bodies.specs.Refused.{first_fault}
use Rattle.jd_resolved_bodies.specs.Laws.{ConstantsFit}
use Rattle.jd_resolved_bodies.specs.Lexical.{IsLexicalMethod}
use Rattle.jd_model.specs.Cases.{Case}
use Rattle.jd_model.specs.ContractForms.{PlainContracts}
use Rattle.jd_model.specs.Sequents.{PlainSequent}
use Rattle.jd_model.specs.Tables.{TablesStandFor}
use Rattle.jd_sequent.specs.TaskMeaning.{StepIsSoundIn}
use Rattle.jd_oblig.specs.KeptByObligations.{IsMadeOfRow, IsReachability}
use Rattle.jd_task_classes.specs.ResolvedCalls.{CallsAreResolved}
use Rattle.jd_jml_meaning.specs.JmlCases.{JmlCase, JmlKept, JmlProgram, specified}
use Rattle.jd_programs.specs.Programs.{IsProgram}

-- as they are read
abbrev pub ConstructorsAreNotStatic : List JavaUnit → Type 0
ConstructorsAreNotStatic units = (m : ℕ) (r : Declared) → slice_get (routines units) m ≡ Some r → is_constructor r.kind ≡ true → is_static r.kind ≡ false

abbrev pub AreLexicalMethods : List JavaUnit → Type 0
AreLexicalMethods units = (m : ℕ) (r : Declared) (t : JavaMethod) → slice_get (routines units) m ≡ Some r → r.kind ≡ RoutineOf t → IsLexicalMethod t

-- no keyword, and without the apostrophe of later variables of a name (JLS 3.8, 3.9)
pub record IsParameterName (x : List ℕ) : Type 0 where
  pub bytes : list_all (λ b. not (b == 39)) x ≡ true
  pub no_this : x ≢ codes "this"

abbrev pub AreParameterNames : List JavaParameter → Type 0
AreParameterNames [] = Unit {0}
AreParameterNames (p ∷ ps) = IsParameterName p.name.name × AreParameterNames ps

abbrev pub HaveParameterNames : List JavaUnit → Type 0
HaveParameterNames units = (m : ℕ) (r : Declared) (t : JavaMethod) → slice_get (routines units) m ≡ Some r → r.kind ≡ RoutineOf t → AreParameterNames t.parameters

-- ---- laws

-- what has tables has a meaning
abbrev pub ProgramsHaveMeanings : Type 0
ProgramsHaveMeanings = (units : List JavaUnit) (t : Classes) → AreTables units t → (d : Declarations) → AreDeclarations units d → (j : JmlProgram) × IsProgram units j

abbrev pub FamiliesOfProgramsReach : Type 0
FamiliesOfProgramsReach = (units : List JavaUnit) (j : JmlProgram) → IsProgram units j → IsReachability (specified j)

abbrev pub CallsOfProgramsAreResolved : Type 0
CallsOfProgramsAreResolved = (units : List JavaUnit) → AreClasses units → ConstructorsAreNotStatic units → (j : JmlProgram) → IsProgram units j → CallsAreResolved (specified j)

-- where no token of the bodies is refused
abbrev pub BodiesOfProgramsAreResolved : Type 0
BodiesOfProgramsAreResolved = (units : List JavaUnit) → AreLexicalMethods units → (j : JmlProgram) (is : IsProgram units j) → ConstantsFit is.declarations → first_fault is.declarations units ≡ None → AllResolved j.program

-- where the obligation of each case is made of its row in tables that stand for the program, and closed by sound steps, each case is kept as
-- JML says it
abbrev pub EveryClosedCaseOfProgramsIsKept : Type 0
EveryClosedCaseOfProgramsIsKept =
    (units : List JavaUnit) → AreLexicalMethods units → HaveParameterNames units → (j : JmlProgram) (is : IsProgram units j) → ConstantsFit is.declarations → first_fault is.declarations units ≡ None
    → (t : PlainContracts) → TablesStandFor t (specified j) → (obligation : ℕ → PlainSequent)
    → ((κ : ℕ) (c : Case) → (specified j).case κ ≡ Some c → IsMadeOfRow t (specified j) κ c (obligation κ))
    → ((κ : ℕ) (c : Case) → (specified j).case κ ≡ Some c → StepIsSoundIn (specified j) c (obligation κ) [])
    → (κ : ℕ) (c : JmlCase) → j.case κ ≡ Some c → JmlKept j c
