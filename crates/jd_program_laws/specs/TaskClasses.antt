-- What a task tells of the classes of the files, and that it stands for each program that they mean.
use Rattle.std.specs.Prelude.{Bool, List, None, false, ◌<◌, ◌≡◌, ℕ}
use Rattle.std.specs.Bool.{Decides}
use Rattle.std.specs.List.{slice_get}
use Rattle.jd_ancestry.specs.Depths.{IsDepths}
use Rattle.jd_reach.specs.Paths.{ReachesBy}
use Rattle.jd_syntax.specs.JavaTrees.{JavaUnit}
use Rattle.jd_jclasses.specs.CallGraph.{AreFamilyCalls}
use Rattle.jd_jclasses.specs.Classes.{parents}
use Rattle.jd_jclasses.specs.Methods.{AreFamilies, routines}
use Rattle.jd_jclasses.specs.Refusals.{AreClasses}
use Rattle.jd_classes.specs.Tables.{AreTables}
use Rattle.jd_classes.specs.declared.classes.Classes.{Classes}
use Rattle.jd_jml_meaning.specs.JmlCases.{JmlProgram, specified}
use Rattle.jd_names.specs.Tables.{program_tables}
use Rattle.jd_programs.specs.Programs.{IsProgram}
use Rattle.jd_task_classes.specs.Classes.{PlainClasses, classes_view}
use Rattle.jd_task_classes.specs.Standing.{ClassesStandFor}
use Rattle.jd_program_laws.specs.Laws.{ConstructorsAreNotStatic}

-- the tables of the files, the families of their routines, and which of them reach which by calls
pub record AreClassesOf (units : List JavaUnit) (k : PlainClasses) : Type 0 where
  pub tables : k.tables ≡ program_tables units
  -- classes have depths, since none is its own ancestor
  pub depths : List ℕ
  pub are_depths : IsDepths (parents units) depths
  pub count : ℕ
  pub are_families : AreFamilies units count k.families
  pub no_family : (m : ℕ) → slice_get (routines units) m ≡ None → k.families m ≡ 0
  pub calls : ℕ → ℕ → Bool
  pub are_calls : AreFamilyCalls units k.families calls
  pub reaches : (a b : ℕ) → a < count → b < count → Decides (k.reaches a b) (ReachesBy calls a b)
  pub none_reached : (a b : ℕ) → (a < count → b < count → ⊥) → k.reaches a b ≡ false

-- ---- laws

abbrev pub TablesAreClasses : Type 0
TablesAreClasses = (units : List JavaUnit) (t : Classes) → AreTables units t → AreClassesOf units (classes_view t)

-- files tell one such thing
abbrev pub ClassesAreOne : Type 0
ClassesAreOne = (units : List JavaUnit) (k l : PlainClasses) → AreClassesOf units k → AreClassesOf units l → k ≡ l

abbrev pub ClassesOfProgramsStand : Type 0
ClassesOfProgramsStand = (units : List JavaUnit) → AreClasses units → ConstructorsAreNotStatic units → (k : PlainClasses) → AreClassesOf units k → (j : JmlProgram) → IsProgram units j → ClassesStandFor k (specified j)
