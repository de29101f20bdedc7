-- Files that are a program's, and the task of a program that has an obligation by now.
use Rattle.std.specs.Prelude.{ℕ, List, None}
use Rattle.jd_syntax.specs.JavaTrees.{JavaUnit}
use Rattle.jd_jclasses.specs.Refusals.{AreClasses}
use Rattle.jd_files.specs.Files.{AreTrees}
use Rattle.jd_refusals.specs.Refusals.{IsFirst}
use Rattle.jd_model.specs.Sequents.{PlainSequent}
use Rattle.jd_sequent.specs.Limits.{IsWithinLimits}
use Rattle.jd_sequent.specs.Obligations.{PlainTask}
use Rattle.jd_first_tasks.specs.Tasks.{IsFirstTask}

-- they have trees, whose classes are a program's, and of their bodies and JML no token is refused
pub record AreProgramFiles (files : List (List ℕ)) : Type 0 where
  pub units : List JavaUnit
  pub trees : AreTrees files units
  pub stand : AreClasses units
  pub none : IsFirst units None

-- this is the task of their program, and its sequent is within the limits
pub record AreProgram (files : List (List ℕ)) (q : PlainTask) : Type 0 where
  pub resolved : AreProgramFiles files
  pub task : IsFirstTask resolved.units q
  pub within : IsWithinLimits q.obligation.sequent

-- of some files
pub record IsTaskOfFiles (q : PlainTask) : Type 0 where
  pub files : List (List ℕ)
  pub are : AreProgram files q

abbrev pub obligation_name : PlainTask → List ℕ
obligation_name q = q.obligation.name

abbrev pub obligation_sequent : PlainTask → PlainSequent
obligation_sequent q = q.obligation.sequent
