-- The task of a program that has an obligation by now.
use Rattle.std.specs.Prelude.{◌≡◌, true, List, [], Some}
use Rattle.jd_syntax.specs.JavaTrees.{JavaUnit}
use Rattle.jd_model.specs.Programs.{Body}
use Rattle.jd_sequent.specs.Obligations.{PlainTask}
use Rattle.jd_jml_meaning.specs.JmlCases.{JmlCase, JmlProgram}
use Rattle.jd_programs.specs.Programs.{IsProgram}
use Rattle.jd_program_laws.specs.TaskClasses.{AreClassesOf}
use Rattle.jd_listed_tables.specs.Listed.{fields_along, tables}
use Rattle.jd_case_obligations.specs.Listed.{case_obligation, variables_of_body}
use Rattle.jd_first_form.specs.Forms.{is_first_form}

-- the classes and the tables are those of the program that the files mean, and the obligation is that of its first case
pub record IsFirstTask (units : List JavaUnit) (q : PlainTask) : Type 0 where
  pub program : JmlProgram
  pub is_program : IsProgram units program
  pub form : is_first_form is_program.declarations units ≡ true
  pub classes : AreClassesOf units q.classes
  pub contracts : q.contracts ≡ tables units is_program.declarations program.program program.own
  pub case : JmlCase
  pub first : program.case 0 ≡ Some case
  pub body : Body
  pub runs : program.program.body case.body ≡ Some body
  pub obligation : q.obligation ≡ case_obligation units program.program (fields_along units program.program.superclasses) case body (variables_of_body units is_program.declarations case.body) []
