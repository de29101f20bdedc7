-- What the Java files are found to be.
use Rattle.std.specs.Prelude.{ℕ, List}
use Rattle.jd_files.specs.Files.{HaveTables}
use Rattle.jd_made_tasks.specs.Answers.{made_view}
use Rattle.jd_answer.specs.FileAnswers.{IsRefusal}
use Rattle.jd_answer.specs.Sources.{AreProgram}
use Rattle.jd_answer.specs.declared.answer.Understood.{Understood}
use Rattle.jd_answer.specs.declared.answer.Understood.TheVariants as code

-- a program with its task and the tables of its classes, or that they are none
abbrev pub IsUnderstood : List (List ℕ) → List (List ℕ) → Understood → Type 0
IsUnderstood names files (code.Program m classes) = AreProgram files (made_view classes m) × HaveTables files classes
IsUnderstood names files (code.Refused a) = IsRefusal names files a.status a.text.items
