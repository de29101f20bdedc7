-- The form of a program, by what it declares.
use Rattle.std.proofs.Common.{◌≡◌, Bool, true, false, true≢false, List, sym, ap, ◌∙◌}
use Rattle.jd_syntax.specs.JavaTrees.{JavaUnit}
use Rattle.jd_jclasses.specs.Refusals.{AreClasses}
use Rattle.jd_classes.specs.Tables.{AreTables}
use Rattle.jd_classes.specs.declared.classes.Classes.{Classes}
use Rattle.jd_bodies.specs.Declarations.{AreDeclarations, Declarations}
use Rattle.jd_declaration_laws.specs.Laws.{DeclarationsAreOne}
use Rattle.jd_sequent.specs.Obligations.{PlainTask}
use Rattle.jd_jml_meaning.specs.JmlCases.{JmlProgram}
use Rattle.jd_programs.specs.Programs.{IsProgram}
use Rattle.jd_program_laws.specs.Laws.{ProgramsHaveMeanings}
use Rattle.jd_first_form.specs.Forms.{is_first_form}
use Rattle.jd_first_tasks.specs.Tasks.{IsFirstTask}

-- a program with these declarations
pub program_of : DeclarationsAreOne → ProgramsHaveMeanings → (units : List JavaUnit) (t : Classes) → AreTables units t → (d : Declarations) → AreDeclarations units d → (j : JmlProgram) × (is : IsProgram units j) × (is.declarations ≡ d)
program_of law meaning units t tables d are =
    let p = meaning units t tables d are in
    (p.0, p.1, law units tables.stand p.1.declarations d p.1.are_declarations are)

module _ (law : DeclarationsAreOne) (units : List JavaUnit) (stand : AreClasses units) (d : Declarations) (are : AreDeclarations units d) where
  pub form_of : (j : JmlProgram) (is : IsProgram units j) (found : Bool) → found ≡ is_first_form d units → found ≡ true → is_first_form is.declarations units ≡ true
  form_of j is found told e = ap (λ x. is_first_form x units) (law units stand is.declarations d is.are_declarations are) ∙ sym told ∙ e

  pub refused : (found : Bool) → found ≡ is_first_form d units → found ≡ false → (q : PlainTask) → IsFirstTask units q → ⊥
  refused found told e q task =
      true≢false (sym (told ∙ ap (λ x. is_first_form x units) (law units stand d task.is_program.declarations are task.is_program.are_declarations) ∙ task.form) ∙ e)
