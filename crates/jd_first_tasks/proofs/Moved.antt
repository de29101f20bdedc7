-- The task is the same over any program that the files mean.
use Rattle.std.proofs.Common.{◌≡◌, ℕ, true, List, [], Option, Some, option_map, sym, ap, ap₂, ◌∙◌}
use Rattle.std.specs.List.{slice_get}
use Rattle.std.proofs.lemmas.Option.{same_Some}
use Rattle.jd_syntax.specs.JavaTrees.{JavaUnit}
use Rattle.jd_jclasses.specs.Refusals.{AreClasses}
use Rattle.jd_bodies.specs.Declarations.{Declarations}
use Rattle.jd_declaration_laws.specs.Laws.{DeclarationsAreOne}
use Rattle.jd_model.specs.Programs.{Body, Program}
use Rattle.jd_sequent.specs.Obligations.{PlainObligation, PlainTask}
use Rattle.jd_jml_meaning.specs.JmlCases.{JmlCase, JmlProgram}
use Rattle.jd_jml_meaning.specs.Resolved.{JmlExpr}
use Rattle.jd_programs.specs.Cases.{all_cases}
use Rattle.jd_programs.specs.Programs.{IsProgram}
use Rattle.jd_program_laws.specs.TaskClasses.{AreClassesOf, ClassesAreOne}
use Rattle.jd_listed_tables.specs.Listed.{fields_along, tables}
use Rattle.jd_case_obligations.specs.Listed.{case_obligation, variables_of_body}
use Rattle.jd_one_program.specs.Laws.{ProgramsAreOne}
use Rattle.jd_first_form.specs.Forms.{is_first_form}
use Rattle.jd_first_tasks.specs.Tasks.{IsFirstTask}
use Rattle.jd_first_tasks.proofs.Alike.{alike_there, same_first, without_family}

abbrev pub obligation_by : List JavaUnit → Declarations → Program → JmlCase → Body → PlainObligation
obligation_by units d p c b = case_obligation units p (fields_along units p.superclasses) c b (variables_of_body units d c.body) []

-- the task of a program's first case
pub record IsTaskOf (units : List JavaUnit) (d : Declarations) (j : JmlProgram) (q : PlainTask) : Type 0 where
  pub form : is_first_form d units ≡ true
  pub classes : AreClassesOf units q.classes
  pub contracts : q.contracts ≡ tables units d j.program j.own
  pub case : JmlCase
  pub first : j.case 0 ≡ Some case
  pub body : Body
  pub runs : j.program.body case.body ≡ Some body
  pub obligation : q.obligation ≡ obligation_by units d j.program case body

-- by equations
same_tables : (units : List JavaUnit) (d e : Declarations) (p r : Program) (v w : ℕ → List JmlExpr) → d ≡ e → p ≡ r → v ≡ w → tables units d p v ≡ tables units e r w
same_tables units d e p r v w ds ps vs = ap (λ x. tables units x p v) ds ∙ ap (λ x. tables units e x v) ps ∙ ap (tables units e r) vs

same_obligation : (units : List JavaUnit) (d e : Declarations) (p r : Program) (c k : JmlCase) (b : Body) → d ≡ e → p ≡ r → without_family c ≡ without_family k → obligation_by units d p c b ≡ obligation_by units e r k b
same_obligation units d e p r c k b ds ps cs =
    ap (λ x. obligation_by units x p (without_family c) b) ds ∙ ap (λ x. obligation_by units e x (without_family c) b) ps ∙ ap (λ x. obligation_by units e r x b) cs

module _ (law : DeclarationsAreOne) (one : ProgramsAreOne) (units : List JavaUnit) (are : AreClasses units) (q : PlainTask) (t : IsFirstTask units q) (j : JmlProgram) (is : IsProgram units j) where
  declared : t.is_program.declarations ≡ is.declarations
  declared = law units are t.is_program.declarations is.declarations t.is_program.are_declarations is.are_declarations

  programs : (t.program.program ≡ j.program) × (t.program.own ≡ j.own)
  programs = one units are t.program j t.is_program is

  alike_first : option_map without_family (j.case 0) ≡ Some (without_family t.case)
  alike_first =
      ap (option_map without_family) (is.cases 0)
      ∙ same_first units j.program.superclasses is.declarations is.family t.is_program.family
      ∙ ap (λ (p : Program). option_map without_family (slice_get (all_cases units p.superclasses is.declarations t.is_program.family) 0)) (sym programs.0)
      ∙ ap (λ d. option_map without_family (slice_get (all_cases units t.program.program.superclasses d t.is_program.family) 0)) (sym declared)
      ∙ ap (option_map without_family) (sym (t.is_program.cases 0) ∙ t.first)

  pub moved : IsTaskOf units is.declarations j q
  moved =
      let c = alike_there (j.case 0) (without_family t.case) alike_first in
      record {
        form = ap (λ d. is_first_form d units) (sym declared) ∙ t.form;
        classes = t.classes;
        contracts = t.contracts ∙ same_tables units t.is_program.declarations is.declarations t.program.program j.program t.program.own j.own declared programs.0 programs.1;
        case = c.0;
        first = c.1;
        body = t.body;
        runs = ap (λ (x : JmlCase). j.program.body x.body) c.2 ∙ ap (λ (p : Program). p.body t.case.body) (sym programs.0) ∙ t.runs;
        obligation = t.obligation ∙ same_obligation units t.is_program.declarations is.declarations t.program.program j.program t.case c.0 t.body declared programs.0 (sym c.2);
      }

-- two tasks of one program
same_body : (f : ℕ → Option Body) (c k : JmlCase) (a b : Body) → c ≡ k → f c.body ≡ Some a → f k.body ≡ Some b → a ≡ b
same_body f c k a b e u v = same_Some a b (sym u ∙ ap (λ (x : JmlCase). f x.body) e ∙ v)

of_one : ClassesAreOne → (units : List JavaUnit) (d : Declarations) (j : JmlProgram) (q r : PlainTask) → IsTaskOf units d j q → IsTaskOf units d j r → q ≡ r
of_one classes units d j q r s t =
    let cases = same_Some s.case t.case (sym s.first ∙ t.first) in
    let bodies = same_body j.program.body s.case t.case s.body t.body cases s.runs t.runs in
    λ i. record {
      classes = classes units q.classes r.classes s.classes t.classes i;
      contracts = (s.contracts ∙ sym t.contracts) i;
      obligation = (s.obligation ∙ ap₂ (λ c b. obligation_by units d j.program c b) cases bodies ∙ sym t.obligation) i;
    }

pub one_task : DeclarationsAreOne → ProgramsAreOne → ClassesAreOne → (units : List JavaUnit) → AreClasses units → (q r : PlainTask) → IsFirstTask units q → IsFirstTask units r → q ≡ r
one_task law one classes units are q r s t =
    of_one classes units s.is_program.declarations s.program q r (moved law one units are q s s.program s.is_program) (moved law one units are r t s.program s.is_program)
