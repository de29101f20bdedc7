-- Steps of scripts are steps of rows, and those of sound rows are sound.
use Rattle.std.proofs.Common.{Bool, List, Some, cond, false, refl, subst, sym, true, ◌≡◌, ◌∷◌, ℕ, []}
use Rattle.std.specs.Str.{bytes_eq}
use Rattle.std.proofs.lemmas.Option.{none-some, same_Some}
use Rattle.jd_model.specs.Sequents.{PlainSequent}
use Rattle.jd_model.specs.SpecialNames.{entry_measure}
use Rattle.jd_sequent.specs.Obligations.{PlainTask}
use Rattle.jd_sequent.specs.TaskMeaning.{IsKnownConstant}
use Rattle.jd_sequent.specs.Trees.{PlainStep}
use Rattle.jd_taclet_scripts.proofs.Steps.{MeetsRow, all_asked, new_in, no_heap, no_measure, step_of}
use Rattle.jd_taclet_scripts.proofs.WithoutBodies.{with_bodies}
use Rattle.jd_taclet_scripts.specs.Laws.{AllInShape, IsInShape, TacletStepsAreSound, TacletStepsAreSteps}
use Rattle.jd_taclet_scripts.specs.Steps.{IsStepOfRow, row_named}
use Rattle.jd_taclet_steps.specs.Places.{PlacesAreSurrounded}
use Rattle.jd_taclet_steps.specs.PutTerms.{TermsAreReplaced}
use Rattle.jd_taclet_steps.specs.Steps.{StepOf, StepsOfSoundRowsAreSound}
use Rattle.jd_taclet_steps.specs.TermPlaces.{TermPlacesAreSurrounded}
use Rattle.jd_taclets.specs.Taclets.{AllMean, RowMeans, Taclet, new_constants, new_variables}
use Rattle.jd_tforms.specs.Laws.{Answers}
use Rattle.jd_told_programs.specs.Told.{ToldIsThat, told_setting}

module _ (surrounded : PlacesAreSurrounded) (terms : TermPlacesAreSurrounded) (put : TermsAreReplaced) (answers : Answers) where
  -- in the program that the task tells
  told_step : (r : Taclet) → IsInShape r → (t : PlainTask) (s : PlainSequent) (step : PlainStep) (premises : List PlainSequent) → IsStepOfRow r t s step premises → IsKnownConstant t.obligation entry_measure → StepOf (told_setting t) r s premises
  told_step r shape t s step premises is known =
      let g = told_setting t in
      let xs = new_variables g.program is.instance r.insts in
      let cs = new_constants g.program is.instance r.insts in
      let meets : MeetsRow surrounded terms put g r shape s is.instance = record {
        conds = is.conds;
        asked = all_asked answers t g.program is.instance r.insts step.insts is.given.each;
        find_fits = is.find_fits;
        assumed_fit = is.assumed_fit;
        new_in = new_in t s xs cs is.variables_new is.constants_new;
        no_heap = no_heap t s xs is.variables_new;
        no_measure = no_measure t s xs cs is.variables_new is.constants_new known;
      } in
      subst (StepOf g r s) (sym is.premises_are) (step_of surrounded terms put g r shape s is.instance meets step.assumes r.kind r.find step.place refl refl is.found is.may_stand is.assumed)

  pub steps_are_steps : ToldIsThat → TacletStepsAreSteps
  steps_are_steps told r shape t s step premises is p c task =
      with_bodies p.setting r s premises (subst (λ g. StepOf g r s premises) (told t p c task) (told_step r shape t s step premises is task.measure))

-- the row of a name is one of the rows
row_of : (rows : List Taclet) → AllMean rows → AllInShape rows → (name : List ℕ) (r : Taclet) → row_named rows name ≡ Some r → RowMeans r × IsInShape r
row_of [] m h name r e = absurd (none-some r e)
row_of (x ∷ rows) m h name r e = by (row_of rows m.1 h.1 name r) (bytes_eq x.name name) e
  where
    by : (row_named rows name ≡ Some r → RowMeans r × IsInShape r) → (b : Bool) → cond b (Some x) (row_named rows name) ≡ Some r → RowMeans r × IsInShape r
    by more true e = subst (λ z. RowMeans z × IsInShape z) (same_Some x r e) (m.0, h.0)
    by more false e = more e

pub steps_are_sound : TacletStepsAreSteps → StepsOfSoundRowsAreSound → TacletStepsAreSound
steps_are_sound steps sound rows means shapes t s closed step premises is p c task d m usable valid =
    let row = row_of rows means shapes step.rule is.row is.named in
    sound p.setting is.row s closed row.0 d m premises (steps is.row row.1 t s step premises is.is_step p c task) valid
