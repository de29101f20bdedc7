-- When a row can be used in a step at a sequent.
use Rattle.std.specs.Prelude.{true, ◌≡◌}
use Rattle.jd_model.specs.Sequents.{PlainSequent}
use Rattle.jd_patterns.specs.Instances.{Instance}
use Rattle.jd_sequent.specs.Obligations.{PlainTask}
use Rattle.jd_sequent.specs.Trees.{PlainStep}
use Rattle.jd_spelled_steps.specs.Rows.{GoalsHaveInstances}
use Rattle.jd_taclet_scripts.specs.Causes.{IsAdmittedBy}
use Rattle.jd_taclet_scripts.specs.Laws.{IsInShape}
use Rattle.jd_taclet_stages.specs.Laws.{AreMet}
use Rattle.jd_taclet_stages.specs.Ready.{is_ready}
use Rattle.jd_taclets.specs.Taclets.{AreFinds, IsFind, Taclet}
use Rattle.jd_told_programs.specs.Told.{told_setting}

-- its steps can be worked out, and there its conditions on all that is spelled hold, and each pattern of its goals has its instance
pub record IsUsable (r : Taclet) (t : PlainTask) (s : PlainSequent) (step : PlainStep) : Type 0 where
  pub ready : is_ready r ≡ true
  pub find : IsFind r.find
  pub finds : AreFinds r.assumes
  pub shape : IsInShape r
  pub met : AreMet r t s step
  pub have : (σ : Instance) → IsAdmittedBy r t s step σ → GoalsHaveInstances (told_setting t).program σ r.goals
