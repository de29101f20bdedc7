-- Premises within the limits, or past them.
use Rattle.std.proofs.Common.{All, List, MatchResult, map, subst, sym, ◌≡◌}
use Rattle.std.specs.Global.{Vec}
use Rattle.std.specs.declared.result.Result.{Result}
use Rattle.std.specs.declared.result.Result.TheVariants.{Err, Ok}
use Rattle.jd_model.specs.Sequents.{PlainSequent, sequent_view}
use Rattle.jd_model.specs.declared.sequent.Sequent.{Sequent}
use Rattle.jd_sequent.specs.Limits.{IsWithinLimits}
use Rattle.jd_sequent.specs.Obligations.{PlainTask}
use Rattle.jd_sequent.specs.Rules.{IsCaused}
use Rattle.jd_sequent.specs.Trees.{PlainStep}
use Rattle.jd_sequent.specs.declared.bad.Bad.{Bad}
use Rattle.jd_sequent.specs.declared.bad.Bad.TheVariants as bads
use Rattle.jd_taclet_scripts.specs.Causes.{RowCause}
use Rattle.jd_taclet_scripts.specs.Steps.{IsStepOfRow}
use Rattle.jd_taclets.specs.Taclets.{Taclet}
use Rattle.jd_table_steps.proofs.Causing.{only_last}
use Rattle.jd_taclet_rules.specs.Premises.{IsAnswerOfRow, IsPast}

module _ (r : Taclet) (t : PlainTask) (s : PlainSequent) (step : PlainStep) (ps : List PlainSequent) (is : IsStepOfRow r t s step ps) where
  past : (b : Bad) → IsPast ps b → IsCaused (RowCause r t s step) b
  past bads.TooLarge h = only_last r t s step ps is h
  past bads.NoMemory h = tt
  past b h = absurd h

  pub concludes : (x : Result (Vec Sequent) Bad) → MatchResult x (λ v. (map sequent_view v.items ≡ ps) × All IsWithinLimits ps) (λ b. IsPast ps b) → IsAnswerOfRow r t s step x
  concludes (Ok v) h = (subst (IsStepOfRow r t s step) (sym h.0) is, subst (All IsWithinLimits) (sym h.0) h.1)
  concludes (Err b) h = past b h
