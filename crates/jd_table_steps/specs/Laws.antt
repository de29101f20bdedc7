-- What a set of rules promises, of the steps by the rows of a table.
use Rattle.std.specs.Prelude.{All, List, Some, length, ◌<◌, ◌≡◌, ◌^◌, ℕ}
use Rattle.jd_model.specs.Sequents.{PlainSequent}
use Rattle.jd_sequent.specs.Obligations.{PlainTask, names_of}
use Rattle.jd_sequent.specs.Rules.{LeadsWithinLimits}
use Rattle.jd_sequent.specs.TaskMeaning.{StepIsSound}
use Rattle.jd_sequent.specs.Trees.{PlainStep}
use Rattle.jd_spelled_trees.specs.Places.{IsSpelledSequent}
use Rattle.jd_taclet_scripts.specs.Causes.{TacletCause}
use Rattle.jd_taclet_scripts.specs.Steps.{IsTacletStep, row_named}
use Rattle.jd_taclets.specs.Taclets.{Taclet}
use Rattle.jd_table_steps.specs.Tables.{AreSpelledRules}
use Rattle.jd_table_steps.specs.Usable.{IsUsable}

pub record IsRuleTable (rows : List Taclet) : Type 0 where
  pub usable : (t : PlainTask) (s : PlainSequent) → IsSpelledSequent (names_of t) s → (p : PlainStep) (r : Taclet) → row_named rows p.rule ≡ Some r → IsUsable r t s p
  pub sound : (t : PlainTask) (s : PlainSequent) (p : PlainStep) (ps : List PlainSequent) → IsSpelledSequent (names_of t) s → IsTacletStep rows t s p ps → StepIsSound t s ps
  pub keeps : (t : PlainTask) (s : PlainSequent) (p : PlainStep) (ps : List PlainSequent) → IsSpelledSequent (names_of t) s → LeadsWithinLimits (IsTacletStep rows t) s p ps → All (IsSpelledSequent (names_of t)) ps
  pub has_no_cause : (t : PlainTask) (s : PlainSequent) (p : PlainStep) (ps : List PlainSequent) (n : ℕ) → LeadsWithinLimits (IsTacletStep rows t) s p ps → TacletCause rows t s p n → ⊥
  pub one_way : (t : PlainTask) (s : PlainSequent) (p : PlainStep) (ps qs : List PlainSequent) → IsTacletStep rows t s p ps → IsTacletStep rows t s p qs → ps ≡ qs
  pub few : (t : PlainTask) (s : PlainSequent) (p : PlainStep) (ps : List PlainSequent) → IsTacletStep rows t s p ps → length ps < 2 ^ 32

abbrev pub TableStepsAreRuleSteps : Type 0
TableStepsAreRuleSteps = (rows : List Taclet) → AreSpelledRules rows → IsRuleTable rows
