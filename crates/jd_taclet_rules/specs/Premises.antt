-- What a step by a row leads to.
use Rattle.std.specs.Prelude.{All, IfOk, List, MatchResult, map, ◌≡◌}
use Rattle.std.specs.Global.{Vec}
use Rattle.std.specs.declared.result.Result.{Result}
use Rattle.jd_base.specs.declared.memory.NoMemory.{NoMemory}
use Rattle.jd_model.specs.Sequents.{PlainSequent, sequent_view}
use Rattle.jd_model.specs.declared.sequent.Sequent.{Sequent}
use Rattle.jd_sequent.specs.Limits.{IsWithinLimits}
use Rattle.jd_sequent.specs.Obligations.{PlainTask}
use Rattle.jd_sequent.specs.Rules.{IsCaused, LeadsWithinLimits}
use Rattle.jd_sequent.specs.Trees.{PlainStep}
use Rattle.jd_sequent.specs.declared.bad.Bad.{Bad}
use Rattle.jd_sequent.specs.declared.bad.Bad.TheVariants as bads
use Rattle.jd_taclet_scripts.specs.Causes.{RowCause}
use Rattle.jd_taclet_scripts.specs.Steps.{IsStepOfRow}
use Rattle.jd_taclets.specs.Taclets.{Taclet}

-- `Ok` where the step is one of the row and its premises are within the limits, else the least cause
abbrev pub IsAnswerOfRow : Taclet → PlainTask → PlainSequent → PlainStep → Result (Vec Sequent) Bad → Type 0
IsAnswerOfRow r t s step x = MatchResult x
    (λ v. LeadsWithinLimits (IsStepOfRow r t) s step (map sequent_view v.items))
    (λ b. IsCaused (RowCause r t s step) b)

-- why premises are refused: one passes a limit, or memory ran out
abbrev pub IsPast : List PlainSequent → Bad → Type 0
IsPast ps bads.TooLarge = All IsWithinLimits ps → ⊥
IsPast ps bads.NoMemory = Unit {0}
IsPast ps b = ⊥

-- the premises that were made, where all are within the limits
abbrev pub AreWithin : Result (Vec Sequent) NoMemory → Result (Vec Sequent) Bad → Type 0
AreWithin made x = (ps : List PlainSequent) → IfOk made (λ v. map sequent_view v.items ≡ ps)
    → MatchResult x (λ v. (map sequent_view v.items ≡ ps) × All IsWithinLimits ps) (λ b. IsPast ps b)
