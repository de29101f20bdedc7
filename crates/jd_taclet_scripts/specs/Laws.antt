-- Steps of scripts are steps of rows, and sound.
use Rattle.std.specs.Prelude.{List, Some, ◌≡◌, ◌∷◌, ◌⊎◌, []}
use Rattle.jd_model.specs.Cases.{Case, SpecifiedProgram}
use Rattle.jd_model.specs.Sequents.{PlainSequent}
use Rattle.jd_patterns.specs.Patterns.{FormulaPattern, TermPattern}
use Rattle.jd_sequent.specs.Obligations.{PlainTask}
use Rattle.jd_sequent.specs.TaskMeaning.{StepIsSound, TaskStandsFor}
use Rattle.jd_sequent.specs.Trees.{PlainStep}
use Rattle.jd_taclet_scripts.specs.Steps.{IsStepOfRow, IsTacletStep}
use Rattle.jd_taclet_steps.specs.Steps.{IsClosed, StepOf, only_goal}
use Rattle.jd_taclets.specs.Taclets.{AllMean, AtFormula, AtTerm, FormulaFind, Pattern, Taclet, TermFind}

-- a row at a formula or a term has one goal: a replacement of the kind of what it finds
abbrev pub HasOneGoal : Taclet → Pattern → Type 0
HasOneGoal r (FormulaFind a) = (c : FormulaPattern) × (r.goals ≡ only_goal (FormulaFind c))
HasOneGoal r (TermFind t) = (u : TermPattern) × (r.goals ≡ only_goal (TermFind u))

abbrev pub IsInShape : Taclet → Type 0
IsInShape r = (f : Pattern) → r.find ≡ Some f → (r.kind ≡ AtFormula) ⊎ (r.kind ≡ AtTerm) → HasOneGoal r f

abbrev pub AllInShape : List Taclet → Type 0
AllInShape [] = Unit {0}
AllInShape (r ∷ rs) = IsInShape r × AllInShape rs

-- in a program that the task's tables stand for
abbrev pub TacletStepsAreSteps : Type 0
TacletStepsAreSteps =
    (r : Taclet) → IsInShape r → (t : PlainTask) (s : PlainSequent) (step : PlainStep) (premises : List PlainSequent) → IsStepOfRow r t s step premises
    → (p : SpecifiedProgram) (c : Case) → TaskStandsFor t p c → StepOf p.setting r s premises

abbrev pub TacletStepsAreSound : Type 0
TacletStepsAreSound =
    (rows : List Taclet) → AllMean rows → AllInShape rows → (t : PlainTask) (s : PlainSequent) → IsClosed s
    → (step : PlainStep) (premises : List PlainSequent) → IsTacletStep rows t s step premises → StepIsSound t s premises
