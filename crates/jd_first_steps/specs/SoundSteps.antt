-- What is claimed of the first rules' steps: where the premises are valid, the sequent is.
use Rattle.std.specs.Prelude.{◌≡◌, ◌↔◌, ℕ, ℤ, List, [], ◌∷◌, map, Some}
use Rattle.jd_syntax.specs.Codes.{PlainCode}
use Rattle.jd_term.specs.declared.formula.Modality.{Modality}
use Rattle.jd_term.specs.Formulas.{Pairs, PlainFormula, Updated, Modal}
use Rattle.jd_heap.specs.Values.{Value}
use Rattle.jd_model.specs.Contexts.{Context, fill}
use Rattle.jd_model.specs.States.{State}
use Rattle.jd_model.specs.Runs.{exec_at}
use Rattle.jd_model.specs.TermValues.{updated}
use Rattle.jd_model.specs.Truth.{Setting, Truth}
use Rattle.jd_model.specs.declared.sequent.Side.{Side}
use Rattle.jd_model.specs.declared.sequent.Side.TheVariants.{Left, Right}
use Rattle.jd_model.specs.Sequents.{PlainSequent, PlainPlace}
use Rattle.jd_model.specs.Places.{FormulaPart, on_side, numbered, at_place, put_at}
use Rattle.jd_model.specs.Validity.{AllTrue, AllFalse, Valid, AllValid}
use Rattle.jd_update_truth.specs.SortedFormulas.{SortedSequent}
use Rattle.jd_sequent.specs.Trees.{PlainStep}
use Rattle.jd_sequent.specs.Obligations.{PlainTask}
use Rattle.jd_sequent.specs.TaskMeaning.{StepIsSound}
use Rattle.jd_first_steps.specs.Rows.{Goal, goal_premise}
use Rattle.jd_first_steps.specs.Instances.{IsInstance}

-- where all premises are valid, the sequent is, whatever the program, the depth of calls and the entry measure
abbrev pub IsValidStep : PlainSequent → List PlainSequent → Type 0
IsValidStep s ps = (g : Setting) (d : ℕ) (m : ℤ) → AllValid g d m ps → Valid g d m s

-- two formulas have the same truth, whatever the program, the states and the bound values
abbrev pub SameTruth : PlainFormula → PlainFormula → Type 0
SameTruth a c = (g : Setting) (d : ℕ) (i s : State) (b : List Value) → Truth g d i s b a ↔ Truth g d i s b c

module _ (g : Setting) (d : ℕ) (i s : State) (b : List Value) where
  -- a formula of this side is refuted: it is true on the left, or false on the right
  abbrev pub IsRefuted : Side → PlainFormula → Type 0
  IsRefuted Left a = Truth g d i s b a
  IsRefuted Right a = ¬ (Truth g d i s b a)

  -- the formulas of a goal are not all refuted
  abbrev pub GoalHolds : Side → Goal → Type 0
  GoalHolds Left q = ¬ (AllTrue g d i s b q.here × AllFalse g d i s b q.other)
  GoalHolds Right q = ¬ (AllFalse g d i s b q.here × AllTrue g d i s b q.other)

  abbrev pub GoalsHold : Side → List Goal → Type 0
  GoalsHold side [] = Unit {0}
  GoalsHold side (q ∷ qs) = GoalHolds side q × GoalsHold side qs

-- where the whole formula is refuted, so is a goal
abbrev pub IsTakenApart : Side → PlainFormula → List Goal → Type 0
IsTakenApart side a goals = (g : Setting) (d : ℕ) (i s : State) → IsRefuted g d i s [] side a → ¬ (GoalsHold g d i s [] side goals)

-- goals may be put for a whole formula that is so taken apart
abbrev pub RowsAreSound : Type 0
RowsAreSound = (q : PlainSequent) (side : Side) (number : ℕ) (a : PlainFormula) (goals : List Goal) → numbered (on_side q side) number ≡ Some a → IsTakenApart side a goals → IsValidStep q (map (goal_premise q side number) goals)

-- a formula of the same truth may be put at any place
abbrev pub RewritingIsSound : Type 0
RewritingIsSound = (q : PlainSequent) (place : PlainPlace) (before after : PlainFormula) → at_place q place ≡ Some (FormulaPart before) → SameTruth before after → IsValidStep q (put_at q place after ∷ [])

-- in each state the one code runs as the other does after the update
abbrev pub RunsAfter : Pairs → PlainCode → PlainCode → Type 0
RunsAfter u c e = (g : Setting) (i s : State) (b : List Value) (depth turns : ℕ) → exec_at g.program depth turns c s ≡ exec_at g.program depth turns e (updated i s b u s)

-- code at a focus may be put for other code, alone or with an update before the modality
pub record FocusKeepsTruth : Type 0 where
  pub alone : (m : Modality) (k : Context) (c e : PlainCode) (a : PlainFormula) → RunsAfter [] c e → SameTruth (Modal m (fill k c) a) (Modal m (fill k e) a)
  pub after_update : (m : Modality) (k : Context) (u : Pairs) (c e : PlainCode) (a : PlainFormula) → RunsAfter u c e → SameTruth (Modal m (fill k c) a) (Updated u (Modal m (fill k e) a))

-- each instance of the twelve rules, in a sorted sequent
abbrev pub InstancesAreSound : Type 0
InstancesAreSound = (t : PlainTask) (s : PlainSequent) (p : PlainStep) (ps : List PlainSequent) → SortedSequent s → IsInstance s p ps → StepIsSound t s ps

-- in others `simplify` would be unsound: its instances need not have updates whose right sides have the variables' sorts
abbrev pub SimplifyNeedsPremise : Type 0
SimplifyNeedsPremise = (g : Setting) (d : ℕ) (m : ℤ) → ¬ ((s : PlainSequent) (p : PlainStep) (ps : List PlainSequent) → IsInstance s p ps → AllValid g d m ps → Valid g d m s)
