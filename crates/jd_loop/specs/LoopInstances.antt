-- The instances of the loop rule.
use Rattle.std.specs.Prelude.{◌≡◌, ℕ, ◌+◌, ◌<◌, ◌^◌, ◌==◌, if◌then◌else◌, Option, Some, None, List, [], ◌∷◌, length}
use Rattle.jd_syntax.specs.AssignedVariables.{assigned_in_loop}
use Rattle.jd_syntax.specs.Codes.{Expr, While, PlainCode}
use Rattle.jd_term.specs.declared.formula.Modality.{Modality}
use Rattle.jd_term.specs.declared.formula.Modality.TheVariants as modalities
use Rattle.jd_term.specs.Terms.{PlainTerm}
use Rattle.jd_term.specs.Formulas.{PlainFormula, Modal}
use Rattle.jd_model.specs.Sequents.{PlainSequent, PlainPlace}
use Rattle.jd_model.specs.Contexts.{Context}
use Rattle.jd_model.specs.Places.{put_at}
use Rattle.jd_model.specs.UpdatePlaces.{IsUpdatePlace}
use Rattle.jd_model.specs.InnermostFocus.{innermost_focus}
use Rattle.jd_model.specs.Occurrences.{AllOf}
use Rattle.jd_model.specs.Bodies.{NotHeap}
use Rattle.jd_sequent.specs.Obligations.{PlainLoop, PlainTask}
use Rattle.jd_sequent.specs.Freshness.{IsNewVariable, IsNewConstant}
use Rattle.jd_loop.specs.LoopNames.{new_variables, new_constants, loop_names}
use Rattle.jd_loop.specs.LoopPremises.{first_premise, second_premise}

-- the loop of a number
abbrev pub loop_numbered : List PlainLoop → ℕ → Option PlainLoop
loop_numbered [] j = None
loop_numbered (f ∷ fs) j = if f.number == j then Some f else loop_numbered fs j

-- a diamond's loop has a variant
abbrev pub HasVariant : Modality → Option PlainTerm → Type 0
HasVariant modalities.Necessity v = Unit {0}
HasVariant modalities.Possibility None = ⊥
HasVariant modalities.Possibility (Some v) = Unit {0}

-- at the place stands a modality, and at its innermost focus one of the obligation's loops; the new names of the number n are
-- new; and the premises are the sequent with the first and with the second formula at the place
pub record IsLoopInstance (t : PlainTask) (s : PlainSequent) (p : PlainPlace) (n : ℕ) (premises : List PlainSequent) : Type 0 where
  pub modality : Modality
  pub code : PlainCode
  pub formula : PlainFormula
  pub at_place : IsUpdatePlace s p (Modal modality code formula)
  pub context : Context
  pub number : ℕ
  pub test : Expr
  pub body : PlainCode
  pub at_focus : innermost_focus code ≡ Some (context, While number test body)
  pub loop : PlainLoop
  pub of_obligation : loop_numbered t.obligation.loops number ≡ Some loop
  pub has_variant : HasVariant modality loop.variant
  -- code has variables of the sorts Int, Bool and Ref alone, and fewer than the 64-bit numbers that are printed
  pub assigns_no_heap : AllOf NotHeap (assigned_in_loop test body)
  pub few : 1 + length (assigned_in_loop test body) < 2 ^ 64
  pub variables_new : AllOf (IsNewVariable s) (new_variables (loop_names n test body))
  pub constants_new : AllOf (IsNewConstant t.obligation s) (new_constants (loop_names n test body))
  pub premises_are : premises ≡
      put_at s p (first_premise t.obligation.vars loop (loop_names n test body))
      ∷ put_at s p (second_premise modality t.obligation.vars loop (loop_names n test body) context test body formula)
      ∷ []
