-- Premises made of what a row's goals say: first what each goal says, and then each in the sequent.
use Rattle.std.specs.Prelude.{Bool, List, None, Option, Some, cond, length, map, option_map, ◌<◌, ◌≡◌, ◌≤◌}
use Rattle.jd_model.specs.Places.{IsFormulaPlace, on_side, put_at}
use Rattle.jd_model.specs.Programs.{Program}
use Rattle.jd_model.specs.Sequents.{PlainPlace, PlainSequent}
use Rattle.jd_patterns.specs.Instances.{Instance, of_formula, of_term}
use Rattle.jd_taclet_scripts.specs.Steps.{premises_of, replaced_at}
use Rattle.jd_taclet_steps.specs.PutTerms.{put_term_at}
use Rattle.jd_taclet_steps.specs.Steps.{extended}
use Rattle.jd_taclets.specs.Taclets.{AtFormula, AtTerm, FormulaFind, Pattern, TacletGoal, TacletKind, TermFind, added}
use Rattle.jd_term.specs.Formulas.{PlainFormula}
use Rattle.jd_term.specs.Terms.{PlainTerm}

-- ---- what goals say

-- what stands in the place of what was found
pub data Replacement : Type 0 where
  WithFormula : PlainFormula → Replacement
  WithTerm : PlainTerm → Replacement

-- whether the found formula stays, what stands in its place, and the formulas that are added
pub record PlainGoal : Type 0 where
  pub keep : Bool
  pub replace : Option Replacement
  pub added : PlainSequent

module _ (p : Program) (σ : Instance) where
  abbrev pub replacement_of : Pattern → Replacement
  replacement_of (FormulaFind a) = WithFormula (of_formula p σ a)
  replacement_of (TermFind t) = WithTerm (of_term p σ t)

  abbrev pub goal_of : TacletGoal → PlainGoal
  goal_of n = record { keep = n.keep; replace = option_map replacement_of n.replace; added = added p σ n }

-- ---- premises

abbrev pub with_replacement : PlainSequent → PlainPlace → Option Replacement → PlainSequent
with_replacement s q None = s
with_replacement s q (Some (WithFormula a)) = put_at s q a
with_replacement s q (Some (WithTerm t)) = put_term_at s q t

abbrev pub premise_at : TacletKind → PlainSequent → PlainPlace → PlainGoal → PlainSequent
premise_at AtFormula s q n = with_replacement s q n.replace
premise_at AtTerm s q n = with_replacement s q n.replace
premise_at k s q n = cond n.keep (extended s n.added) (replaced_at q.side q.index s n.added)

abbrev pub premise_of : TacletKind → PlainSequent → Option PlainPlace → PlainGoal → PlainSequent
premise_of k s None n = extended s n.added
premise_of k s (Some q) n = premise_at k s q n

-- the place is one of the sequent's: of a formula, where one stands in its place
abbrev pub CanTake : PlainSequent → PlainPlace → Option Replacement → Type 0
CanTake s q (Some (WithFormula a)) = IsFormulaPlace s q
CanTake s q r = (0 < q.index) × (q.index ≤ length (on_side s q.side))

abbrev pub StandsIn : PlainSequent → Option PlainPlace → PlainGoal → Type 0
StandsIn s None n = Unit {0}
StandsIn s (Some q) n = ((0 < q.index) × (q.index ≤ length (on_side s q.side))) × CanTake s q n.replace

-- ---- the law

abbrev pub PremisesAreMadeOfGoals : Type 0
PremisesAreMadeOfGoals =
    (p : Program) (σ : Instance) (s : PlainSequent) (k : TacletKind) (place : Option PlainPlace) (ns : List TacletGoal)
    → premises_of p σ s k place ns ≡ map (premise_of k s place) (map (goal_of p σ) ns)
