-- The steps of a script by the rows of a table (The KeY Book, 4.2.3: application of taclets).
use Rattle.std.specs.Prelude.{List, None, Option, Some, cond, map, suc, zero, ◌++◌, ◌≡◌, ◌∷◌, ℕ, []}
use Rattle.std.specs.Str.{bytes_eq}
use Rattle.jd_model.specs.Places.{put_at}
use Rattle.jd_model.specs.Programs.{Program}
use Rattle.jd_model.specs.Sequents.{PlainPlace, PlainSequent}
use Rattle.jd_model.specs.declared.sequent.Side.{Side}
use Rattle.jd_model.specs.declared.sequent.Side.TheVariants.{Left, Right}
use Rattle.jd_patterns.specs.Instances.{Instance, of_formula, of_term}
use Rattle.jd_sequent.specs.Obligations.{PlainTask}
use Rattle.jd_sequent.specs.Trees.{PlainStep}
use Rattle.jd_taclet_scripts.specs.Given.{AreGiven, AreNewConstants, AreNewVariables}
use Rattle.jd_taclet_scripts.specs.Places.{AreAssumedAt, IsFoundAt, MayStandAt}
use Rattle.jd_taclet_steps.specs.PutTerms.{put_term_at}
use Rattle.jd_taclet_steps.specs.Steps.{extended}
use Rattle.jd_taclets.specs.Conditions.{AllHold}
use Rattle.jd_taclets.specs.Taclets.{AtFormula, AtTerm, FitAssumed, FitsFind, FormulaFind, Pattern, Taclet, TacletGoal, TacletKind, TermFind, added, new_constants, new_variables}
use Rattle.jd_told_programs.specs.Told.{told_setting}

-- the row of the name
abbrev pub row_named : List Taclet → List ℕ → Option Taclet
row_named [] name = None
row_named (r ∷ rs) name = cond (bytes_eq r.name name) (Some r) (row_named rs name)

-- ---- premises

-- a list with these in place of the one of a number, counted from 1
abbrev pub instead_of : {A : Type 0} → List A → ℕ → List A → List A
instead_of [] k new = []
instead_of (x ∷ xs) zero new = x ∷ xs
instead_of (x ∷ xs) (suc zero) new = new ++ xs
instead_of (x ∷ xs) (suc (suc k)) new = x ∷ instead_of xs (suc k) new

-- new formulas of the found one's side stand in its place, those of the other side at that side's end
abbrev pub replaced_at : Side → ℕ → PlainSequent → PlainSequent → PlainSequent
replaced_at Left k s n = record { left = instead_of s.left k n.left; right = s.right ++ n.right }
replaced_at Right k s n = record { left = s.left ++ n.left; right = instead_of s.right k n.right }

module _ (p : Program) (σ : Instance) (s : PlainSequent) where
  -- where the found formula stays, new formulas stand at the ends of both sides
  abbrev pub goal_at : PlainPlace → TacletGoal → PlainSequent
  goal_at q n = cond n.keep (extended s (added p σ n)) (replaced_at q.side q.index s (added p σ n))

  -- what was found is replaced
  abbrev pub with_replaced : PlainPlace → Option Pattern → PlainSequent
  with_replaced q None = s
  with_replaced q (Some (FormulaFind c)) = put_at s q (of_formula p σ c)
  with_replaced q (Some (TermFind u)) = put_term_at s q (of_term p σ u)

  abbrev pub premise_at : TacletKind → PlainPlace → TacletGoal → PlainSequent
  premise_at AtFormula q n = with_replaced q n.replace
  premise_at AtTerm q n = with_replaced q n.replace
  premise_at k q n = goal_at q n

  abbrev pub premises_of : TacletKind → Option PlainPlace → List TacletGoal → List PlainSequent
  premises_of k None goals = map (λ n. extended s (added p σ n)) goals
  premises_of k (Some q) goals = map (premise_at k q) goals

-- ---- steps

-- under some instantiation what the row finds stands at the step's place and what it assumes at the assumed ones, the conditions hold, what
-- is asked is given, names are new, and the premises are the sequent with what the row says
pub record IsStepOfRow (r : Taclet) (t : PlainTask) (s : PlainSequent) (step : PlainStep) (premises : List PlainSequent) : Type 0 where
  pub instance : Instance
  pub found : IsFoundAt (told_setting t).program instance s r.kind r.find step.place
  pub may_stand : MayStandAt r.assumes s step.place
  pub assumed : AreAssumedAt (told_setting t).program instance s step.place r.assumes step.assumes
  pub conds : AllHold (told_setting t) instance r.conds
  pub given : AreGiven t (told_setting t).program instance r.insts step.insts
  pub find_fits : FitsFind (told_setting t).program instance r.find
  pub assumed_fit : FitAssumed (told_setting t).program instance r.assumes
  pub constants_new : AreNewConstants t s (new_constants (told_setting t).program instance r.insts)
  pub variables_new : AreNewVariables t s (new_variables (told_setting t).program instance r.insts)
  pub premises_are : premises ≡ premises_of (told_setting t).program instance s r.kind step.place r.goals

pub record IsTacletStep (rows : List Taclet) (t : PlainTask) (s : PlainSequent) (step : PlainStep) (premises : List PlainSequent) : Type 0 where
  pub row : Taclet
  pub named : row_named rows step.rule ≡ Some row
  pub is_step : IsStepOfRow row t s step premises
