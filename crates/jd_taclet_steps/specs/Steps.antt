-- What a step of a row makes of a sequent, in a program: its premises (The KeY Book, 4.2.3: application of taclets). Places are said by
-- what surrounds them.
use Rattle.std.specs.Prelude.{◌≡◌, ◌⊎◌, ℕ, ℤ, false, cond, List, [], ◌∷◌, ◌++◌, Some, None}
use Rattle.jd_syntax.specs.Names.{Name}
use Rattle.jd_term.specs.Formulas.{PlainFormula}
use Rattle.jd_model.specs.Closed.{AllClosed}
use Rattle.jd_model.specs.Holes.{Around, plug, Calm, AtomHole, fill_atom}
use Rattle.jd_model.specs.Occurrences.{NotIn, FormulasIn}
use Rattle.jd_model.specs.Sequents.{PlainSequent}
use Rattle.jd_model.specs.SpecialNames.{entry_measure}
use Rattle.jd_model.specs.Truth.{Setting}
use Rattle.jd_model.specs.Validity.{Valid, AllValid}
use Rattle.jd_patterns.specs.Patterns.{TermPattern, FormulaPattern}
use Rattle.jd_patterns.specs.Instances.{Instance, of_term, of_formula}
use Rattle.jd_taclets.specs.Conditions.{AllHold}
use Rattle.jd_taclets.specs.Taclets.{TacletKind, OnLeft, OnRight, AtFormula, AtTerm, Free, Pattern, FormulaFind, TermFind, TacletGoal, Taclet, assumed, added, AllAsked, new_constants, new_variables, FitsFind, FitAssumed, AreNewFor, RowMeans}

-- ---- places

-- where a formula stands: what is before and behind it on its side, and the other side
pub data Spot : Type 0 where
  AtLeft : (before behind right : List PlainFormula) → Spot
  AtRight : (left before behind : List PlainFormula) → Spot

abbrev pub whole : Spot → PlainFormula → PlainSequent
whole (AtLeft f b r) a = record { left = f ++ (a ∷ b); right = r }
whole (AtRight l f b) a = record { left = l; right = f ++ (a ∷ b) }

-- all formulas but the one there
abbrev pub others : Spot → PlainSequent
others (AtLeft f b r) = record { left = f ++ b; right = r }
others (AtRight l f b) = record { left = l; right = f ++ b }

-- new formulas of the side stand in the place, those of the other side at that side's end
abbrev pub replaced : Spot → PlainSequent → PlainSequent
replaced (AtLeft f b r) n = record { left = f ++ (n.left ++ b); right = r ++ n.right }
replaced (AtRight l f b) n = record { left = l ++ n.left; right = f ++ (n.right ++ b) }

-- new formulas at the ends of both sides
abbrev pub extended : PlainSequent → PlainSequent → PlainSequent
extended q n = record { left = q.left ++ n.left; right = q.right ++ n.right }

abbrev pub IsOnSide : TacletKind → Spot → Type 0
IsOnSide OnLeft (AtLeft f b r) = Unit {0}
IsOnSide OnRight (AtRight l f b) = Unit {0}
IsOnSide k w = ⊥

-- ---- what a step asks

abbrev pub IsAmong : PlainFormula → List PlainFormula → Type 0
IsAmong a [] = ⊥
IsAmong a (x ∷ l) = (a ≡ x) ⊎ IsAmong a l

abbrev pub AreAmong : List PlainFormula → List PlainFormula → Type 0
AreAmong [] m = Unit {0}
AreAmong (a ∷ l) m = IsAmong a m × AreAmong l m

-- new variables and constants stand nowhere in the sequent
abbrev pub AreNewIn : List Name → List Name → PlainSequent → Type 0
AreNewIn xs cs q = FormulasIn (λ y. NotIn y xs) (λ y. NotIn y cs) q.left × FormulasIn (λ y. NotIn y xs) (λ y. NotIn y cs) q.right

module _ (g : Setting) (r : Taclet) (q : PlainSequent) where
  -- what each step of the row asks of the instantiation: its conditions, what is given, the forms of what is found and assumed, new names,
  -- and that what is assumed stands among the other formulas
  pub record IsAdmitted (σ : Instance) (rest : PlainSequent) : Type 0 where
    pub conds : AllHold g σ r.conds
    pub asked : AllAsked g.program σ r.insts
    pub found : FitsFind g.program σ r.find
    pub forms : FitAssumed g.program σ r.assumes
    pub new_for : AreNewFor g.program σ (new_variables g.program σ r.insts) (new_constants g.program σ r.insts) r.find
    pub new_in : AreNewIn (new_variables g.program σ r.insts) (new_constants g.program σ r.insts) q
    pub not_measure : NotIn entry_measure (new_constants g.program σ r.insts)
    pub lefts : AreAmong (assumed g.program σ r.assumes).left rest.left
    pub rights : AreAmong (assumed g.program σ r.assumes).right rest.right

-- ---- premises

module _ (g : Setting) (σ : Instance) where
  abbrev pub premises_at : Spot → PlainFormula → List TacletGoal → List PlainSequent
  premises_at w a [] = []
  premises_at w a (n ∷ ns) = cond n.keep (extended (whole w a) (added g.program σ n)) (replaced w (added g.program σ n)) ∷ premises_at w a ns

  abbrev pub free_premises : PlainSequent → List TacletGoal → List PlainSequent
  free_premises q [] = []
  free_premises q (n ∷ ns) = extended q (added g.program σ n) ∷ free_premises q ns

-- the one premise of a row at a formula or a term
abbrev pub only_goal : Pattern → List TacletGoal
only_goal c = record { keep = false; replace = Some c; left = []; right = [] } ∷ []

-- a step at a whole formula, at a formula at any depth, at a term, and at no place; a row that assumes something is used in no update's
-- body and no modality's formula
module _ (g : Setting) (r : Taclet) (q : PlainSequent) where
  pub data StepOf : List PlainSequent → Type 0 where
    at_whole : (σ : Instance) (w : Spot) (p : FormulaPattern) → r.find ≡ Some (FormulaFind p) → IsOnSide r.kind w → q ≡ whole w (of_formula g.program σ p) → IsAdmitted g r q σ (others w) → StepOf (premises_at g σ w (of_formula g.program σ p) r.goals)
    at_formula : (σ : Instance) (w : Spot) (h : Around) (p c : FormulaPattern) → r.kind ≡ AtFormula → r.find ≡ Some (FormulaFind p) → r.goals ≡ only_goal (FormulaFind c) → (r.assumes ≡ []) ⊎ Calm h → q ≡ whole w (plug h (of_formula g.program σ p)) → IsAdmitted g r q σ (others w) → StepOf (whole w (plug h (of_formula g.program σ c)) ∷ [])
    at_term : (σ : Instance) (w : Spot) (h : Around) (a : AtomHole) (p c : TermPattern) → r.kind ≡ AtTerm → r.find ≡ Some (TermFind p) → r.goals ≡ only_goal (TermFind c) → (r.assumes ≡ []) ⊎ Calm h → q ≡ whole w (plug h (fill_atom a (of_term g.program σ p))) → IsAdmitted g r q σ (others w) → StepOf (whole w (plug h (fill_atom a (of_term g.program σ c))) ∷ [])
    at_none : (σ : Instance) → r.kind ≡ Free → r.find ≡ None → IsAdmitted g r q σ q → StepOf (free_premises g σ q r.goals)

-- ---- soundness

abbrev pub IsClosed : PlainSequent → Type 0
IsClosed q = AllClosed q.left × AllClosed q.right

-- a step of a sound row at a closed sequent: where all premises are valid, the sequent is
abbrev pub StepsOfSoundRowsAreSound : Type 0
StepsOfSoundRowsAreSound = (g : Setting) (r : Taclet) (q : PlainSequent) → IsClosed q → RowMeans r → (d : ℕ) (m : ℤ) (ps : List PlainSequent) → StepOf g r q ps → AllValid g d m ps → Valid g d m q
