-- What it is that a row keeps trees spelled, and that the conditions which hold of each spelled tree are met where the row finds one.
use Rattle.std.specs.Prelude.{List, None, Option, Some, [], ◌∷◌}
use Rattle.jd_base.specs.declared.sort.Sort.{Sort}
use Rattle.jd_model.specs.declared.sequent.Side.{Side}
use Rattle.jd_model.specs.Programs.{Program}
use Rattle.jd_model.specs.Truth.{Setting}
use Rattle.jd_patterns.specs.Instances.{Instance, of_formula, of_term}
use Rattle.jd_patterns.specs.Patterns.{FormulaPattern, TermPattern}
use Rattle.jd_schema_instances.specs.Fitting.{HasFormulaInstance, HasTermInstance}
use Rattle.jd_spelled_trees.specs.Places.{SpelledSequent}
use Rattle.jd_spelled_trees.specs.Spelled.{AtSort, NarrowFormula, NarrowTerm, SpelledFormula, SpelledTerm}
use Rattle.jd_taclet_stages.specs.Laws.{SequentConditionsHold}
use Rattle.jd_taclets.specs.Conditions.{AllHold}
use Rattle.jd_taclets.specs.Taclets.{AFormula, ANumber, ATerm, AllAsked, AtFormula, AtTerm, FitAssumed, FitsFind, FormulaFind, Free, InstVar, NewConstant, NewVariable, OnLeft, OnRight, Pattern, Taclet, TacletGoal, TacletKind, TermFind, added}
use Rattle.jd_term.specs.Terms.{Constant, Number, sort_of_term}
use Rattle.jd_tforms.specs.Known.{IsVariable}
use Rattle.jd_tgrammar.specs.NameTables.{NameTable}

-- ---- what a step has

-- what is found has indices of nine digits at most, as all that rules take
module _ (p : Program) (σ : Instance) where
  abbrev pub FoundIsNarrow : Option Pattern → Type 0
  FoundIsNarrow None = Unit {0}
  FoundIsNarrow (Some (FormulaFind a)) = NarrowFormula (of_formula p σ a)
  FoundIsNarrow (Some (TermFind t)) = NarrowTerm (of_term p σ t)

module _ (names : NameTable) (p : Program) (σ : Instance) where
  -- what is found is spelled under these binders; a whole formula under none
  abbrev pub FoundIsSpelled : List Sort → TacletKind → Option Pattern → Type 0
  FoundIsSpelled ctx OnLeft (Some (FormulaFind a)) = SpelledFormula names [] (of_formula p σ a)
  FoundIsSpelled ctx OnRight (Some (FormulaFind a)) = SpelledFormula names [] (of_formula p σ a)
  FoundIsSpelled ctx AtFormula (Some (FormulaFind a)) = SpelledFormula names ctx (of_formula p σ a)
  FoundIsSpelled ctx AtTerm (Some (TermFind t)) = SpelledTerm names ctx (of_term p σ t)
  FoundIsSpelled ctx k f = Unit {0}

  -- what is assumed are whole formulas
  abbrev pub AssumedAreSpelled : List (Side × FormulaPattern) → Type 0
  AssumedAreSpelled [] = Unit {0}
  AssumedAreSpelled (a ∷ l) = (SpelledFormula names [] (of_formula p σ a.1) × NarrowFormula (of_formula p σ a.1)) × AssumedAreSpelled l

  -- a formula or a term that is given is closed; a number, a new constant and a new variable are known
  abbrev pub GivenIsSpelled : InstVar → Type 0
  GivenIsSpelled v = elim v.form as (λ _. Type 0) [
    | AFormula ↦ SpelledFormula names [] (σ.formula v.name) × NarrowFormula (σ.formula v.name)
    | ANumber ↦ SpelledTerm names [] (Number (σ.literal v.name))
    | ATerm s ↦ SpelledTerm names [] (σ.term v.name) × NarrowTerm (σ.term v.name)
    | NewConstant s ↦ SpelledTerm names [] (Constant (σ.name v.name))
    | NewVariable s ↦ IsVariable names (σ.name v.name)
  ]

  abbrev pub GivenAreSpelled : List InstVar → Type 0
  GivenAreSpelled [] = Unit {0}
  GivenAreSpelled (v ∷ vs) = GivenIsSpelled v × GivenAreSpelled vs

-- all that the row's variables stand for is spelled, and its conditions hold
pub record HasSpelledParts (names : NameTable) (g : Setting) (σ : Instance) (ctx : List Sort) (r : Taclet) : Type 0 where
  pub found : FoundIsSpelled names g.program σ ctx r.kind r.find
  pub narrow : FoundIsNarrow g.program σ r.find
  pub assumed : AssumedAreSpelled names g.program σ r.assumes
  pub given : GivenAreSpelled names g.program σ r.insts
  pub asked : AllAsked g.program σ r.insts
  pub find_fits : FitsFind g.program σ r.find
  pub assumed_fit : FitAssumed g.program σ r.assumes
  pub conds : AllHold g σ r.conds

-- ---- what stands in the goals

module _ (names : NameTable) (p : Program) (σ : Instance) where
  -- what is added are whole formulas
  abbrev pub AddedAreSpelled : List TacletGoal → Type 0
  AddedAreSpelled [] = Unit {0}
  AddedAreSpelled (n ∷ ns) = SpelledSequent names (added p σ n) × AddedAreSpelled ns

  -- what stands in the place of what was found, a term of the sort of the one found
  abbrev pub FormulaIsReplaced : List Sort → Option Pattern → Type 0
  FormulaIsReplaced ctx (Some (FormulaFind c)) = SpelledFormula names ctx (of_formula p σ c)
  FormulaIsReplaced ctx f = ⊥

  abbrev pub TermIsReplaced : List Sort → TermPattern → Option Pattern → Type 0
  TermIsReplaced ctx t (Some (TermFind u)) = AtSort (sort_of_term (of_term p σ t)) (of_term p σ u) (SpelledTerm names ctx (of_term p σ u))
  TermIsReplaced ctx t f = ⊥

  -- a row of another shape keeps nothing
  abbrev pub GoalsAreSpelled : List Sort → TacletKind → Option Pattern → List TacletGoal → Type 0
  GoalsAreSpelled ctx OnLeft (Some (FormulaFind a)) goals = AddedAreSpelled goals
  GoalsAreSpelled ctx OnRight (Some (FormulaFind a)) goals = AddedAreSpelled goals
  GoalsAreSpelled ctx Free None goals = AddedAreSpelled goals
  GoalsAreSpelled ctx AtFormula (Some (FormulaFind a)) (n ∷ []) = FormulaIsReplaced ctx n.replace
  GoalsAreSpelled ctx AtTerm (Some (TermFind t)) (n ∷ []) = TermIsReplaced ctx t n.replace
  GoalsAreSpelled ctx k f goals = ⊥

-- each pattern of the goals has its instance: what is put or lifted fits
module _ (p : Program) (σ : Instance) where
  abbrev pub PatternHasInstance : Option Pattern → Type 0
  PatternHasInstance None = Unit {0}
  PatternHasInstance (Some (FormulaFind a)) = HasFormulaInstance p σ a
  PatternHasInstance (Some (TermFind t)) = HasTermInstance p σ t

  abbrev pub FormulasHaveInstances : List FormulaPattern → Type 0
  FormulasHaveInstances [] = Unit {0}
  FormulasHaveInstances (a ∷ l) = HasFormulaInstance p σ a × FormulasHaveInstances l

  abbrev pub GoalsHaveInstances : List TacletGoal → Type 0
  GoalsHaveInstances [] = Unit {0}
  GoalsHaveInstances (n ∷ ns) = (PatternHasInstance n.replace × FormulasHaveInstances n.left × FormulasHaveInstances n.right) × GoalsHaveInstances ns

-- ---- rows

abbrev pub RowKeeps : Taclet → Type 0
RowKeeps r = (names : NameTable) (g : Setting) (σ : Instance) (ctx : List Sort) → HasSpelledParts names g σ ctx r → GoalsAreSpelled names g.program σ ctx r.kind r.find r.goals × GoalsHaveInstances g.program σ r.goals

abbrev pub AllKeep : List Taclet → Type 0
AllKeep [] = Unit {0}
AllKeep (r ∷ rs) = RowKeeps r × AllKeep rs

-- the conditions hold that hold of each sequent which rules take, wherever what the row finds is spelled
abbrev pub ConditionsAreMet : Taclet → Type 0
ConditionsAreMet r = (names : NameTable) (g : Setting) (σ : Instance) (ctx : List Sort) → FoundIsSpelled names g.program σ ctx r.kind r.find → SequentConditionsHold g σ r.conds

abbrev pub AllAreMet : List Taclet → Type 0
AllAreMet [] = Unit {0}
AllAreMet (r ∷ rs) = ConditionsAreMet r × AllAreMet rs
