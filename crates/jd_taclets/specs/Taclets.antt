-- Taclets: the rows of rules as plain data, and what it is that a row is sound (The KeY Book, 4.2 and 4.4).
use Rattle.std.specs.Prelude.{◌≡◌, ℕ, Bool, List, [], ◌∷◌, Option, Some, None}
use Rattle.jd_base.specs.declared.sort.Sort.{Sort}
use Rattle.jd_syntax.specs.Names.{Name}
use Rattle.jd_syntax.specs.CodeNames.{heap_name}
use Rattle.jd_term.specs.Terms.{sort_of_term}
use Rattle.jd_term.specs.Formulas.{PlainFormula}
use Rattle.jd_heap.specs.Values.{Value}
use Rattle.jd_model.specs.declared.sequent.Side.{Side}
use Rattle.jd_model.specs.declared.sequent.Side.TheVariants.{Left, Right}
use Rattle.jd_model.specs.Sequents.{PlainSequent}
use Rattle.jd_model.specs.Programs.{Program}
use Rattle.jd_model.specs.Runs.{with_values}
use Rattle.jd_model.specs.States.{State}
use Rattle.jd_model.specs.SimpleExpressions.{term_of}
use Rattle.jd_model.specs.Occurrences.{NotIn, TermIn, FormulaIn}
use Rattle.jd_model.specs.TermValues.{value}
use Rattle.jd_model.specs.Truth.{Setting, Truth}
use Rattle.jd_model.specs.Validity.{Refutes}
use Rattle.jd_patterns.specs.Patterns.{SchemaVar, SortPattern, TermPattern, FormulaPattern}
use Rattle.jd_patterns.specs.Instances.{Instance, of_sort, of_term, of_formula}
use Rattle.jd_patterns.specs.Finds.{FitsTerm, FitsFormula, IsFindTerm, IsFindFormula}
use Rattle.jd_taclets.specs.Conditions.{Condition, AllHold}

-- ---- rows

-- where a row's find stands: a whole formula of the left or right side, a formula or a term at any depth, nowhere
pub data TacletKind : Type 0 where
  OnLeft OnRight AtFormula AtTerm Free : TacletKind

pub data Pattern : Type 0 where
  FormulaFind : FormulaPattern → Pattern
  TermFind : TermPattern → Pattern

-- the sort that is asked for: a pattern's, or that of what a simple expression is as a term
pub data AskedSort : Type 0 where
  SortOf : SortPattern → AskedSort
  SortOfSimple : SchemaVar → AskedSort

-- what a step gives for a variable: a formula, a term, a number; a new constant or variable, which is fresh
pub data InstForm : Type 0 where
  AFormula ANumber : InstForm
  ATerm NewConstant NewVariable : AskedSort → InstForm

pub record InstVar : Type 0 where
  pub name : SchemaVar
  pub form : InstForm

-- a premise: whether the found formula stays, what stands in the place of what was found, and the formulas that are added
pub record TacletGoal : Type 0 where
  pub keep : Bool
  pub replace : Option Pattern
  pub left : List FormulaPattern
  pub right : List FormulaPattern

pub record Taclet : Type 0 where
  pub name : List ℕ
  pub kind : TacletKind
  pub find : Option Pattern
  pub assumes : List (Side × FormulaPattern)
  pub insts : List InstVar
  pub conds : List Condition
  pub goals : List TacletGoal

-- ---- what an instantiation makes of a row's parts

module _ (p : Program) (σ : Instance) where
  abbrev pub all_formulas : List FormulaPattern → List PlainFormula
  all_formulas [] = []
  all_formulas (a ∷ l) = of_formula p σ a ∷ all_formulas l

  abbrev pub assumed_on : Side → List (Side × FormulaPattern) → List PlainFormula
  assumed_on side [] = []
  assumed_on Left ((Left, a) ∷ l) = of_formula p σ a ∷ assumed_on Left l
  assumed_on Left ((Right, a) ∷ l) = assumed_on Left l
  assumed_on Right ((Left, a) ∷ l) = assumed_on Right l
  assumed_on Right ((Right, a) ∷ l) = of_formula p σ a ∷ assumed_on Right l

  abbrev pub assumed : List (Side × FormulaPattern) → PlainSequent
  assumed l = record { left = assumed_on Left l; right = assumed_on Right l }

  -- the formulas that a premise adds
  abbrev pub added : TacletGoal → PlainSequent
  added q = record { left = all_formulas q.left; right = all_formulas q.right }

  abbrev pub all_added : List TacletGoal → List PlainSequent
  all_added [] = []
  all_added (q ∷ qs) = added q ∷ all_added qs

  abbrev pub asked_sort : AskedSort → Sort
  asked_sort (SortOf s) = of_sort p σ s
  asked_sort (SortOfSimple n) = sort_of_term (term_of (σ.simple n))

  -- what is given has the sort that is asked for
  abbrev pub IsAsked : InstVar → Type 0
  IsAsked v = elim v.form as (λ _. Type 0) [
    | AFormula ↦ Unit {0}
    | ANumber ↦ Unit {0}
    | ATerm s ↦ sort_of_term (σ.term v.name) ≡ asked_sort s
    | NewConstant s ↦ (σ.name v.name).sort ≡ asked_sort s
    | NewVariable s ↦ (σ.name v.name).sort ≡ asked_sort s
  ]

  abbrev pub AllAsked : List InstVar → Type 0
  AllAsked [] = Unit {0}
  AllAsked (v ∷ vs) = IsAsked v × AllAsked vs

  -- the names that are to be new
  abbrev pub with_constant : InstForm → Name → List Name → List Name
  with_constant (NewConstant s) x xs = x ∷ xs
  with_constant f x xs = xs

  abbrev pub new_constants : List InstVar → List Name
  new_constants [] = []
  new_constants (v ∷ vs) = with_constant v.form (σ.name v.name) (new_constants vs)

  abbrev pub with_variable : InstForm → Name → List Name → List Name
  with_variable (NewVariable s) x xs = x ∷ xs
  with_variable f x xs = xs

  abbrev pub new_variables : List InstVar → List Name
  new_variables [] = []
  new_variables (v ∷ vs) = with_variable v.form (σ.name v.name) (new_variables vs)

  -- the variables of what is found and assumed are as their patterns ask
  abbrev pub FitsFind : Option Pattern → Type 0
  FitsFind None = Unit {0}
  FitsFind (Some (FormulaFind a)) = FitsFormula σ a
  FitsFind (Some (TermFind t)) = FitsTerm σ t

  abbrev pub FitAssumed : List (Side × FormulaPattern) → Type 0
  FitAssumed [] = Unit {0}
  FitAssumed (a ∷ l) = FitsFormula σ a.1 × FitAssumed l

  -- new variables and constants stand nowhere in what is found, and none is the heap's
  abbrev pub AreNewFor : List Name → List Name → Option Pattern → Type 0
  AreNewFor [] [] f = Unit {0}
  AreNewFor xs cs None = Unit {0}
  AreNewFor xs cs (Some (FormulaFind a)) = FormulaIn (λ y. NotIn y xs) (λ y. NotIn y cs) (of_formula p σ a) × NotIn heap_name xs
  AreNewFor xs cs (Some (TermFind t)) = TermIn (λ y. NotIn y xs) (λ y. NotIn y cs) (of_term p σ t) × NotIn heap_name xs

-- ---- the meaning of a row

-- not: for each premise, no values of the new constants refute what it adds
abbrev pub NoneRefuted : Setting → ℕ → State → State → List Value → List Name → List PlainSequent → Type 0
NoneRefuted g d i s b news [] = Unit {0}
NoneRefuted g d i s b news (q ∷ qs) = ((vs : List Value) → ¬ (Refutes g d (with_values i news vs) s b q)) × NoneRefuted g d i s b news qs

module _ (g : Setting) (σ : Instance) (assumes : List (Side × FormulaPattern)) (news : List Name) where
  -- wherever what is assumed is refuted, and the find is true or false as it says, what some premise adds is refuted for some values of
  -- the new constants
  abbrev pub Splits : (ℕ → State → State → List Value → Type 0) → List TacletGoal → Type 0
  Splits Found goals = (d : ℕ) (i s : State) (b : List Value) → Refutes g d i s b (assumed g.program σ assumes) → Found d i s b → ¬ (NoneRefuted g d i s b news (all_added g.program σ goals))

  -- wherever what is assumed is refuted, both have the same truth, or the same value
  abbrev pub SameTruth : FormulaPattern → FormulaPattern → Type 0
  SameTruth a c = (d : ℕ) (i s : State) (b : List Value) → Refutes g d i s b (assumed g.program σ assumes) → (Truth g d i s b (of_formula g.program σ a) → Truth g d i s b (of_formula g.program σ c)) × (Truth g d i s b (of_formula g.program σ c) → Truth g d i s b (of_formula g.program σ a))

  abbrev pub SameValue : TermPattern → TermPattern → Type 0
  SameValue t u = (d : ℕ) (i s : State) (b : List Value) → Refutes g d i s b (assumed g.program σ assumes) → value i s b (of_term g.program σ t) ≡ value i s b (of_term g.program σ u)

  -- a row of another shape means nothing that holds
  abbrev pub Meaning : TacletKind → Option Pattern → List TacletGoal → Type 0
  Meaning OnLeft (Some (FormulaFind a)) goals = Splits (λ d i s b. Truth g d i s b (of_formula g.program σ a)) goals
  Meaning OnRight (Some (FormulaFind a)) goals = Splits (λ d i s b. ¬ (Truth g d i s b (of_formula g.program σ a))) goals
  Meaning Free None goals = Splits (λ d i s b. Unit {0}) goals
  Meaning AtFormula (Some (FormulaFind a)) (q ∷ []) = elim q.replace as (λ _. Type 0) [ None ↦ ⊥ | Some r ↦ elim r as (λ _. Type 0) [ FormulaFind c ↦ SameTruth a c | TermFind u ↦ ⊥ ] ]
  Meaning AtTerm (Some (TermFind t)) (q ∷ []) = elim q.replace as (λ _. Type 0) [ None ↦ ⊥ | Some r ↦ elim r as (λ _. Type 0) [ FormulaFind c ↦ ⊥ | TermFind u ↦ SameValue t u ] ]
  Meaning k f goals = ⊥

-- the row is sound: for each instantiation that its conditions admit, in each program
abbrev pub RowMeans : Taclet → Type 0
RowMeans r = (g : Setting) (σ : Instance) → AllHold g σ r.conds → AllAsked g.program σ r.insts → FitsFind g.program σ r.find → FitAssumed g.program σ r.assumes → AreNewFor g.program σ (new_variables g.program σ r.insts) (new_constants g.program σ r.insts) r.find → Meaning g σ r.assumes (new_constants g.program σ r.insts) r.kind r.find r.goals

abbrev pub AllMean : List Taclet → Type 0
AllMean [] = Unit {0}
AllMean (r ∷ rs) = RowMeans r × AllMean rs

-- what is found and assumed are forms that matching decides
abbrev pub IsFind : Option Pattern → Type 0
IsFind None = Unit {0}
IsFind (Some (FormulaFind a)) = IsFindFormula a
IsFind (Some (TermFind t)) = IsFindTerm t

abbrev pub AreFinds : List (Side × FormulaPattern) → Type 0
AreFinds [] = Unit {0}
AreFinds (a ∷ l) = IsFindFormula a.1 × AreFinds l

abbrev pub AllFinds : List Taclet → Type 0
AllFinds [] = Unit {0}
AllFinds (r ∷ rs) = (IsFind r.find × AreFinds r.assumes) × AllFinds rs
