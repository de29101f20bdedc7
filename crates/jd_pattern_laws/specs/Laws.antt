-- The laws of patterns: matching is exact, and bindings of its variables fix what a pattern means.
use Rattle.std.specs.Prelude.{◌≡◌, ◌↔◌, List, Option, None}
use Rattle.std.specs.Option.{IfSome}
use Rattle.jd_term.specs.Terms.{PlainTerm, PlainLoc}
use Rattle.jd_term.specs.Formulas.{PlainFormula}
use Rattle.jd_model.specs.Programs.{Program}
use Rattle.jd_patterns.specs.Patterns.{CodePattern, TermPattern, LocPattern, FormulaPattern}
use Rattle.jd_patterns.specs.Instances.{Instance, of_code, of_term, of_loc, of_formula}
use Rattle.jd_patterns.specs.Bindings.{Bindings, Agrees, Exactly, Tests}
use Rattle.jd_patterns.specs.Chosen.{AllBound, BoundOnce, IsBound, chosen}
use Rattle.jd_patterns.specs.Finds.{FitsTerm, FitsLoc, FitsFormula, IsFindTerm, IsFindLoc, IsFindFormula}
use Rattle.jd_patterns.specs.Matching.{match_term, match_loc, match_formula}
use Rattle.jd_patterns.specs.Variables.{Variable, code_variables, term_variables, loc_variables, formula_variables}

module _ (p : Program) (σ : Instance) where
  -- the instantiation makes the pattern this tree, and its variables are as the pattern asks
  abbrev pub MakesTerm : TermPattern → PlainTerm → Type 0
  MakesTerm a t = FitsTerm σ a × (of_term p σ a ≡ t)

  abbrev pub MakesLoc : LocPattern → PlainLoc → Type 0
  MakesLoc a l = FitsLoc σ a × (of_loc p σ a ≡ l)

  abbrev pub MakesFormula : FormulaPattern → PlainFormula → Type 0
  MakesFormula a f = FitsFormula σ a × (of_formula p σ a ≡ f)

-- of the instantiations that agree with the bindings so far, those that make a find the tree are those that agree with the answer
pub record MatchingIsExact : Type 0 where
  pub of_terms : (p : Program) (w : Tests) (σ : Instance) (τ : Bindings) (a : TermPattern) (t : PlainTerm) → IsFindTerm a → Exactly σ τ (MakesTerm p σ a t) (match_term w a t τ)
  pub of_locations : (p : Program) (w : Tests) (σ : Instance) (τ : Bindings) (a : LocPattern) (l : PlainLoc) → IsFindLoc a → Exactly σ τ (MakesLoc p σ a l) (match_loc w a l τ)
  pub of_formulas : (p : Program) (w : Tests) (σ : Instance) (τ : Bindings) (a : FormulaPattern) (f : PlainFormula) → IsFindFormula a → Exactly σ τ (MakesFormula p σ a f) (match_formula w a f τ)

-- a find has no answer exactly where no instantiation that agrees with the bindings so far makes it the tree; where there is one, the
-- bindings choose such an instantiation, and no variable is bound twice
abbrev pub IsDecided : Tests → Bindings → (Instance → Type 0) → Option Bindings → Type 0
IsDecided w τ Makes o = (o ≡ None ↔ ((σ : Instance) → Agrees σ τ → ¬ (Makes σ))) × IfSome o (λ υ. BoundOnce w υ × (Agrees (chosen w υ) τ × Makes (chosen w υ)))

pub record MatchingDecides : Type 0 where
  pub of_terms : (p : Program) (w : Tests) (τ : Bindings) (a : TermPattern) (t : PlainTerm) → IsFindTerm a → BoundOnce w τ → IsDecided w τ (λ σ. MakesTerm p σ a t) (match_term w a t τ)
  pub of_locations : (p : Program) (w : Tests) (τ : Bindings) (a : LocPattern) (l : PlainLoc) → IsFindLoc a → BoundOnce w τ → IsDecided w τ (λ σ. MakesLoc p σ a l) (match_loc w a l τ)
  pub of_formulas : (p : Program) (w : Tests) (τ : Bindings) (a : FormulaPattern) (f : PlainFormula) → IsFindFormula a → BoundOnce w τ → IsDecided w τ (λ σ. MakesFormula p σ a f) (match_formula w a f τ)

-- these variables are bound, and what was bound stays so
abbrev pub Binds : List Variable → Bindings → Bindings → Type 0
Binds vs τ υ = AllBound vs υ × ((v : Variable) → IsBound v τ → IsBound v υ)

-- where matching has an answer, it binds all variables of the pattern
pub record MatchingBinds : Type 0 where
  pub of_terms : (w : Tests) (τ : Bindings) (a : TermPattern) (t : PlainTerm) → IfSome (match_term w a t τ) (Binds (term_variables a) τ)
  pub of_locations : (w : Tests) (τ : Bindings) (a : LocPattern) (l : PlainLoc) → IfSome (match_loc w a l τ) (Binds (loc_variables a) τ)
  pub of_formulas : (w : Tests) (τ : Bindings) (a : FormulaPattern) (f : PlainFormula) → IfSome (match_formula w a f τ) (Binds (formula_variables a) τ)

-- where all variables of a pattern are bound, instantiations that agree with the bindings give it one meaning
pub record BindingsFixMeaning : Type 0 where
  pub of_codes : (p : Program) (σ ρ : Instance) (τ : Bindings) (a : CodePattern) → AllBound (code_variables a) τ → Agrees σ τ → Agrees ρ τ → of_code p σ a ≡ of_code p ρ a
  pub of_terms : (p : Program) (σ ρ : Instance) (τ : Bindings) (a : TermPattern) → AllBound (term_variables a) τ → Agrees σ τ → Agrees ρ τ → of_term p σ a ≡ of_term p ρ a
  pub of_locations : (p : Program) (σ ρ : Instance) (τ : Bindings) (a : LocPattern) → AllBound (loc_variables a) τ → Agrees σ τ → Agrees ρ τ → of_loc p σ a ≡ of_loc p ρ a
  pub of_formulas : (p : Program) (σ ρ : Instance) (τ : Bindings) (a : FormulaPattern) → AllBound (formula_variables a) τ → Agrees σ τ → Agrees ρ τ → of_formula p σ a ≡ of_formula p ρ a
