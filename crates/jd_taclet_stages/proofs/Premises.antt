-- Instantiations that give all variables of a row's goals the same parts give the same premises.
use Rattle.std.proofs.Common.{List, None, Option, Some, [], cond, refl, ◌≡◌, ◌∷◌}
use Rattle.jd_model.specs.Places.{put_at}
use Rattle.jd_model.specs.Programs.{Program}
use Rattle.jd_model.specs.Sequents.{PlainPlace, PlainSequent}
use Rattle.jd_pattern_laws.proofs.Filling.{AllSame, formula_fill, fourths, halves, term_fill}
use Rattle.jd_patterns.specs.Instances.{Instance}
use Rattle.jd_patterns.specs.Patterns.{FormulaPattern}
use Rattle.jd_patterns.specs.Variables.{formula_variables}
use Rattle.jd_taclet_scripts.specs.Steps.{goal_at, premise_at, premises_of, replaced_at, with_replaced}
use Rattle.jd_taclet_stages.specs.Ready.{formulas_variables, goals_variables, maybe_variables}
use Rattle.jd_taclet_steps.specs.PutTerms.{put_term_at}
use Rattle.jd_taclet_steps.specs.Steps.{extended}
use Rattle.jd_taclets.specs.Taclets.{AtFormula, AtTerm, FormulaFind, Free, OnLeft, OnRight, Pattern, TacletGoal, TacletKind, TermFind, added, all_formulas}

module _ (p : Program) (σ ρ : Instance) (s : PlainSequent) where
  formulas_alike : (l : List FormulaPattern) → AllSame σ ρ (formulas_variables l) → all_formulas p σ l ≡ all_formulas p ρ l
  formulas_alike [] o = refl
  formulas_alike (a ∷ l) o = let each = halves σ ρ (formula_variables a) (formulas_variables l) o in λ i. formula_fill σ ρ p a each.0 i ∷ formulas_alike l each.1 i

  added_alike : (n : TacletGoal) → AllSame σ ρ (formulas_variables n.left) → AllSame σ ρ (formulas_variables n.right) → added p σ n ≡ added p ρ n
  added_alike n o q = λ i. record { left = formulas_alike n.left o i; right = formulas_alike n.right q i }

  replaced_alike : (q : PlainPlace) (f : Option Pattern) → AllSame σ ρ (maybe_variables f) → with_replaced p σ s q f ≡ with_replaced p ρ s q f
  replaced_alike q None o = refl
  replaced_alike q (Some (FormulaFind c)) o = λ i. put_at s q (formula_fill σ ρ p c o i)
  replaced_alike q (Some (TermFind u)) o = λ i. put_term_at s q (term_fill σ ρ p u o i)

  goal_alike : (q : PlainPlace) (n : TacletGoal) → added p σ n ≡ added p ρ n → goal_at p σ s q n ≡ goal_at p ρ s q n
  goal_alike q n e = λ i. cond n.keep (extended s (e i)) (replaced_at q.side q.index s (e i))

  premise_alike : (k : TacletKind) (q : PlainPlace) (n : TacletGoal) → AllSame σ ρ (maybe_variables n.replace) → added p σ n ≡ added p ρ n → premise_at p σ s k q n ≡ premise_at p ρ s k q n
  premise_alike AtFormula q n o e = replaced_alike q n.replace o
  premise_alike AtTerm q n o e = replaced_alike q n.replace o
  premise_alike OnLeft q n o e = goal_alike q n e
  premise_alike OnRight q n o e = goal_alike q n e
  premise_alike Free q n o e = goal_alike q n e

  pub premises_alike : (k : TacletKind) (own : Option PlainPlace) (ns : List TacletGoal) → AllSame σ ρ (goals_variables ns) → premises_of p σ s k own ns ≡ premises_of p ρ s k own ns
  premises_alike k None [] o = refl
  premises_alike k None (n ∷ ns) o =
      let each = fourths σ ρ (maybe_variables n.replace) (formulas_variables n.left) (formulas_variables n.right) (goals_variables ns) o in
      λ i. extended s (added_alike n each.1.0 each.1.1.0 i) ∷ premises_alike k None ns each.1.1.1 i
  premises_alike k (Some q) [] o = refl
  premises_alike k (Some q) (n ∷ ns) o =
      let each = fourths σ ρ (maybe_variables n.replace) (formulas_variables n.left) (formulas_variables n.right) (goals_variables ns) o in
      λ i. premise_alike k q n each.0 (added_alike n each.1.0 each.1.1.0) i ∷ premises_alike k (Some q) ns each.1.1.1 i
