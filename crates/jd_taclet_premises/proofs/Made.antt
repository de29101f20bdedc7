-- Premises are made of what goals say.
use Rattle.std.proofs.Common.{List, None, Option, Some, [], ap, map, option_map, refl, ◌∙◌, ◌∷◌, ◌≡◌}
use Rattle.jd_model.specs.Programs.{Program}
use Rattle.jd_model.specs.Sequents.{PlainPlace, PlainSequent}
use Rattle.jd_patterns.specs.Instances.{Instance}
use Rattle.jd_taclet_premises.specs.Premises.{PremisesAreMadeOfGoals, goal_of, premise_at, premise_of, replacement_of, with_replacement}
use Rattle.jd_taclet_scripts.specs.Steps as steps
use Rattle.jd_taclet_steps.specs.Steps.{extended}
use Rattle.jd_taclets.specs.Taclets.{AtFormula, AtTerm, FormulaFind, Free, OnLeft, OnRight, Pattern, TacletGoal, TacletKind, TermFind, added}

module _ (p : Program) (σ : Instance) (s : PlainSequent) where
  at_none : (k : TacletKind) (ns : List TacletGoal) → map (λ n. extended s (added p σ n)) ns ≡ map (premise_of k s None) (map (goal_of p σ) ns)
  at_none k [] = refl
  at_none k (n ∷ ns) = ap (λ l. extended s (added p σ n) ∷ l) (at_none k ns)

  module _ (q : PlainPlace) where
    replaced_same : (o : Option Pattern) → steps.with_replaced p σ s q o ≡ with_replacement s q (option_map (replacement_of p σ) o)
    replaced_same None = refl
    replaced_same (Some (FormulaFind c)) = refl
    replaced_same (Some (TermFind u)) = refl

    premise_same : (k : TacletKind) (n : TacletGoal) → steps.premise_at p σ s k q n ≡ premise_at k s q (goal_of p σ n)
    premise_same OnLeft n = refl
    premise_same OnRight n = refl
    premise_same AtFormula n = replaced_same n.replace
    premise_same AtTerm n = replaced_same n.replace
    premise_same Free n = refl

    at_place : (k : TacletKind) (ns : List TacletGoal) → map (steps.premise_at p σ s k q) ns ≡ map (premise_of k s (Some q)) (map (goal_of p σ) ns)
    at_place k [] = refl
    at_place k (n ∷ ns) = ap (λ x. x ∷ map (steps.premise_at p σ s k q) ns) (premise_same k n) ∙ ap (λ l. premise_at k s q (goal_of p σ n) ∷ l) (at_place k ns)

pub made_of_goals : PremisesAreMadeOfGoals
made_of_goals p σ s k None ns = at_none p σ s k ns
made_of_goals p σ s k (Some q) ns = at_place p σ s q k ns
