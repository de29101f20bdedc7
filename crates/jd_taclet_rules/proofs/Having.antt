-- The patterns of goals have their instances, in each program that throws the same.
use Rattle.std.proofs.Common.{List, None, Option, Some, [], map, refl, subst, ◌≡◌, ◌∷◌}
use Rattle.jd_model.specs.Programs.{Program}
use Rattle.jd_patterns.specs.Instances.{Instance}
use Rattle.jd_patterns.specs.Patterns as pattern
use Rattle.jd_patterns.specs.Patterns.{FormulaPattern, LocPattern, TermPattern}
use Rattle.jd_schema_instances.proofs.Programs.{formulas_alike, terms_alike}
use Rattle.jd_schema_instances.specs.Choosing.{ThrowTheSame}
use Rattle.jd_schema_instances.specs.Fitting.{FormulaPutFits, HasFormulaInstance, HasLocInstance, HasTermInstance, TermPutFits}
use Rattle.jd_spelled_steps.specs.Rows.{FormulasHaveInstances, GoalsHaveInstances, PatternHasInstance}
use Rattle.jd_taclet_premises.specs.Having.{AllHaveInstances, HasInstance, HaveInstances}
use Rattle.jd_taclet_premises.specs.Premises.{WithFormula, WithTerm, goal_of, replacement_of}
use Rattle.jd_taclets.specs.Taclets.{FormulaFind, Pattern, TacletGoal, TermFind, added, all_formulas}
use Rattle.std.specs.Prelude.{option_map}

-- ---- in the words of the makers

module _ (p : Program) (σ : Instance) where
  one_has : (o : Option Pattern) → PatternHasInstance p σ o → HasInstance p σ o
  one_has None h = h
  one_has (Some (FormulaFind a)) h = h
  one_has (Some (TermFind t)) h = h

  all_have : (l : List FormulaPattern) → FormulasHaveInstances p σ l → HaveInstances p σ l
  all_have [] h = h
  all_have (a ∷ l) h = (h.0, all_have l h.1)

  pub goals_have : (ns : List TacletGoal) → GoalsHaveInstances p σ ns → AllHaveInstances p σ ns
  goals_have [] h = h
  goals_have (n ∷ ns) h = (record { replace = one_has n.replace h.0.0; left = all_have n.left h.0.1; right = all_have n.right h.0.2 }, goals_have ns h.1)

-- ---- in another program

module _ (p q : Program) (σ : Instance) where
  mutual
    terms_have : (t : TermPattern) → HasTermInstance p σ t → HasTermInstance q σ t
    terms_have (pattern.AnyTerm n) h = h
    terms_have (pattern.TermOf s n) h = h
    terms_have (pattern.LiteralVar n) h = h
    terms_have (pattern.FieldVar n) h = h
    terms_have (pattern.Put n t) h = (terms_have t h.0, subst (λ u. TermPutFits u (σ.term n)) (terms_alike p q σ t) h.1)
    terms_have (pattern.Lifted n) h = h
    terms_have (pattern.OfSimple n) h = h
    terms_have (pattern.ProgramVariable x) h = h
    terms_have (pattern.Constant x) h = h
    terms_have (pattern.Given t) h = h
    terms_have (pattern.OnePart k t) h = terms_have t h
    terms_have (pattern.Arithmetic op t u) h = (terms_have t h.0, terms_have u h.1)
    terms_have (pattern.Select s t u v) h = (terms_have t h.0, terms_have u h.1, terms_have v h.2)
    terms_have (pattern.Sum t u v) h = (terms_have t h.0, terms_have u h.1, terms_have v h.2)
    terms_have (pattern.Store t u v w) h = (terms_have t h.0, terms_have u h.1, terms_have v h.2, terms_have w h.3)
    terms_have (pattern.Create t u) h = (terms_have t h.0, terms_have u h.1)
    terms_have (pattern.Anon t l u) h = (terms_have t h.0, locs_have l h.1, terms_have u h.2)

    locs_have : (l : LocPattern) → HasLocInstance p σ l → HasLocInstance q σ l
    locs_have (pattern.LocVar n) h = h
    locs_have (pattern.LiftedLoc n) h = h
    locs_have pattern.NoLocations h = h
    locs_have pattern.AllLocations h = h
    locs_have (pattern.OfObject k o) h = terms_have o h
    locs_have (pattern.Single o f) h = (terms_have o h.0, terms_have f h.1)
    locs_have (pattern.ElementRange o t u) h = (terms_have o h.0, terms_have t h.1, terms_have u h.2)
    locs_have (pattern.Union l m) h = (locs_have l h.0, locs_have m h.1)

  formulas_have : (a : FormulaPattern) → HasFormulaInstance p σ a → HasFormulaInstance q σ a
  formulas_have (pattern.FormulaVar n) h = h
  formulas_have (pattern.PutIn n t) h = (terms_have t h.0, subst (λ u. FormulaPutFits u (σ.formula n)) (terms_alike p q σ t) h.1)
  formulas_have (pattern.LiftedFormula n) h = h
  formulas_have pattern.TrueFormula h = h
  formulas_have pattern.FalseFormula h = h
  formulas_have (pattern.Not a) h = formulas_have a h
  formulas_have (pattern.Connected k a c) h = (formulas_have a h.0, formulas_have c h.1)
  formulas_have (pattern.Compared k t u) h = (terms_have t h.0, terms_have u h.1)
  formulas_have (pattern.Quantified k s a) h = formulas_have a h
  formulas_have (pattern.Updated x t a) h = (terms_have t h.0, formulas_have a h.1)
  formulas_have (pattern.Focus m k c a) h = formulas_have a h
  formulas_have (pattern.Modal m c a) h = formulas_have a h
  formulas_have (pattern.InLocations o f l) h = (terms_have o h.0, terms_have f h.1, locs_have l h.2)
  formulas_have (pattern.Tested k t) h = terms_have t h
  formulas_have (pattern.Classed k c o) h = terms_have o h

  pattern_has : (o : Option Pattern) → HasInstance p σ o → HasInstance q σ o
  pattern_has None h = h
  pattern_has (Some (FormulaFind a)) h = formulas_have a h
  pattern_has (Some (TermFind t)) h = terms_have t h

  list_has : (l : List FormulaPattern) → HaveInstances p σ l → HaveInstances q σ l
  list_has [] h = h
  list_has (a ∷ l) h = (formulas_have a h.0, list_has l h.1)

  pub goals_have_there : (ns : List TacletGoal) → AllHaveInstances p σ ns → AllHaveInstances q σ ns
  goals_have_there [] h = h
  goals_have_there (n ∷ ns) h =
      (record { replace = pattern_has n.replace h.0.replace; left = list_has n.left h.0.left; right = list_has n.right h.0.right }, goals_have_there ns h.1)

  -- ---- and they mean the same

  module _ (same : ThrowTheSame p q) where
    replacement_same : (o : Option Pattern) → option_map (replacement_of p σ) o ≡ option_map (replacement_of q σ) o
    replacement_same None = refl
    replacement_same (Some (FormulaFind a)) = λ i. Some (WithFormula (formulas_alike p q σ same a i))
    replacement_same (Some (TermFind t)) = λ i. Some (WithTerm (terms_alike p q σ t i))

    formulas_same : (l : List FormulaPattern) → all_formulas p σ l ≡ all_formulas q σ l
    formulas_same [] = refl
    formulas_same (a ∷ l) = λ i. formulas_alike p q σ same a i ∷ formulas_same l i

    goal_same : (n : TacletGoal) → goal_of p σ n ≡ goal_of q σ n
    goal_same n = λ i. record { keep = n.keep; replace = replacement_same n.replace i; added = record { left = formulas_same n.left i; right = formulas_same n.right i } }

    pub goals_same : (ns : List TacletGoal) → map (goal_of p σ) ns ≡ map (goal_of q σ) ns
    goals_same [] = refl
    goals_same (n ∷ ns) = λ i. goal_same n i ∷ goals_same ns i
