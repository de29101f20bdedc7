-- Patterns without puts and lifts have instances.
use Rattle.std.proofs.Common.{Bool, List, None, Option, Some, [], false, true, true≢false, sym, ◌&&◌, ◌∷◌, ◌≡◌}
use Rattle.std.proofs.lemmas.Bool.{and_parts}
use Rattle.jd_model.specs.Programs.{Program}
use Rattle.jd_patterns.specs.Instances.{Instance}
use Rattle.jd_patterns.specs.Patterns as pattern
use Rattle.jd_patterns.specs.Patterns.{FormulaPattern, LocPattern, TermPattern}
use Rattle.jd_schema_instances.specs.Fitting.{HasFormulaInstance, HasLocInstance, HasTermInstance}
use Rattle.jd_spelled_steps.specs.Rows.{FormulasHaveInstances, GoalsHaveInstances, PatternHasInstance}
use Rattle.jd_taclets.specs.Taclets.{FormulaFind, Pattern, TacletGoal, TermFind}

-- ---- nothing is put or lifted

abbrev mutual
  is_plain_term : TermPattern → Bool
  is_plain_term (pattern.Put n t) = false
  is_plain_term (pattern.Lifted n) = false
  is_plain_term (pattern.OnePart h t) = is_plain_term t
  is_plain_term (pattern.Arithmetic op t u) = is_plain_term t && is_plain_term u
  is_plain_term (pattern.Select s h o f) = is_plain_term h && (is_plain_term o && is_plain_term f)
  is_plain_term (pattern.Sum t u v) = is_plain_term t && (is_plain_term u && is_plain_term v)
  is_plain_term (pattern.Store h o f t) = is_plain_term h && (is_plain_term o && (is_plain_term f && is_plain_term t))
  is_plain_term (pattern.Create h o) = is_plain_term h && is_plain_term o
  is_plain_term (pattern.Anon h l g) = is_plain_term h && (is_plain_loc l && is_plain_term g)
  is_plain_term t = true

  is_plain_loc : LocPattern → Bool
  is_plain_loc (pattern.LiftedLoc n) = false
  is_plain_loc (pattern.OfObject h o) = is_plain_term o
  is_plain_loc (pattern.Single o f) = is_plain_term o && is_plain_term f
  is_plain_loc (pattern.ElementRange o t u) = is_plain_term o && (is_plain_term t && is_plain_term u)
  is_plain_loc (pattern.Union l m) = is_plain_loc l && is_plain_loc m
  is_plain_loc l = true

abbrev is_plain_formula : FormulaPattern → Bool
is_plain_formula (pattern.PutIn n t) = false
is_plain_formula (pattern.LiftedFormula n) = false
is_plain_formula (pattern.Not a) = is_plain_formula a
is_plain_formula (pattern.Connected h a c) = is_plain_formula a && is_plain_formula c
is_plain_formula (pattern.Compared h t u) = is_plain_term t && is_plain_term u
is_plain_formula (pattern.Quantified h s a) = is_plain_formula a
is_plain_formula (pattern.Updated x t a) = is_plain_term t && is_plain_formula a
is_plain_formula (pattern.Focus m k c a) = is_plain_formula a
is_plain_formula (pattern.Modal m c a) = is_plain_formula a
is_plain_formula (pattern.InLocations o f l) = is_plain_term o && (is_plain_term f && is_plain_loc l)
is_plain_formula (pattern.Tested h t) = is_plain_term t
is_plain_formula (pattern.Classed h k o) = is_plain_term o
is_plain_formula a = true

abbrev is_plain_pattern : Option Pattern → Bool
is_plain_pattern None = true
is_plain_pattern (Some (FormulaFind a)) = is_plain_formula a
is_plain_pattern (Some (TermFind t)) = is_plain_term t

abbrev are_plain_formulas : List FormulaPattern → Bool
are_plain_formulas [] = true
are_plain_formulas (a ∷ l) = is_plain_formula a && are_plain_formulas l

abbrev pub are_plain : List TacletGoal → Bool
are_plain [] = true
are_plain (n ∷ ns) = (is_plain_pattern n.replace && (are_plain_formulas n.left && are_plain_formulas n.right)) && are_plain ns

-- ---- so each has its instance

two : (a b : Bool) → (a && b) ≡ true → (a ≡ true) × (b ≡ true)
two a b e = and_parts a b e

three : (a b c : Bool) → (a && (b && c)) ≡ true → (a ≡ true) × (b ≡ true) × (c ≡ true)
three a b c e = let f = and_parts a (b && c) e in let g = and_parts b c f.1 in (f.0, g.0, g.1)

four : (a b c d : Bool) → (a && (b && (c && d))) ≡ true → (a ≡ true) × (b ≡ true) × (c ≡ true) × (d ≡ true)
four a b c d e = let f = and_parts a (b && (c && d)) e in let g = three b c d f.1 in (f.0, g.0, g.1, g.2)

not_plain : false ≡ true → ⊥
not_plain e = true≢false (sym e)

module _ (p : Program) (σ : Instance) where
  mutual
    term_instance : (t : TermPattern) → is_plain_term t ≡ true → HasTermInstance p σ t
    term_instance (pattern.Put n t) e = absurd (not_plain e)
    term_instance (pattern.Lifted n) e = absurd (not_plain e)
    term_instance (pattern.OnePart h t) e = term_instance t e
    term_instance (pattern.Arithmetic op t u) e = let h = two (is_plain_term t) (is_plain_term u) e in (term_instance t h.0, term_instance u h.1)
    term_instance (pattern.Select s t o f) e = let h = three (is_plain_term t) (is_plain_term o) (is_plain_term f) e in (term_instance t h.0, term_instance o h.1, term_instance f h.2)
    term_instance (pattern.Sum t u v) e = let h = three (is_plain_term t) (is_plain_term u) (is_plain_term v) e in (term_instance t h.0, term_instance u h.1, term_instance v h.2)
    term_instance (pattern.Store t o f u) e = let h = four (is_plain_term t) (is_plain_term o) (is_plain_term f) (is_plain_term u) e in (term_instance t h.0, term_instance o h.1, term_instance f h.2, term_instance u h.3)
    term_instance (pattern.Create t o) e = let h = two (is_plain_term t) (is_plain_term o) e in (term_instance t h.0, term_instance o h.1)
    term_instance (pattern.Anon t l u) e = let h = three (is_plain_term t) (is_plain_loc l) (is_plain_term u) e in (term_instance t h.0, loc_instance l h.1, term_instance u h.2)
    term_instance t e = tt

    loc_instance : (l : LocPattern) → is_plain_loc l ≡ true → HasLocInstance p σ l
    loc_instance (pattern.LiftedLoc n) e = absurd (not_plain e)
    loc_instance (pattern.OfObject h o) e = term_instance o e
    loc_instance (pattern.Single o f) e = let h = two (is_plain_term o) (is_plain_term f) e in (term_instance o h.0, term_instance f h.1)
    loc_instance (pattern.ElementRange o t u) e = let h = three (is_plain_term o) (is_plain_term t) (is_plain_term u) e in (term_instance o h.0, term_instance t h.1, term_instance u h.2)
    loc_instance (pattern.Union l m) e = let h = two (is_plain_loc l) (is_plain_loc m) e in (loc_instance l h.0, loc_instance m h.1)
    loc_instance l e = tt

  formula_instance : (a : FormulaPattern) → is_plain_formula a ≡ true → HasFormulaInstance p σ a
  formula_instance (pattern.PutIn n t) e = absurd (not_plain e)
  formula_instance (pattern.LiftedFormula n) e = absurd (not_plain e)
  formula_instance (pattern.Not a) e = formula_instance a e
  formula_instance (pattern.Connected j a c) e = let h = two (is_plain_formula a) (is_plain_formula c) e in (formula_instance a h.0, formula_instance c h.1)
  formula_instance (pattern.Compared j t u) e = let h = two (is_plain_term t) (is_plain_term u) e in (term_instance t h.0, term_instance u h.1)
  formula_instance (pattern.Quantified j s a) e = formula_instance a e
  formula_instance (pattern.Updated x t a) e = let h = two (is_plain_term t) (is_plain_formula a) e in (term_instance t h.0, formula_instance a h.1)
  formula_instance (pattern.Focus m k c a) e = formula_instance a e
  formula_instance (pattern.Modal m c a) e = formula_instance a e
  formula_instance (pattern.InLocations o f l) e = let h = three (is_plain_term o) (is_plain_term f) (is_plain_loc l) e in (term_instance o h.0, term_instance f h.1, loc_instance l h.2)
  formula_instance (pattern.Tested j t) e = term_instance t e
  formula_instance (pattern.Classed j k o) e = term_instance o e
  formula_instance a e = tt

  pattern_instance : (f : Option Pattern) → is_plain_pattern f ≡ true → PatternHasInstance p σ f
  pattern_instance None e = tt
  pattern_instance (Some (FormulaFind a)) e = formula_instance a e
  pattern_instance (Some (TermFind t)) e = term_instance t e

  formulas_instances : (l : List FormulaPattern) → are_plain_formulas l ≡ true → FormulasHaveInstances p σ l
  formulas_instances [] e = tt
  formulas_instances (a ∷ l) e = let h = two (is_plain_formula a) (are_plain_formulas l) e in (formula_instance a h.0, formulas_instances l h.1)

  pub plain : (ns : List TacletGoal) → are_plain ns ≡ true → GoalsHaveInstances p σ ns
  plain [] e = tt
  plain (n ∷ ns) e =
      let h = two (is_plain_pattern n.replace && (are_plain_formulas n.left && are_plain_formulas n.right)) (are_plain ns) e in
      let k = three (is_plain_pattern n.replace) (are_plain_formulas n.left) (are_plain_formulas n.right) h.0 in
      ((pattern_instance n.replace k.0, formulas_instances n.left k.1, formulas_instances n.right k.2), plain ns h.1)
