-- The views of patterns of formulas.
use Rattle.jd_patterns.specs.Patterns.{FormulaPattern, FormulaVar, PutIn, LiftedFormula, TrueFormula, FalseFormula, Not, Connected, AndOf, OrOf, ImpliesOf, IffOf, Compared, EqualOf, LessOf, LessOrEqualOf, InvariantOf, Quantified, ForallOf, ExistsOf, Updated, Focus, Modal, InLocations, Tested, InIntOf, WellFormedOf, Classed, InstanceTest, ExactTest}
use Rattle.jd_schema_trees.specs.HeadViews.{sort_pattern, kind_pattern, modality_pattern, name_pattern}
use Rattle.jd_schema_trees.specs.TermViews.{term_pattern, loc_pattern}
use Rattle.jd_schema_trees.specs.CodeViews.{code_pattern}
use Rattle.jd_schema_trees.specs.declared.formula.SFormula.{SFormula}
use Rattle.jd_schema_trees.specs.declared.formula.SFormula.TheVariants as formulas

abbrev pub formula_pattern : SFormula → FormulaPattern
formula_pattern (formulas.Any n) = FormulaVar n.items
formula_pattern (formulas.Put n t) = PutIn n.items (term_pattern t.value)
formula_pattern (formulas.Lifted n) = LiftedFormula n.items
formula_pattern formulas.TrueFormula = TrueFormula
formula_pattern formulas.FalseFormula = FalseFormula
formula_pattern (formulas.Not' p a) = Not (formula_pattern a)
formula_pattern (formulas.And' p a q c) = Connected AndOf (formula_pattern a) (formula_pattern c)
formula_pattern (formulas.Or' p a q c) = Connected OrOf (formula_pattern a) (formula_pattern c)
formula_pattern (formulas.Implies' p a q c) = Connected ImpliesOf (formula_pattern a) (formula_pattern c)
formula_pattern (formulas.Iff' p a q c) = Connected IffOf (formula_pattern a) (formula_pattern c)
formula_pattern (formulas.Equal t u) = Compared EqualOf (term_pattern t.value) (term_pattern u.value)
formula_pattern (formulas.Less t u) = Compared LessOf (term_pattern t.value) (term_pattern u.value)
formula_pattern (formulas.LessOrEqual t u) = Compared LessOrEqualOf (term_pattern t.value) (term_pattern u.value)
formula_pattern (formulas.Forall' s p a) = Quantified ForallOf (sort_pattern s) (formula_pattern a)
formula_pattern (formulas.Exists' s p a) = Quantified ExistsOf (sort_pattern s) (formula_pattern a)
formula_pattern (formulas.Updated' x t p a) = Updated (name_pattern x) (term_pattern t.value) (formula_pattern a)
formula_pattern (formulas.Focus' n k c p a) = Focus n.items k.items (code_pattern c) (formula_pattern a)
formula_pattern (formulas.Modal' m c p a) = Modal (modality_pattern m) (code_pattern c) (formula_pattern a)
formula_pattern (formulas.InLocations t u l) = InLocations (term_pattern t.value) (term_pattern u.value) (loc_pattern l.value)
formula_pattern (formulas.InInt t) = Tested InIntOf (term_pattern t.value)
formula_pattern (formulas.WellFormed t) = Tested WellFormedOf (term_pattern t.value)
formula_pattern (formulas.Invariant t u) = Compared InvariantOf (term_pattern t.value) (term_pattern u.value)
formula_pattern (formulas.IsInstance k t) = Classed InstanceTest (kind_pattern k) (term_pattern t.value)
formula_pattern (formulas.IsExactInstance k t) = Classed ExactTest (kind_pattern k) (term_pattern t.value)
