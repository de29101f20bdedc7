use Rattle.std.proofs.Common.{refl, subst}
use Rattle.jd_term.specs.Makers.{GivesFormula}
use Rattle.jd_term.specs.Maps.{Anything, unchanged_leaves}
use Rattle.jd_term.specs.Formulas.{formula_view}
use Rattle.jd_term.proofs.Leafwise.{each_leaf_of_formula, same_formula}
use Rattle.jd_term.proofs.formula.Formula.copy.Goals as goal

pub map_formula-requires : goal.map_formula-requires
map_formula-requires c = each_leaf_of_formula unchanged_leaves.below Anything (λ k t. tt) 0 (formula_view c.args.self.now)

pub returns : goal.returns
returns c = subst (λ t. GivesFormula c.map_formula.result t) (same_formula unchanged_leaves (λ k t. refl) 0 (formula_view c.args.self.now)) c.map_formula.ensures
