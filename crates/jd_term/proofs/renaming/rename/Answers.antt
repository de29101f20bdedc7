use Rattle.jd_term.specs.Formulas.{formula_view}
use Rattle.jd_term.specs.Makers.{GivesFormula}
use Rattle.jd_term.specs.Maps.{Anything}
use Rattle.jd_term.specs.Renamings.{both_views, rename_leaves, renaming}
use Rattle.std.proofs.Common.{map, subst}
use Rattle.jd_term.proofs.Leafwise.{each_leaf_of_formula, rename_is_map}
use Rattle.jd_term.proofs.renaming.rename.Goals as goal

pub map_formula-requires : goal.map_formula-requires
map_formula-requires c = each_leaf_of_formula (rename_leaves (renaming (map both_views c.args.pairs.now))).below Anything (λ k t. tt) 0 (formula_view c.args.f.now)

pub returns : goal.returns
returns c = subst (λ f. GivesFormula c.map_formula.result f) (rename_is_map (renaming (map both_views c.args.pairs.now)) (formula_view c.args.f.now) c.requires.formula) c.map_formula.ensures
