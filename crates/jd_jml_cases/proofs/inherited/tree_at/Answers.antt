use Rattle.jd_jml_cases.proofs.Adding.{no_tree_there, tree_there}
use Rattle.jd_jml_cases.proofs.inherited.tree_at.Goals as goal

pub returns-then-number-trees : goal.returns-then-number-trees
returns-then-number-trees c = tree_there c.args.trees.now c.args.number c.index-trees-number.result c.if-number-trees.true c.index-trees-number.is

pub returns-else-number-trees : goal.returns-else-number-trees
returns-else-number-trees c = no_tree_there c.args.trees.now c.args.number c.if-number-trees.false
