use Rattle.std.proofs.Common.{◌∙◌}
use Rattle.jd_java_trees.proofs.Standing.{stands}
use Rattle.jd_java_trees.proofs.nodes.tree_of.Goals as goal

pub returns : goal.returns
returns c tree is = c.unit.ensures ∙ stands tree.forest c.args.lexemes.now c.in_ok-value.value (c.in_ok-value.ensures tree is)
