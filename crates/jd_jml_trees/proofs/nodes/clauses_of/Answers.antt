use Rattle.std.proofs.Common.{◌∙◌}
use Rattle.jd_jml_trees.proofs.Standing.{stands}
use Rattle.jd_jml_trees.proofs.nodes.clauses_of.Goals as goal

pub returns : goal.returns
returns c tree is = c.clauses_in.ensures ∙ stands tree.forest c.args.lexemes.now c.in_ok-value.value (c.in_ok-value.ensures tree is)
