use Rattle.std.proofs.Common.{map, sym, subst, ◌∙◌}
use Rattle.jd_ancestry.specs.Ancestors.{AreNodes}
use Rattle.jd_syntax.specs.JavaTrees.{unit_view}
use Rattle.jd_classes.proofs.gather.gather.Goals as goal

pub depths-requires-clause-nodes : goal.depths-requires-clause-nodes
depths-requires-clause-nodes c = subst AreNodes (sym (c.deref.ensures.value ∙ c.in_ok-heads.ensures.parents)) (c.numbers_of_classes.ensures.parents (map unit_view c.args.units.now))
