use Rattle.std.proofs.Common.{List, ap, map, ◌∙◌}
use Rattle.jd_syntax.specs.JavaTrees.{JavaClass, JavaUnit, class_view}
use Rattle.jd_lists.proofs.Backwards.{map_reverse}
use Rattle.jd_java_trees.proofs.nodes.unit.Goals as goal

pub returns : goal.returns
returns c = ap (λ (cs : List JavaClass). let u : JavaUnit = record { classes = cs } in u) (ap (map class_view) c.in_order-classes.ensures ∙ (map_reverse class_view c.classes.result.items ∙ c.classes.ensures))
