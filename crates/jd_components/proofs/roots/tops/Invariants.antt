use Rattle.jd_components.proofs.Tops.{AreTopsBegun}
use Rattle.jd_components.proofs.roots.tops.Given as goal

abbrev pub invariant-loop-node : goal.invariant-loop-node
invariant-loop-node l = AreTopsBegun l.parents l.tops.items l.node
