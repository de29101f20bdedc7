use Rattle.std.proofs.Common.{◌≡◌}
use Rattle.jd_declared.specs.Told.{own_value}
use Rattle.jd_declared.specs.Walks.{nearest, steps}
use Rattle.jd_declared.proofs.declared.Declared.nearest_variable.Given as goal

-- what is seen from the class that is reached is what the first one sees
abbrev pub invariant-loop-left : goal.invariant-loop-left
invariant-loop-left l = nearest l.self.parents.items (own_value l.self.variables.items l.name) (steps l.self.depths.items l.class) l.class ≡ nearest l.self.parents.items (own_value l.self.variables.items l.name) l.left l.at

abbrev pub decreases-loop-left : goal.decreases-loop-left
decreases-loop-left l = l.left
