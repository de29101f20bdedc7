use Rattle.std.proofs.Common.{◌≡◌}
use Rattle.jd_declared.specs.Walks.{it_is, nearest, steps}
use Rattle.jd_declared.proofs.declared.Declared.stands_below.Given as goal

-- what is seen from the class that is reached is what the first one sees
abbrev pub invariant-loop-left : goal.invariant-loop-left
invariant-loop-left l = nearest l.self.parents.items (it_is l.above) (steps l.self.depths.items l.below) l.below ≡ nearest l.self.parents.items (it_is l.above) l.left l.at

abbrev pub decreases-loop-left : goal.decreases-loop-left
decreases-loop-left l = l.left
