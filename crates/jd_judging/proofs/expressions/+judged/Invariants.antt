use Rattle.std.proofs.Common.{◌≡◌, drop, map, ◌≤◌, length}
use Rattle.jd_bodies.specs.Expressions as plain
use Rattle.jd_syntax.specs.JavaTrees.{java_exprs, java_view}
use Rattle.jd_judging.proofs.expressions.+judged.Given as goal

-- what stands from there on is judged
abbrev pub invariant-arguments-loop-left : goal.invariant-arguments-loop-left
invariant-arguments-loop-left g l =
    (l.left ≤ length l.es) × (l.fit ≡ plain.arguments (g.D.Declares.declarations l.d) l.place (g.S.InScope.scope l.scope).locals (java_exprs (map java_view (drop l.left l.es))) (drop l.left l.parameters))

abbrev pub decreases-arguments-loop-left : goal.decreases-arguments-loop-left
decreases-arguments-loop-left g l = l.left
