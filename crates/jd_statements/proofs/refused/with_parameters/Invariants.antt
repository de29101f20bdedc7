use Rattle.std.proofs.Common.{◌≡◌, drop, map}
use Rattle.jd_bodies.specs.Refused as plain
use Rattle.jd_syntax.specs.JavaTrees.{parameter_view}
use Rattle.jd_statements.proofs.refused.with_parameters.Given as goal

-- what is left decides, with what is in scope by now
abbrev pub invariant-loop-x : goal.invariant-loop-x
invariant-loop-x g l =
    plain.with_parameters (g.D.Declares.declarations l.d) (map parameter_view l.parameters) (g.S.InScope.scope l.fn.scope)
    ≡ plain.with_parameters (g.D.Declares.declarations l.d) (map parameter_view (drop l.x-index l.parameters)) (g.S.InScope.scope l.scope)
