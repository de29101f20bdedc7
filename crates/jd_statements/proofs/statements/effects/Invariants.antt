use Rattle.std.proofs.Common.{◌≡◌, drop, map}
use Rattle.jd_bodies.specs.Statements as plain
use Rattle.jd_syntax.specs.JavaTrees.{java_view}
use Rattle.jd_statements.proofs.statements.effects.Given as goal

-- what is left decides
abbrev pub invariant-loop-e : goal.invariant-loop-e
invariant-loop-e g l =
    plain.effects (g.D.Declares.declarations l.m.declared.now) l.m.place (map java_view l.es) (g.S.InScope.scope l.scope) ≡ plain.effects (g.D.Declares.declarations l.m.declared.now) l.m.place (map java_view (drop l.e-index l.es)) (g.S.InScope.scope l.scope)
