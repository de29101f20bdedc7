use Rattle.std.proofs.Common.{◌≡◌, drop, map}
use Rattle.jd_bodies.specs.Statements as plain
use Rattle.jd_syntax.specs.JavaTrees.{declarator_view}
use Rattle.jd_statements.proofs.statements.declared_names.Given as goal

-- what is left decides, with what is in scope by now
abbrev pub invariant-loop-x : goal.invariant-loop-x
invariant-loop-x g l =
    plain.declared_names (g.D.Declares.declarations l.m.declared.now) l.m.place l.t (map declarator_view l.xs) (g.S.InScope.scope l.fn.scope)
    ≡ plain.declared_names (g.D.Declares.declarations l.m.declared.now) l.m.place l.t (map declarator_view (drop l.x-index l.xs)) (g.S.InScope.scope l.scope)
