use Rattle.std.proofs.Common.{◌≡◌, drop, map}
use Rattle.jd_bodies.specs.Statements as plain
use Rattle.jd_jcalls.specs.Handlers.{java_handler_view}
use Rattle.jd_syntax.specs.JavaTrees.{java_handlers, java_stmt_view, java_stmts}
use Rattle.jd_naming.specs.Marks.{marked}
use Rattle.jd_statements.proofs.bodies.+stmt.Given as goal

-- what is left decides, with what is in scope by now
abbrev pub invariant-stmts-loop-s : goal.invariant-stmts-loop-s
invariant-stmts-loop-s g l =
    plain.stmts (g.D.Declares.declarations l.m.declared.now) l.m.place l.m.returns (java_stmts (map java_stmt_view l.ss)) (g.S.InScope.scope l.fn.scope)
    ≡ plain.stmts (g.D.Declares.declarations l.m.declared.now) l.m.place l.m.returns (java_stmts (map java_stmt_view (drop l.s-index l.ss))) (g.S.InScope.scope l.scope)

-- the same, and each handler begins in the scope of the first
abbrev pub invariant-handlers-loop-handler : goal.invariant-handlers-loop-handler
invariant-handlers-loop-handler g l =
    (plain.handlers (g.D.Declares.declarations l.m.declared.now) l.m.place l.m.returns (java_handlers (map java_handler_view l.hs)) (g.S.InScope.scope l.fn.scope)
    ≡ plain.handlers (g.D.Declares.declarations l.m.declared.now) l.m.place l.m.returns (java_handlers (map java_handler_view (drop l.handler-index l.hs))) (g.S.InScope.scope l.scope))
    × (l.mark ≡ marked (g.S.InScope.scope l.scope))
