use Rattle.std.proofs.Common.{◌≡◌, drop, length, map}
use Rattle.jd_specifications.specs.Refused as plain
use Rattle.jd_jcalls.specs.Handlers.{java_handler_view}
use Rattle.jd_syntax.specs.JavaTrees.{java_handlers, java_stmt_view, java_stmts}
use Rattle.jd_jml_judging.specs.Visible.{locals_of}
use Rattle.jd_jml_members.proofs.statements.+stmt.Given as goal

-- what is left decides, with what is in scope by now
abbrev pub invariant-stmts-loop-s : goal.invariant-stmts-loop-s
invariant-stmts-loop-s g l =
    plain.stmts (g.D.Declares.declarations l.m.declared.now) l.m.place (java_stmts (map java_stmt_view l.ss)) (locals_of l.fn.names)
    ≡ plain.stmts (g.D.Declares.declarations l.m.declared.now) l.m.place (java_stmts (map java_stmt_view (drop l.s-index l.ss))) (locals_of l.names)

-- the same, and each handler begins in the scope of the first
abbrev pub invariant-handlers-loop-handler : goal.invariant-handlers-loop-handler
invariant-handlers-loop-handler g l =
    (plain.handlers (g.D.Declares.declarations l.m.declared.now) l.m.place (java_handlers (map java_handler_view l.hs)) (locals_of l.fn.names)
    ≡ plain.handlers (g.D.Declares.declarations l.m.declared.now) l.m.place (java_handlers (map java_handler_view (drop l.handler-index l.hs))) (locals_of l.names))
    × (l.mark ≡ length (locals_of l.names))
