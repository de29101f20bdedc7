use Rattle.jd_jcalls.proofs.statements.+stmt_calls.Given as goal
use Rattle.jd_jcalls.specs.Called.{called_view}
use Rattle.jd_jcalls.specs.Calls.{calls_in_handlers, calls_in_stmts}
use Rattle.jd_jcalls.specs.Handlers.{java_handler_view}
use Rattle.jd_syntax.specs.JavaTrees.{java_handlers, java_stmt_view}
use Rattle.std.proofs.Common.{◌≡◌, ◌++◌, drop, map}

abbrev pub invariant-add_stmts_calls-loop-s : goal.invariant-add_stmts_calls-loop-s
invariant-add_stmts_calls-loop-s l =
    map called_view l.out.items ++ calls_in_stmts (map java_stmt_view (drop l.s-index l.stmts)) ≡ map called_view l.fn.out.items ++ calls_in_stmts (map java_stmt_view l.stmts)

abbrev pub invariant-add_handlers_calls-loop-handler : goal.invariant-add_handlers_calls-loop-handler
invariant-add_handlers_calls-loop-handler l =
    map called_view l.out.items ++ calls_in_handlers (java_handlers (map java_handler_view (drop l.handler-index l.handlers))) ≡ map called_view l.fn.out.items ++ calls_in_handlers (java_handlers (map java_handler_view l.handlers))
