use Rattle.std.proofs.Common.{◌≡◌, take, map}
use Rattle.jd_lex.specs.View.{tokens_view}
use Rattle.jd_syntax.specs.JavaTrees.{java_handlers, java_stmt_view, java_stmts}
use Rattle.jd_jcalls.specs.Handlers.{java_handler_view}
use Rattle.jd_jmlparse.specs.Filled.{bare_handlers, bare_stmts, handlers_blocks, stmts_blocks}
use Rattle.jd_jmlparse.specs.Filling.{Goes}
use Rattle.jd_jmlparse.proofs.fill.statements.+filling.Given as goal

abbrev pub invariant-fill_stmts-loop-i : goal.invariant-fill_stmts-loop-i
invariant-fill_stmts-loop-i l =
    goal.unvisited-fill_stmts-loop-i l
    × (bare_stmts (java_stmts (map java_stmt_view l.stmts)) ≡ bare_stmts (java_stmts (map java_stmt_view l.fn.stmts)))
    × Goes (tokens_view l.tokens) l.fn.first (stmts_blocks (java_stmts (map java_stmt_view (take l.i l.stmts)))) l.first

abbrev pub invariant-fill_handlers-loop-i : goal.invariant-fill_handlers-loop-i
invariant-fill_handlers-loop-i l =
    goal.unvisited-fill_handlers-loop-i l
    × (bare_handlers (java_handlers (map java_handler_view l.handlers)) ≡ bare_handlers (java_handlers (map java_handler_view l.fn.handlers)))
    × Goes (tokens_view l.tokens) l.fn.first (handlers_blocks (java_handlers (map java_handler_view (take l.i l.handlers)))) l.first
