use Rattle.std.proofs.Common.{◌≡◌, ◌++◌, drop, map}
use Rattle.jd_jcalls.specs.Handlers.{java_handler_view}
use Rattle.jd_syntax.specs.JavaTrees.{java_handlers, java_stmt_view}
use Rattle.jd_jml_written.specs.Loops as plain
use Rattle.jd_jml_written.specs.Views.{loop_view}
use Rattle.jd_jml_written.proofs.loops.+loops.Given as goal

-- those so far, and what those that are left add
abbrev pub invariant-add_each-loop-s : goal.invariant-add_each-loop-s
invariant-add_each-loop-s l =
    map loop_view l.made.items ++ plain.loops_of (map java_stmt_view (drop l.s-index l.ss)) ≡ map loop_view l.fn.made.items ++ plain.loops_of (map java_stmt_view l.ss)

abbrev pub invariant-add_handled-loop-handler : goal.invariant-add_handled-loop-handler
invariant-add_handled-loop-handler l =
    map loop_view l.made.items ++ plain.loops_in_handlers (java_handlers (map java_handler_view (drop l.handler-index l.hs))) ≡ map loop_view l.fn.made.items ++ plain.loops_in_handlers (java_handlers (map java_handler_view l.hs))
