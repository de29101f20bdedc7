use Rattle.std.proofs.Common.{◌≡◌, drop, map}
use Rattle.jd_bodies.specs.Jumps as plain
use Rattle.jd_jcalls.specs.Handlers.{java_handler_view}
use Rattle.jd_syntax.specs.JavaTrees.{java_handlers, java_stmt_view, java_stmts}
use Rattle.jd_effect_code.specs.Asking.{asked_view}
use Rattle.jd_effect_code.proofs.jumps.+jumps.Given as goal

-- what is left decides
abbrev pub invariant-jumps_in-loop-s : goal.invariant-jumps_in-loop-s
invariant-jumps_in-loop-s l = plain.jumps_in (java_stmts (map java_stmt_view l.ss)) (asked_view l.a) ≡ plain.jumps_in (java_stmts (map java_stmt_view (drop l.s-index l.ss))) (asked_view l.a)

-- the same
abbrev pub invariant-jumps_in_handlers-loop-h : goal.invariant-jumps_in_handlers-loop-h
invariant-jumps_in_handlers-loop-h l = plain.jumps_in_handlers (java_handlers (map java_handler_view l.hs)) (asked_view l.a) ≡ plain.jumps_in_handlers (java_handlers (map java_handler_view (drop l.h-index l.hs))) (asked_view l.a)
