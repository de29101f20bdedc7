use Rattle.std.proofs.Common.{◌≡◌, ◌++◌, map, drop}
use Rattle.jd_syntax.specs.CodeViews.{stmt_view}
use Rattle.jd_first_rules.proofs.parts.extend.Given as goal

abbrev pub invariant-loop-i : goal.invariant-loop-i
invariant-loop-i l = map stmt_view l.out.items ++ map stmt_view (drop l.i l.stmts) ≡ map stmt_view l.initial.out.items ++ map stmt_view (drop l.from l.stmts)
