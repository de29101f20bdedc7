use Rattle.jd_schema_matching.proofs.tests.equal_stmts.Given as goal
use Rattle.jd_syntax.specs.CodeViews.{stmt_view}
use Rattle.std.proofs.Common.{◌≡◌, length, map, take}

abbrev pub invariant-loop-i : goal.invariant-loop-i
invariant-loop-i l = (length l.a ≡ length l.b) × (map stmt_view (take l.i l.a) ≡ map stmt_view (take l.i l.b))
