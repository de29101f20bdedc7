use Rattle.std.proofs.Common.{map, take}
use Rattle.jd_code_makers.specs.Makers.{GivesStmts}
use Rattle.jd_syntax.specs.CodeViews.{stmt_view}
use Rattle.jd_schema.proofs.part.statements.Given as goal

abbrev pub invariant-loop-s : goal.invariant-loop-s
invariant-loop-s l = GivesStmts l.made (map stmt_view (take l.s-index l.stmts))
