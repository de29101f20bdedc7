use Rattle.std.proofs.Common.{◌≡◌, ◌+◌, ◌*◌, map, max}
use denote.Param.Weighed.{most}
use Rattle.jd_syntax.proofs.sx.Sx.TheLaws.{the_size}
use Rattle.jd_syntax.specs.CodeViews.{expr_view, stmt_view}
use Rattle.jd_syntax.specs.Sxs.{bracketed_list, sx_view}
use Rattle.jd_tforms.specs.Reading.{operands, reads, statements}
use Rattle.jd_tcode.proofs.Growing.{operands_from, statements_from}
use Rattle.jd_tcode.proofs.+read_code.Given as goal

-- an expression is larger than each of its parts; what stands behind a head is asked first, then its parts together, then each
abbrev pub decreases-exprs::read_expr : goal.decreases-exprs::read_expr
decreases-exprs::read_expr g l = 4 * the_size l.x.now

abbrev pub decreases-exprs::read_boxed : goal.decreases-exprs::read_boxed
decreases-exprs::read_boxed g l = 4 * the_size l.x.now + 1

abbrev pub decreases-exprs::read_operands : goal.decreases-exprs::read_operands
decreases-exprs::read_operands g l = 4 * most the_size l.parts.now + 1

abbrev pub decreases-exprs::expr_of_one : goal.decreases-exprs::expr_of_one
decreases-exprs::expr_of_one g l = 4 * the_size l.a.now + 2

abbrev pub decreases-exprs::expr_of_two : goal.decreases-exprs::expr_of_two
decreases-exprs::expr_of_two g l = 4 * max (the_size l.a.now) (the_size l.b.now) + 2

abbrev pub decreases-exprs::expr_behind : goal.decreases-exprs::expr_behind
decreases-exprs::expr_behind g l = 4 * most the_size l.parts.now + 3

abbrev pub decreases-stmts::array_behind : goal.decreases-stmts::array_behind
decreases-stmts::array_behind g l = 4 * most the_size l.parts.now + 1

abbrev pub decreases-stmts::read_array : goal.decreases-stmts::read_array
decreases-stmts::read_array g l = 4 * the_size l.x.now

abbrev pub decreases-stmts::stmt_of_one : goal.decreases-stmts::stmt_of_one
decreases-stmts::stmt_of_one g l = 4 * the_size l.a.now + 2

abbrev pub decreases-stmts::stmt_of_two : goal.decreases-stmts::stmt_of_two
decreases-stmts::stmt_of_two g l = 4 * max (the_size l.a.now) (the_size l.b.now) + 2

abbrev pub decreases-stmts::stmt_of_three : goal.decreases-stmts::stmt_of_three
decreases-stmts::stmt_of_three g l = 4 * max (the_size l.a.now) (max (the_size l.b.now) (the_size l.c.now)) + 2

abbrev pub decreases-stmts::stmt_behind : goal.decreases-stmts::stmt_behind
decreases-stmts::stmt_behind g l = 4 * most the_size l.parts.now + 3

abbrev pub decreases-stmts::read_stmt : goal.decreases-stmts::read_stmt
decreases-stmts::read_stmt g l = 4 * the_size l.x.now

abbrev pub decreases-stmts::read_stmts : goal.decreases-stmts::read_stmts
decreases-stmts::read_stmts g l = 4 * most the_size l.parts.now + 1

abbrev pub decreases-stmts::read_code : goal.decreases-stmts::read_code
decreases-stmts::read_code g l = 4 * the_size l.x.now

-- what is read so far, and what the rest adds
abbrev pub invariant-exprs::read_operands-loop-part : goal.invariant-exprs::read_operands-loop-part
invariant-exprs::read_operands-loop-part g l =
    operands (g.N.NameMeanings.table l.at.names.now) (reads (g.N.NameMeanings.table l.at.names.now) (bracketed_list (map sx_view l.parts)))
    ≡ operands_from (g.N.NameMeanings.table l.at.names.now) l.parts l.part-index (map expr_view l.operands.items)

-- the same
abbrev pub invariant-stmts::read_stmts-loop-part : goal.invariant-stmts::read_stmts-loop-part
invariant-stmts::read_stmts-loop-part g l =
    statements (g.N.NameMeanings.table l.at.names.now) (reads (g.N.NameMeanings.table l.at.names.now) (bracketed_list (map sx_view l.parts)))
    ≡ statements_from (g.N.NameMeanings.table l.at.names.now) l.parts l.part-index (map stmt_view l.stmts.items)
