use Rattle.std.proofs.Common.{◌≡◌, ◌+◌, ◌*◌, List, drop, map, max}
use denote.Param.Weighed.{most}
use Rattle.jd_bodies.specs.Bodies as plain
use Rattle.jd_bodies.specs.Scopes.{Local}
use Rattle.jd_bodies.specs.Variables.{Progress}
use Rattle.jd_code_makers.specs.Held.{Works}
use Rattle.jd_code_makers.specs.Makers.{GivesStmts}
use Rattle.jd_jcalls.specs.Handlers.{java_handler_view}
use Rattle.jd_naming.specs.Marks.{marked}
use Rattle.jd_statement_parts.specs.Catching.{GivesParts, PlainPart}
use Rattle.jd_statement_parts.specs.Leaving.{exits_view}
use Rattle.jd_statement_parts.specs.Standing.{Stands}
use Rattle.jd_statement_parts.proofs.Sequences.{Within}
use Rattle.jd_syntax.specs.Codes.{Stmt}
use Rattle.jd_syntax.specs.JavaTrees.{java_handlers, java_stmt_view, java_stmts}
use Rattle.jd_syntax.proofs.java.Handler.TheLaws.{the_size as handler_size}
use Rattle.jd_syntax.proofs.java.Stmt.TheLaws.{the_size}
use Rattle.jd_body_code.specs.Parted.{handler_parts}
use Rattle.jd_body_code.proofs.Blocks.{block_from, parts_from}
use Rattle.jd_body_code.proofs.statements.+lines.Given as goal

-- a statement is larger than each of its parts
abbrev pub decreases-lines : goal.decreases-lines
decreases-lines g l = 8 * the_size l.s.now

abbrev pub decreases-bare : goal.decreases-bare
decreases-bare g l = 8 * the_size l.s.now + 1

abbrev pub decreases-step : goal.decreases-step
decreases-step g l = 8 * the_size l.s.now + 2

abbrev pub decreases-turns : goal.decreases-turns
decreases-turns g l = 8 * the_size l.t.body.now + 2

abbrev pub decreases-block : goal.decreases-block
decreases-block g l = 8 * most the_size l.ss.now + 3

abbrev pub decreases-tried : goal.decreases-tried
decreases-tried g l = 8 * max (most the_size l.ss.now) (most handler_size l.hs.now) + 4

abbrev pub decreases-handlers : goal.decreases-handlers
decreases-handlers g l = 8 * most handler_size l.hs.now + 1

abbrev pub decreases-handler : goal.decreases-handler
decreases-handler g l = 8 * handler_size l.h.now

-- what is left gives the whole, behind what is made so far
abbrev pub invariant-block-loop-s : goal.invariant-block-loop-s
invariant-block-loop-s g l =
    ((q : Progress) (ls : List Local) → Stands l.fn.p (g.S.InScope.scope l.fn.scope).locals q ls
    → (ss : List Stmt) × (r : Progress) × (ks : List Local) × Stands l.p (g.S.InScope.scope l.scope).locals r ks × GivesStmts l.made ss
    × Within (g.D.Declares.declarations l.m.declared.now) l.m.place ks ls
    × (block_from (g.D.Declares.declarations l.m.declared.now) l.m.place ss (java_stmts (map java_stmt_view (drop l.s-index l.ss))) (exits_view l.x) ks r
    ≡ plain.block_lines (g.D.Declares.declarations l.m.declared.now) l.m.place (java_stmts (map java_stmt_view l.ss)) (exits_view l.x) ls q))
    × (Works l.p → Works l.fn.p) × (l.mark ≡ marked (g.S.InScope.scope l.fn.scope))

-- the same
abbrev pub invariant-handlers-loop-h : goal.invariant-handlers-loop-h
invariant-handlers-loop-h g l =
    ((q : Progress) (ls : List Local) → Stands l.fn.p (g.S.InScope.scope l.fn.scope).locals q ls
    → (ps : List PlainPart) × (r : Progress) × Stands l.p (g.S.InScope.scope l.scope).locals r ls × GivesParts l.parts ps
    × (parts_from (g.D.Declares.declarations l.m.declared.now) l.m.place ps (java_handlers (map java_handler_view (drop l.h-index l.hs))) (exits_view l.x) ls r
    ≡ handler_parts (g.D.Declares.declarations l.m.declared.now) l.m.place (java_handlers (map java_handler_view l.hs)) (exits_view l.x) ls q))
    × (Works l.p → Works l.fn.p)
