use Rattle.std.proofs.Common.{◌≡◌, List, drop, map}
use Rattle.jd_bodies.specs.Bodies as plain
use Rattle.jd_bodies.specs.Scopes.{Local}
use Rattle.jd_bodies.specs.Variables.{Progress}
use Rattle.jd_code_makers.specs.Held.{Works}
use Rattle.jd_code_makers.specs.Makers.{GivesStmts}
use Rattle.jd_syntax.specs.Codes.{Stmt}
use Rattle.jd_syntax.specs.JavaTrees.{declarator_view}
use Rattle.jd_statement_parts.specs.Standing.{Stands}
use Rattle.jd_statement_parts.proofs.Sequences.{declared_from}
use Rattle.jd_statement_parts.proofs.declarations.declared_of.Given as goal

-- what is left gives the whole, behind what is made so far
abbrev pub invariant-loop-x : goal.invariant-loop-x
invariant-loop-x g l =
    ((q : Progress) (ls : List Local) → Stands l.fn.p (g.S.InScope.scope l.fn.scope).locals q ls
    → (ss : List Stmt) × (r : Progress) × (ks : List Local) × Stands l.p (g.S.InScope.scope l.scope).locals r ks × GivesStmts l.made ss
    × (declared_from (g.D.Declares.declarations l.m.declared.now) l.m.place l.t ss (map declarator_view (drop l.x-index l.xs)) ks r
    ≡ plain.declared_lines (g.D.Declares.declarations l.m.declared.now) l.m.place l.t (map declarator_view l.xs) ls q))
    × (Works l.p → Works l.fn.p)
