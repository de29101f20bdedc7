use Rattle.std.proofs.Common.{◌≡◌, List, drop, map}
use Rattle.jd_bodies.specs.Bodies as plain
use Rattle.jd_bodies.specs.Scopes.{Local}
use Rattle.jd_bodies.specs.Variables.{Progress}
use Rattle.jd_code_makers.specs.Held.{Works}
use Rattle.jd_code_makers.specs.Makers.{GivesStmts}
use Rattle.jd_syntax.specs.Codes.{Stmt}
use Rattle.jd_syntax.specs.JavaTrees.{java_view}
use Rattle.jd_statement_parts.specs.Standing.{Stands}
use Rattle.jd_statement_parts.proofs.Sequences.{effects_from}
use Rattle.jd_statement_parts.proofs.declarations.effects.Given as goal

-- what is left gives the whole, behind what is made so far
abbrev pub invariant-loop-e : goal.invariant-loop-e
invariant-loop-e g l =
    ((q : Progress) (ls : List Local) → Stands l.fn.p (g.S.InScope.scope l.scope).locals q ls
    → (ss : List Stmt) × (r : Progress) × Stands l.p (g.S.InScope.scope l.scope).locals r ls × GivesStmts l.made ss
    × (effects_from (g.D.Declares.declarations l.m.declared.now) l.m.place ls ss (map java_view (drop l.e-index l.es)) r
    ≡ plain.effects_lines (g.D.Declares.declarations l.m.declared.now) l.m.place ls (map java_view l.es) q))
    × (Works l.p → Works l.fn.p)
