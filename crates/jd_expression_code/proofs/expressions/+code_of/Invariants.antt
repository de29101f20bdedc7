use Rattle.std.proofs.Common.{◌≡◌, List, drop, map}
use Rattle.jd_bodies.specs.Codes as plain
use Rattle.jd_bodies.specs.Variables.{Progress}
use Rattle.jd_syntax.specs.Codes as code
use Rattle.jd_syntax.specs.JavaTrees.{java_exprs, java_view}
use Rattle.jd_code_makers.specs.Held.{Holds}
use Rattle.jd_code_makers.specs.Makers.{GivesExprs, GivesStmts}
use Rattle.jd_expression_code.proofs.Lists.{arguments_from, codes_from}
use Rattle.jd_expression_code.proofs.expressions.+code_of.Given as goal

-- what is left gives the whole, behind what is made so far
abbrev pub invariant-codes_of-loop-e : goal.invariant-codes_of-loop-e
invariant-codes_of-loop-e g l =
    (q : Progress) → Holds l.fn.p q
    → (xs : List code.Expr) × (r : Progress) × Holds l.p r × GivesExprs l.made xs
    × (codes_from (g.D.Declares.declarations l.m.declared.now) l.m.place (g.S.InScope.scope l.scope).locals xs (java_exprs (map java_view (drop l.e-index l.es))) r
    ≡ plain.codes_of (g.D.Declares.declarations l.m.declared.now) l.m.place (g.S.InScope.scope l.scope).locals (java_exprs (map java_view l.es)) q)

-- the same
abbrev pub invariant-arguments_of-loop-e : goal.invariant-arguments_of-loop-e
invariant-arguments_of-loop-e g l =
    (q : Progress) → Holds l.fn.p q
    → (ss : List code.Stmt) × (xs : List code.Expr) × (r : Progress) × Holds l.p r × GivesStmts l.sets ss × GivesExprs l.values xs
    × (arguments_from (g.D.Declares.declarations l.m.declared.now) l.m.place (g.S.InScope.scope l.scope).locals ss xs (java_exprs (map java_view (drop l.e-index l.es))) r
    ≡ plain.arguments_of (g.D.Declares.declarations l.m.declared.now) l.m.place (g.S.InScope.scope l.scope).locals (java_exprs (map java_view l.es)) q)
