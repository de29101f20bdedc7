use Rattle.std.proofs.Common.{◌≡◌, List, drop, map}
use Rattle.jd_bodies.specs.Bodies as plain
use Rattle.jd_bodies.specs.Scopes.{Local}
use Rattle.jd_bodies.specs.Variables.{Progress}
use Rattle.jd_code_makers.specs.Held.{Works}
use Rattle.jd_statement_parts.specs.Standing.{Stands}
use Rattle.jd_syntax.specs.JavaTrees.{parameter_view}
use Rattle.jd_body_code.proofs.bodies.with_parameters.Given as goal

-- what is left gives the whole
abbrev pub invariant-loop-x : goal.invariant-loop-x
invariant-loop-x g l =
    ((q : Progress) (ls : List Local) → Stands l.fn.p (g.S.InScope.scope l.fn.scope).locals q ls
    → (r : Progress) × (ks : List Local) × Stands l.p (g.S.InScope.scope l.scope).locals r ks
    × (plain.with_parameters (g.D.Declares.declarations l.m.declared.now) (map parameter_view (drop l.x-index l.parameters)) r
    ≡ plain.with_parameters (g.D.Declares.declarations l.m.declared.now) (map parameter_view l.parameters) q)
    × (plain.parameter_locals (g.D.Declares.declarations l.m.declared.now) (map parameter_view (drop l.x-index l.parameters)) ks
    ≡ plain.parameter_locals (g.D.Declares.declarations l.m.declared.now) (map parameter_view l.parameters) ls))
    × (Works l.p → Works l.fn.p)
