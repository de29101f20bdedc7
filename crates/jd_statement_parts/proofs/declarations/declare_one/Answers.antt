use Rattle.std.proofs.Common.{◌∷◌, subst}
use Rattle.jd_syntax.specs.JavaTrees.{declarator_view}
use Rattle.jd_bodies.specs.Bodies.{initial_lines}
use Rattle.jd_bodies.specs.Variables.{with_local}
use Rattle.jd_code_makers.specs.Makers.{GivesStmts}
use Rattle.jd_statement_parts.specs.Standing.{Stands, local_of}
use Rattle.jd_statement_parts.proofs.declarations.declare_one.Goals as goal

pub returns-clause-stands : goal.returns-clause-stands
returns-clause-stands g c = λ q ls h.
    subst (λ n. Stands c.initial_code.new.p (g.S.InScope.scope c.enter.new.scope).locals (initial_lines (g.D.Declares.declarations c.args.m.now.declared.now) c.args.m.now.place (local_of n c.args.t ∷ ls) (declarator_view c.args.x.now).name c.args.t (declarator_view c.args.x.now).value (with_local n c.args.t q)).0 (local_of n c.args.t ∷ ls)) c.deref.ensures.value
    (c.initial_code.ensures.stands (with_local c.deref.result.now c.args.t q) (local_of c.deref.result.now c.args.t ∷ ls) (c.enter.ensures.stands q ls h))

pub returns-clause-stmts : goal.returns-clause-stmts
returns-clause-stmts g c = λ q ls h.
    subst (λ n. GivesStmts c.initial_code.result (initial_lines (g.D.Declares.declarations c.args.m.now.declared.now) c.args.m.now.place (local_of n c.args.t ∷ ls) (declarator_view c.args.x.now).name c.args.t (declarator_view c.args.x.now).value (with_local n c.args.t q)).1) c.deref.ensures.value
    (c.initial_code.ensures.stmts (with_local c.deref.result.now c.args.t q) (local_of c.deref.result.now c.args.t ∷ ls) (c.enter.ensures.stands q ls h))
