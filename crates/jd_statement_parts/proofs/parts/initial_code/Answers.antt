use Rattle.std.proofs.Common.{sym, ◌∙◌}
use Rattle.jd_bodies.specs.Bodies.{initial_lines}
use Rattle.jd_syntax.specs.JavaTrees.{declarator_view}
use Rattle.jd_code_makers.specs.Makers.{GivesStmts}
use Rattle.jd_statement_parts.proofs.Standing.{goes_on, is_made}
use Rattle.jd_statement_parts.proofs.parts.initial_code.Goals as goal

pub returns-clause-stands : goal.returns-clause-stands
returns-clause-stands g c = λ q ls h.
    goes_on (λ l. (initial_lines (g.D.Declares.declarations c.args.m.now.declared.now) c.args.m.now.place l (declarator_view c.args.x.now).name c.args.t (declarator_view c.args.x.now).value q).0) c.args.p.now c.initial.new.p (g.S.InScope.scope c.args.scope.now).locals ls q (sym c.ran_out.ensures ∙ c.if-ran_out.false) h (c.initial.ensures.progress q)

pub returns-clause-stmts : goal.returns-clause-stmts
returns-clause-stmts g c = λ q ls h.
    is_made (λ l. GivesStmts c.initial.result (initial_lines (g.D.Declares.declarations c.args.m.now.declared.now) c.args.m.now.place l (declarator_view c.args.x.now).name c.args.t (declarator_view c.args.x.now).value q).1) c.args.p.now (g.S.InScope.scope c.args.scope.now).locals ls q (sym c.ran_out.ensures ∙ c.if-ran_out.false) h (c.initial.ensures.stmts q)
