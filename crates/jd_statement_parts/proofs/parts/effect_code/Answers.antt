use Rattle.std.proofs.Common.{sym, ◌∙◌}
use Rattle.jd_bodies.specs.Bodies.{effect_lines}
use Rattle.jd_syntax.specs.JavaTrees.{java_view}
use Rattle.jd_code_makers.specs.Makers.{GivesStmts}
use Rattle.jd_statement_parts.proofs.Standing.{goes_on, is_made}
use Rattle.jd_statement_parts.proofs.parts.effect_code.Goals as goal

pub returns-clause-stands : goal.returns-clause-stands
returns-clause-stands g c = λ q ls h.
    goes_on (λ l. (effect_lines (g.D.Declares.declarations c.args.m.now.declared.now) c.args.m.now.place l (java_view c.args.e.now) q).0) c.args.p.now c.effect.new.p (g.S.InScope.scope c.args.scope.now).locals ls q (sym c.ran_out.ensures ∙ c.if-ran_out.false) h (c.effect.ensures.progress q)

pub returns-clause-stmts : goal.returns-clause-stmts
returns-clause-stmts g c = λ q ls h.
    is_made (λ l. GivesStmts c.effect.result (effect_lines (g.D.Declares.declarations c.args.m.now.declared.now) c.args.m.now.place l (java_view c.args.e.now) q).1) c.args.p.now (g.S.InScope.scope c.args.scope.now).locals ls q (sym c.ran_out.ensures ∙ c.if-ran_out.false) h (c.effect.ensures.stmts q)
