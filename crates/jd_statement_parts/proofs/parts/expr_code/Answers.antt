use Rattle.std.proofs.Common.{sym, ◌∙◌}
use Rattle.jd_bodies.specs.Codes.{code_of}
use Rattle.jd_syntax.specs.JavaTrees.{java_view}
use Rattle.jd_code_makers.specs.Makers.{GivesExpr}
use Rattle.jd_statement_parts.proofs.Standing.{goes_on, is_made}
use Rattle.jd_statement_parts.proofs.parts.expr_code.Goals as goal

pub returns-clause-stands : goal.returns-clause-stands
returns-clause-stands g c = λ q ls h.
    goes_on (λ l. (code_of (g.D.Declares.declarations c.args.m.now.declared.now) c.args.m.now.place l (java_view c.args.e.now) q).0) c.args.p.now c.code_of.new.p (g.S.InScope.scope c.args.scope.now).locals ls q (sym c.ran_out.ensures ∙ c.if-ran_out.false) h (c.code_of.ensures.progress q)

pub returns-clause-value : goal.returns-clause-value
returns-clause-value g c = λ q ls h.
    is_made (λ l. GivesExpr c.code_of.result (code_of (g.D.Declares.declarations c.args.m.now.declared.now) c.args.m.now.place l (java_view c.args.e.now) q).1) c.args.p.now (g.S.InScope.scope c.args.scope.now).locals ls q (sym c.ran_out.ensures ∙ c.if-ran_out.false) h (c.code_of.ensures.value q)
