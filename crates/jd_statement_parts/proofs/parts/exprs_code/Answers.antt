use Rattle.std.proofs.Common.{map, sym, ◌∙◌}
use Rattle.jd_bodies.specs.Codes.{codes_of}
use Rattle.jd_syntax.specs.JavaTrees.{java_exprs, java_view}
use Rattle.jd_code_makers.specs.Makers.{GivesExprs}
use Rattle.jd_statement_parts.proofs.Standing.{goes_on, is_made}
use Rattle.jd_statement_parts.proofs.parts.exprs_code.Goals as goal

pub returns-clause-stands : goal.returns-clause-stands
returns-clause-stands g c = λ q ls h.
    goes_on (λ l. (codes_of (g.D.Declares.declarations c.args.m.now.declared.now) c.args.m.now.place l (java_exprs (map java_view c.args.es.now)) q).0) c.args.p.now c.codes_of.new.p (g.S.InScope.scope c.args.scope.now).locals ls q (sym c.ran_out.ensures ∙ c.if-ran_out.false) h (c.codes_of.ensures.progress q)

pub returns-clause-values : goal.returns-clause-values
returns-clause-values g c = λ q ls h.
    is_made (λ l. GivesExprs c.codes_of.result (codes_of (g.D.Declares.declarations c.args.m.now.declared.now) c.args.m.now.place l (java_exprs (map java_view c.args.es.now)) q).1) c.args.p.now (g.S.InScope.scope c.args.scope.now).locals ls q (sym c.ran_out.ensures ∙ c.if-ran_out.false) h (c.codes_of.ensures.values q)
