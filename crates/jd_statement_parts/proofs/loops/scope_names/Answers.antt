use Rattle.std.proofs.Common.{map, take, reverse, ap, sym, subst, ◌∙◌, arith}
use Rattle.jd_naming.specs.declared.scope.Mark.{Mark}
use Rattle.jd_code_makers.specs.Makers.{GivesNames}
use Rattle.jd_statement_parts.specs.Turning.{named}
use Rattle.jd_statement_parts.proofs.Naming.{all_named, name_of, next_name}
use Rattle.jd_statement_parts.proofs.Standing.{there}
use Rattle.jd_statement_parts.proofs.loops.scope_names.Goals as goal

pub loop-index-preserved : goal.loop-index-preserved
loop-index-preserved g c = λ q h.
    subst (λ ns. GivesNames c.named-names.result ns)
    (ap (λ o. named q (map (λ k. name_of q k) (take c.loop-index.index (reverse (g.S.InScope.scope c.args.scope.now).locals))) o) c.local_at.ensures ∙ next_name q (reverse (g.S.InScope.scope c.args.scope.now).locals) c.loop-index.index)
    (c.named-names.ensures q (map (λ k. name_of q k) (take c.loop-index.index (reverse (g.S.InScope.scope c.args.scope.now).locals))) h (c.loop-index.invariant q h))

pub returns : goal.returns
returns g c = λ q ls h.
    subst (λ ns. GivesNames c.loop-index.names ns)
    (all_named q (g.S.InScope.scope c.args.scope.now).locals ls c.loop-index.index c.mark-index-end.result.locals (omega (arith, c.loop-index-test.false)) (ap (λ (m : Mark). m.locals) c.mark-index-end.ensures) (h.held (sym c.ran_out.ensures ∙ c.if-ran_out.false)).1)
    (c.loop-index.invariant q (there c.args.p.now (g.S.InScope.scope c.args.scope.now).locals ls q h))
