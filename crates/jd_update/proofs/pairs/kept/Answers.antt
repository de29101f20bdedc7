use Rattle.std.proofs.Common.{ap, sym, ◌∙◌}
use Rattle.jd_syntax.specs.CodeViews.{code_view}
use Rattle.jd_term.specs.Formulas.{formula_view}
use Rattle.jd_update.specs.Push.{matters}
use Rattle.jd_update.proofs.Filtered.{goes_in, stays_out}
use Rattle.jd_update.proofs.pairs.kept.Goals as goal
use Rattle.jd_update.proofs.pairs.kept.Goals.{then-matters+in_ok-copy+in_ok-push, else-matters}

pub loop-p-preserved : goal.loop-p-preserved
loop-p-preserved c =
    let passes = matters (code_view c.args.c.now) (formula_view c.args.a.now) in
    elim c.if-matters.branch [
      | then-matters+in_ok-copy+in_ok-push w ↦
          goes_in passes c.deref-p-items.result.now c.loop-p.p-index c.p-item.result c.loop-p-test.true c.p-item.is w.in_ok-copy.field-0 c.loop-p.kept.items c.if-matters.kept.items c.loop-p.invariant
          (sym c.matters.ensures ∙ w.if-matters.true) w.in_ok-copy.ensures (ap (λ v. v.items) w.kept-is ∙ w.in_ok-push.ensures.items)
      | else-matters w ↦
          stays_out passes c.deref-p-items.result.now c.loop-p.p-index c.p-item.result c.loop-p-test.true c.p-item.is c.loop-p.kept.items c.if-matters.kept.items c.loop-p.invariant
          (sym c.matters.ensures ∙ w.if-matters.false) (ap (λ v. v.items) w.kept-is)
    ]
