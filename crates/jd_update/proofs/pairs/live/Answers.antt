use Rattle.std.proofs.Common.{ap, sym, ◌∙◌}
use Rattle.jd_term.specs.Formulas.{formula_view}
use Rattle.jd_term.specs.Occurs.{occurs_var_in}
use Rattle.jd_update.proofs.Filtered.{goes_in, stays_out}
use Rattle.jd_update.proofs.pairs.live.Goals as goal
use Rattle.jd_update.proofs.pairs.live.Goals.{then-occurs_var+in_ok-copy+in_ok-push, else-occurs_var}

pub loop-p-preserved : goal.loop-p-preserved
loop-p-preserved c =
    let a = formula_view c.args.f.now in
    elim c.if-occurs_var.branch [
      | then-occurs_var+in_ok-copy+in_ok-push w ↦
          goes_in (λ p. occurs_var_in p.0 a) c.args.update.now c.loop-p.p-index c.p-item.result c.loop-p-test.true c.p-item.is w.in_ok-copy.field-0 c.loop-p.alive.items c.if-occurs_var.alive.items c.loop-p.invariant
          (sym c.occurs_var.ensures ∙ w.if-occurs_var.true) w.in_ok-copy.ensures (ap (λ v. v.items) w.alive-is ∙ w.in_ok-push.ensures.items)
      | else-occurs_var w ↦
          stays_out (λ p. occurs_var_in p.0 a) c.args.update.now c.loop-p.p-index c.p-item.result c.loop-p-test.true c.p-item.is c.loop-p.alive.items c.if-occurs_var.alive.items c.loop-p.invariant
          (sym c.occurs_var.ensures ∙ w.if-occurs_var.false) (ap (λ v. v.items) w.alive-is)
    ]
