use Rattle.std.proofs.Common.{arith, suc, sym, ◌-◌, ◌≡◌, ◌∙◌}
use Rattle.jd_told_tables.proofs.Lines.{one_up}
use Rattle.jd_told_tables.proofs.invariants.add_line.Goals as goal

pub loop-left-preserved : goal.loop-left-preserved
loop-left-preserved c =
    let fewer : c.loop-left.left ≡ suc (c.loop-left.left - 1) = omega (arith, c.loop-left-test.true) in
    one_up _ c.loop-left.made.items _ (c.loop-left.left - 1) c.loop-left.left c.loop-left.at c.in-Some.above _ fewer c.in_ok-put.ensures (sym c.in-Some.is ∙ c.extended.ensures) c.loop-left.invariant
