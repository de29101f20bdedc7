use Rattle.std.proofs.Common.{refl}
use Rattle.jd_nearest.proofs.Cells.{one_more_cell, row_whole}
use Rattle.jd_nearest.proofs.rows.fill_row.Goals as goal

pub loop-k-preserved : goal.loop-k-preserved
loop-k-preserved c =
    one_more_cell c.args.width c.args.values.now c.loop-k.values c.args.node c.args.parent c.loop-k.k _ _ c.or.result _ _ c.requires.distinct c.loop-k-test.true
    c.requires.node c.requires.parent refl refl c.or.ensures c.loop-k.invariant

pub returns : goal.returns
returns c = row_whole c.args.width c.args.values.now c.loop-k.values c.args.node c.args.parent c.loop-k.k c.loop-k-test.false c.loop-k.invariant c.loop-k.auto.k-end
