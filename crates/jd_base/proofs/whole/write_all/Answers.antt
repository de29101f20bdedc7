use Rattle.jd_base.proofs.Pieces.{Writing-more}
use Rattle.jd_base.proofs.whole.write_all.Goals as goal

pub loop-written-preserved : goal.loop-written-preserved
loop-written-preserved g c =
    Writing-more _ _ _ c.loop-written.invariant c.in_ok-written.ensures.bound c.in_ok-written.ensures.no_fault c.in_ok-written.ensures.added c.in_ok-written.ensures.still_steady
