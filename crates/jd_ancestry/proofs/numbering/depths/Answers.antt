use Rattle.jd_ancestry.proofs.Numbers.{all_filled}
use Rattle.jd_ancestry.proofs.numbering.depths.Goals as goal

pub returns : goal.returns
returns c = all_filled c.args.parents.now c.loop-start.stamps.items c.loop-start.depths.items c.loop-start.start c.loop-start.invariant c.loop-start-test.false
