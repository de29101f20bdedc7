use Rattle.jd_ancestry.proofs.Marks.{first_is}
use Rattle.jd_ancestry.proofs.cycles.first_above_itself.Goals as goal

pub returns : goal.returns
returns c =
    first_is c.args.parents.now c.loop-start.stamps.items c.loop-start.marks.items c.deref.result.now c.loop-start.start c.loop-start.invariant c.loop-start-test.false c.deref.ensures.value
    c.first_marked.result c.first_marked.ensures
