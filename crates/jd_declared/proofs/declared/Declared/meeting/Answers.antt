use Rattle.jd_declared.proofs.Walking.{meet_goes_on, unequal}
use Rattle.jd_declared.proofs.declared.Declared.meeting.Goals as goal

pub loop-left-preserved : goal.loop-left-preserved
loop-left-preserved c =
    meet_goes_on c.args.self.now.parents.items c.args.self.now.depths.items _ c.loop-left.left c.loop-left.both.0 c.loop-left.both.1 c.loop-left.invariant c.one_up.result c.in-Some.next
    c.loop-left-test.true (unequal c.loop-left.both.0 c.loop-left.both.1 c.if-both.false) c.one_up.ensures c.in-Some.is
