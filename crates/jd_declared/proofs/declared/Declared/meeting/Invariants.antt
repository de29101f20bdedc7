use Rattle.std.proofs.Common.{◌≡◌, ◌+◌}
use Rattle.jd_declared.specs.Walks.{meeting, steps}
use Rattle.jd_declared.proofs.declared.Declared.meeting.Given as goal

-- those that are reached meet where the first ones do
abbrev pub invariant-loop-left : goal.invariant-loop-left
invariant-loop-left l =
    meeting l.self.parents.items l.self.depths.items (steps l.self.depths.items l.one + steps l.self.depths.items l.other) l.one l.other
    ≡ meeting l.self.parents.items l.self.depths.items l.left l.both.0 l.both.1

abbrev pub decreases-loop-left : goal.decreases-loop-left
decreases-loop-left l = l.left
