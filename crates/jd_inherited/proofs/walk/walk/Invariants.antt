use Rattle.std.proofs.Common.{◌+◌, length}
use Rattle.jd_inherited.proofs.Steps.{rank}
use Rattle.jd_inherited.proofs.Walks.{IsBetween}
use Rattle.jd_inherited.proofs.walk.walk.Given as goal

abbrev pub invariant-loop-from : goal.invariant-loop-from
invariant-loop-from l = IsBetween l.forest.parents.now l.forest.depths.now l.items l.fn.to l.from l.to (length l.fn.counts.keys.items) (length l.fn.counts.variants.items) l.counts.keys.items l.counts.variants.items

abbrev pub decreases-loop-from : goal.decreases-loop-from
decreases-loop-from l = rank l.forest.depths.now l.items l.from + rank l.forest.depths.now l.items l.to
