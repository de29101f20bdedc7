use Rattle.std.proofs.Common.{◌≡◌, ◌<◌, length, Some}
use Rattle.jd_ancestry.specs.Walks.{IsWalk, ancestor, unstamped}
use Rattle.jd_ancestry.proofs.walks.walk_up.Given as goal

abbrev pub invariant-loop-stamps : goal.invariant-loop-stamps
invariant-loop-stamps l = record {
  walk : IsWalk l.parents l.fn.stamps l.stamps l.start l.stamp l.count;
  there : ancestor l.parents l.count l.start ≡ Some l.node;
  inside : l.node < length l.parents;
}

abbrev pub decreases-loop-stamps : goal.decreases-loop-stamps
decreases-loop-stamps l = unstamped l.stamps
