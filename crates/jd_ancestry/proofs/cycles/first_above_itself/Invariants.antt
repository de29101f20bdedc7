use Rattle.jd_ancestry.specs.Walks.{IsMarked}
use Rattle.jd_ancestry.proofs.cycles.first_above_itself.Given as goal

abbrev pub invariant-loop-start : goal.invariant-loop-start
invariant-loop-start l = IsMarked l.parents l.stamps.items l.marks.items l.start
