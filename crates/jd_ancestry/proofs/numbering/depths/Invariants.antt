use Rattle.jd_ancestry.specs.Walks.{IsFilled}
use Rattle.jd_ancestry.proofs.numbering.depths.Given as goal

abbrev pub invariant-loop-start : goal.invariant-loop-start
invariant-loop-start l = IsFilled l.parents l.stamps.items l.depths.items l.start
