use Rattle.jd_inherited.proofs.Links.{AreWaysTo}
use Rattle.jd_inherited.proofs.places.ways_past.Given as goal

abbrev pub invariant-loop-i : goal.invariant-loop-i
invariant-loop-i l = AreWaysTo l.items l.nodes l.i l.starts.items l.nexts.items
