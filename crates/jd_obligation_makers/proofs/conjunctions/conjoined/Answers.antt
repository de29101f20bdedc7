use Rattle.std.proofs.Common.{refl}
use Rattle.jd_obligation_makers.proofs.Turns.{turn}
use Rattle.jd_obligation_makers.proofs.conjunctions.conjoined.Goals as goal

pub loop-member-preserved : goal.loop-member-preserved
loop-member-preserved c = turn _ _ c.in-Some-pop.member _ _ _ c.in-Some-pop.ensures.items (c.in_ok-whole.ensures _ _ refl refl) c.loop-member.invariant
