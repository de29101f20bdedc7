use Rattle.jd_reach.proofs.Bits.{IsJoined}
use Rattle.jd_reach.proofs.rows.join.Given as goal

abbrev pub invariant-loop-word : goal.invariant-loop-word
invariant-loop-word l = IsJoined l.width l.into l.from l.fn.words l.words l.word
