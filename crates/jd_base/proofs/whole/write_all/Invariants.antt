use Rattle.std.proofs.Common.{length, ◌-◌}
use Rattle.jd_base.proofs.Pieces.{Writing}
use Rattle.jd_base.proofs.whole.write_all.Given as goal

abbrev pub invariant-loop-written : goal.invariant-loop-written
invariant-loop-written g l =
    Writing (g.S.Sink.bytes l.fn.sink) (g.S.Sink.bytes l.sink) (g.S.Sink.faults l.fn.sink) (g.S.Sink.faults l.sink) (g.S.Sink.steady l.fn.sink) (g.S.Sink.steady l.sink) l.bytes l.written

abbrev pub decreases-loop-written : goal.decreases-loop-written
decreases-loop-written g l = length l.bytes - l.written
