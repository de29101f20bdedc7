use Rattle.std.proofs.Common.{◌≡◌, ◌-◌, vec_len}
use Rattle.jd_base.specs.Faults.{StaySteady}
use Rattle.jd_base.proofs.Pieces.{Reading}
use Rattle.jd_base.proofs.whole.read_whole.Given as goal

abbrev pub invariant-loop-bytes : goal.invariant-loop-bytes
invariant-loop-bytes g l =
    (vec_len l.piece ≡ 65536)
    × Reading (g.L.Library.contents l.fn.library) (g.L.Library.contents l.library) (g.L.Library.faults l.fn.library) (g.L.Library.faults l.library) l.name l.limit (vec_len l.bytes) l.bytes.items
    × StaySteady (g.L.Library.steady l.fn.library) (g.L.Library.steady l.library)

abbrev pub decreases-loop-bytes : goal.decreases-loop-bytes
decreases-loop-bytes g l = l.limit - vec_len l.bytes
