use Rattle.std.proofs.Common.{map}
use Rattle.jd_jlists.specs.Views.{member_of_view}
use Rattle.jd_jclashes.proofs.Repeating.{AreSeen}
use Rattle.jd_jclashes.proofs.repeats.first_repeat.Given as goal

abbrev pub invariant-loop-i : goal.invariant-loop-i
invariant-loop-i l = AreSeen l.compared (map member_of_view l.members) l.names.of.now l.names.count l.i l.last.items
