use Rattle.std.proofs.Common.{map}
use Rattle.jd_jfamilies.specs.Listed.{AreListed}
use Rattle.jd_jlists.specs.Views.{member_of_view}
use Rattle.jd_jseen.specs.Seen.{cells_of, name_count}
use Rattle.jd_jfamilies.proofs.overridden.all_seen_above.Given as goal

-- the routines so far are listed
abbrev pub invariant-loop-index : goal.invariant-loop-index
invariant-loop-index l = AreListed l.parents (map member_of_view l.members) l.names (name_count l.seen) (cells_of l.seen) l.index l.listed.items
