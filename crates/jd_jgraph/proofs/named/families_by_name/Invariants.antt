use Rattle.std.proofs.Common.{◌≡◌, length, map}
use Rattle.jd_jlists.specs.Views.{member_of_view}
use Rattle.jd_jseen.specs.Own.{routines_before}
use Rattle.jd_jgraph.specs.Named.{AreNamed, lists_of}
use Rattle.jd_jgraph.proofs.named.families_by_name.Given as goal

-- the lists have the methods so far, and the next routine has this number
abbrev pub invariant-loop-index : goal.invariant-loop-index
invariant-loop-index l =
    let members = map member_of_view l.members in
    record {
      each : length (lists_of l.lists.items) ≡ l.count;
      named : AreNamed members l.names l.families l.index (lists_of l.lists.items);
      next : l.routine ≡ routines_before members l.index;
    }
