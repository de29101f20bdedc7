use Rattle.std.proofs.Common.{◌≡◌, map}
use Rattle.jd_jlists.specs.Views.{member_of_view}
use Rattle.jd_jseen.specs.Own.{AreOwn, routines_before}
use Rattle.jd_jseen.proofs.own.own_cells.Given as goal

-- what the members so far declare is written, and the next routine has this number
abbrev pub invariant-loop-index : goal.invariant-loop-index
invariant-loop-index l =
    let members = map member_of_view l.members in
    record {
      own : AreOwn members l.names l.count l.classes l.index l.cells.items;
      next : l.routine ≡ routines_before members l.index;
    }
