use Rattle.std.proofs.Common.{◌≡◌, ◌≤◌, length, drop, map}
use Rattle.jd_jlists.specs.Views.{member_of_view}
use Rattle.jd_jinfos.proofs.Owning.{IsMade}
use Rattle.jd_jinfos.proofs.own.own_members.Given as goal

-- what is made so far, and what the rest adds
abbrev pub invariant-loop-member : goal.invariant-loop-member
invariant-loop-member l = record {
  made : IsMade l.own.items l.field l.routine (map member_of_view (drop l.member-index l.members)) (map member_of_view l.members);
  whole : length l.own.items ≡ l.classes;
  fields : l.field ≤ l.member-index;
  routines : l.routine ≤ l.member-index;
}
