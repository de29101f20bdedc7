use Rattle.std.proofs.Common.{◌≡◌, ◌≤◌, map, length, filter, take}
use Rattle.jd_jclasses.specs.Members.{is_method}
use Rattle.jd_jlists.specs.Views.{member_of_view}
use Rattle.jd_classes.proofs.limits.count_methods.Given as goal

-- so many of the members so far are methods
abbrev pub invariant-loop-member : goal.invariant-loop-member
invariant-loop-member l = record {
  counted : l.count ≡ length (filter (λ m. is_method m.kind) (take l.member-index (map member_of_view l.members)));
  few : l.count ≤ l.member-index;
}
