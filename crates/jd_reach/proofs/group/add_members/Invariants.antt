use Rattle.std.proofs.Common.{◌≡◌, ℕ, ◌<◌, ◌⊎◌, true, get_or}
use Rattle.std.specs.List.{Contains}
use Rattle.jd_reach.specs.Rows.{row_bit}
use Rattle.jd_reach.specs.Searches.{AreKept}
use Rattle.jd_reach.proofs.group.add_members.Given as goal

abbrev pub invariant-loop-member : goal.invariant-loop-member
invariant-loop-member l = record {
  kept : AreKept l.nodes (row_bit l.width l.fn.closed) (row_bit l.width l.closed);
  only : (a b : ℕ) → b < l.nodes → row_bit l.width l.closed a b ≡ true → (row_bit l.width l.fn.closed a b ≡ true) ⊎ ((a ≡ l.row) × Contains l.members b);
  added : (k : ℕ) → k < l.member-index → row_bit l.width l.closed l.row (get_or l.members k 0) ≡ true;
}
