use Rattle.std.proofs.Common.{◌≡◌, ℕ, ◌<◌, Bool, get_or, true}
use Rattle.std.specs.List.{Contains}
use Rattle.jd_reach.specs.Paths.{ReachesBy}
use Rattle.jd_reach.specs.Rows.{row_bit}
use Rattle.jd_reach.specs.Searches.{AreClosed, AreKept}
use Rattle.jd_reach.proofs.group.copy_row.Given as goal

abbrev pub invariant-loop-member : goal.invariant-loop-member
invariant-loop-member l = record {
  kept : AreKept l.nodes (row_bit l.width l.fn.closed) (row_bit l.width l.closed);
  copied : (k b : ℕ) → k < l.member-index → b < l.nodes → row_bit l.width l.fn.closed l.row b ≡ true → row_bit l.width l.closed (get_or l.members k 0) b ≡ true;
  closed : (edges : ℕ → ℕ → Bool) → AreClosed l.nodes edges (row_bit l.width l.fn.closed) → row_bit l.width l.fn.closed l.row l.row ≡ true
      → ((m : ℕ) → Contains l.members m → ReachesBy edges m l.row × ReachesBy edges l.row m)
      → AreClosed l.nodes edges (row_bit l.width l.closed);
}
