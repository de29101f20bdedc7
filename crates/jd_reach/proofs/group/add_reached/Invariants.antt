use Rattle.std.proofs.Common.{◌≡◌, ℕ, ◌-◌, ◌<◌, List, true}
use Rattle.std.specs.List.{Contains}
use Rattle.jd_reach.specs.Rows.{row_bit, within}
use Rattle.jd_reach.specs.Searches.{AreKept, IsFilled}
use Rattle.jd_reach.proofs.group.add_reached.Given as goal

abbrev pub invariant-loop-to : goal.invariant-loop-to
invariant-loop-to l = record {
  kept : AreKept l.nodes (row_bit l.width l.fn.closed) (row_bit l.width l.closed);
  filled : (members : List ℕ) → Contains members l.member
      → IsFilled l.nodes (within l.nodes (row_bit l.width l.words)) (row_bit l.width l.fn.closed) members l.row
      → IsFilled l.nodes (within l.nodes (row_bit l.width l.words)) (row_bit l.width l.closed) members l.row;
  covered : (members : List ℕ) → Contains members l.member
      → IsFilled l.nodes (within l.nodes (row_bit l.width l.words)) (row_bit l.width l.fn.closed) members l.row
      → (v : ℕ) → v < l.from → within l.nodes (row_bit l.width l.words) l.member v ≡ true → row_bit l.width l.closed l.row v ≡ true;
}

abbrev pub decreases-loop-to : goal.decreases-loop-to
decreases-loop-to l = l.nodes - l.from
