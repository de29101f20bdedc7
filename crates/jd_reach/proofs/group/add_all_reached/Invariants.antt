use Rattle.std.proofs.Common.{◌≡◌, ℕ, ◌<◌, get_or, true}
use Rattle.jd_reach.specs.Rows.{row_bit, within}
use Rattle.jd_reach.specs.Searches.{AreKept, IsFilled}
use Rattle.jd_reach.proofs.group.add_all_reached.Given as goal

abbrev pub invariant-loop-member : goal.invariant-loop-member
invariant-loop-member l = record {
  kept : AreKept l.nodes (row_bit l.width l.fn.closed) (row_bit l.width l.closed);
  filled : IsFilled l.nodes (within l.nodes (row_bit l.width l.words)) (row_bit l.width l.closed) l.members l.row;
  covered : (k v : ℕ) → k < l.member-index → within l.nodes (row_bit l.width l.words) (get_or l.members k 0) v ≡ true → row_bit l.width l.closed l.row v ≡ true;
}
