use Rattle.std.proofs.Common.{◌≡◌, ℕ, ◌<◌, true, length}
use Rattle.jd_reach.specs.Rows.{row_bit, within}
use Rattle.jd_reach.specs.States.{IsState}
use Rattle.jd_reach.proofs.search.closed_rows.Given as goal

abbrev pub invariant-loop-root : goal.invariant-loop-root
invariant-loop-root l = record {
  state : IsState l.nodes l.width (within l.nodes (row_bit l.width l.words)) l.search;
  none : length l.search.opened.items ≡ 0;
  finished : (v : ℕ) → v < l.root → row_bit l.width l.search.closed.items v v ≡ true;
}
