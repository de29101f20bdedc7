use Rattle.std.proofs.Common.{◌≡◌, ℕ, ◌<◌, true}
use Rattle.jd_reach.specs.Rows.{row_bit, within}
use Rattle.jd_reach.specs.States.{HasVisited, IsState, steps_left}
use Rattle.jd_reach.proofs.search.Search.run.Given as goal

abbrev pub invariant-loop-position : goal.invariant-loop-position
invariant-loop-position l = record {
  state : IsState l.nodes l.width (within l.nodes (row_bit l.width l.words)) l.self;
  root : HasVisited l.width l.self l.root;
  kept : (v : ℕ) → v < l.nodes → row_bit l.width l.fn.self.closed.items v v ≡ true → HasVisited l.width l.self v;
}

abbrev pub decreases-loop-position : goal.decreases-loop-position
decreases-loop-position l = steps_left l.nodes l.self
