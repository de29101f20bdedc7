use Rattle.std.proofs.Common.{◌≡◌, ℕ, ◌-◌, ◌<◌, ◌≤◌, true, false}
use Rattle.jd_reach.specs.Rows.{row_bit, within}
use Rattle.jd_reach.proofs.rows.next_missing.Given as goal

abbrev pub invariant-loop-bit : goal.invariant-loop-bit
invariant-loop-bit l =
    (l.from ≤ l.bit)
    × ((b : ℕ) → l.from ≤ b → b < l.bit → within l.edges.nodes (row_bit l.edges.width l.edges.words.now) l.member b ≡ true → row_bit l.edges.width l.closed l.row b ≡ false → ⊥)

abbrev pub decreases-loop-bit : goal.decreases-loop-bit
decreases-loop-bit l = l.edges.nodes - l.bit
