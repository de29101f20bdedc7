use Rattle.std.proofs.Common.{vec_len, ℕ, ◌≤◌}
use Rattle.std.specs.List.{Contains}
use Rattle.jd_reach.specs.Searches.{IsRising}
use Rattle.jd_reach.proofs.stack.pop_above.Given as goal

abbrev pub invariant-loop-last : goal.invariant-loop-last
invariant-loop-last l = record {
  rising : IsRising l.numbers.items;
  fewer : (n : ℕ) → Contains l.numbers.items n → Contains l.fn.numbers.items n;
  kept : (n : ℕ) → Contains l.fn.numbers.items n → n ≤ l.limit → Contains l.numbers.items n;
}

abbrev pub decreases-loop-last : goal.decreases-loop-last
decreases-loop-last l = vec_len l.numbers
