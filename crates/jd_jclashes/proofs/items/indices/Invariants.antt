use Rattle.std.proofs.Common.{◌≡◌, ℕ, ◌<◌, length, slice_index}
use Rattle.jd_jclashes.proofs.items.indices.Given as goal

abbrev pub invariant-loop-i : goal.invariant-loop-i
invariant-loop-i l = record {
  length_ : length l.indices.items ≡ l.i;
  each : (k : ℕ) → k < l.i → slice_index l.indices.items k ≡ k;
}
