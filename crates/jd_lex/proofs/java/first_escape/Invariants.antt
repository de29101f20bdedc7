use Rattle.std.proofs.Common.{◌≡◌, ◌<◌, ◌≤◌, ◌-◌, ℕ, length}
use Rattle.jd_lex.specs.Lexing.{IsEscape, is_odd, backslashes_before}
use Rattle.jd_lex.proofs.java.first_escape.Given as goal

-- no escape so far
abbrev pub invariant-loop-n : goal.invariant-loop-n
invariant-loop-n l = record {
  within : l.n ≤ length l.bytes;
  odd : l.odd ≡ is_odd (backslashes_before l.bytes l.n);
  none : (k : ℕ) → k < l.n → IsEscape l.bytes k → ⊥;
}

abbrev pub decreases-loop-n : goal.decreases-loop-n
decreases-loop-n l = length l.bytes - l.n
