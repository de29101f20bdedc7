use Rattle.std.proofs.Common.{◌≡◌, ◌≤◌, length, take}
use Rattle.jd_lex.specs.Parts.{without_last_ats}
use Rattle.jd_lex.proofs.runs.trimmed_len.Given as goal

-- what is behind the first n bytes are `@` signs
abbrev pub invariant-loop-n : goal.invariant-loop-n
invariant-loop-n l = record { within : l.n ≤ length l.bytes; same : without_last_ats (take l.n l.bytes) ≡ without_last_ats l.bytes }

abbrev pub decreases-loop-n : goal.decreases-loop-n
decreases-loop-n l = l.n
