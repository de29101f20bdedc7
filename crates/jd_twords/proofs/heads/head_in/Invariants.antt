use Rattle.std.proofs.Common.{◌≡◌, drop}
use Rattle.std.specs.List.{find}
use Rattle.std.specs.Str.{bytes_eq}
use Rattle.jd_twords.proofs.heads.head_in.Given as goal

-- what is left decides
abbrev pub invariant-loop-i : goal.invariant-loop-i
invariant-loop-i g l = find (λ r. bytes_eq r.1.now l.word) l.rows ≡ find (λ r. bytes_eq r.1.now l.word) (drop l.i l.rows)
