use Rattle.std.proofs.Common.{map, take}
use Rattle.jd_lex.specs.Lens.{LongestLen}
use Rattle.jd_lex.proofs.signs.longest_of.Given as goal

-- the longest of the signs so far
abbrev pub invariant-loop-sign : goal.invariant-loop-sign
invariant-loop-sign l = LongestLen (map (λ s. s.now) (take l.sign-index l.table)) l.bytes l.best
