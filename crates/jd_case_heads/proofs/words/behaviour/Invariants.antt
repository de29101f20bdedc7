use Rattle.std.proofs.Common.{◌≡◌, drop, map}
use Rattle.jd_specifications.specs.WrittenCases as plain
use Rattle.jd_syntax.specs.SpecTrees.{clause_view}
use Rattle.jd_case_heads.proofs.words.behaviour.Given as goal

-- those that are left say it
abbrev pub invariant-loop-c : goal.invariant-loop-c
invariant-loop-c l = plain.behaviour (map clause_view (drop l.c-index l.cs)) ≡ plain.behaviour (map clause_view l.fn.cs)
