use Rattle.std.proofs.Common.{◌≡◌, drop, map}
use Rattle.jd_syntax.specs.SpecTrees.{clause_view}
use Rattle.jd_case_clauses.specs.Frames.{says_assignable}
use Rattle.jd_case_clauses.proofs.framing.says_frame.Given as goal

-- one of those that are left says it
abbrev pub invariant-loop-c : goal.invariant-loop-c
invariant-loop-c l = says_assignable (map clause_view (drop l.c-index l.cs)) ≡ says_assignable (map clause_view l.fn.cs)
