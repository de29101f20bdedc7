use Rattle.std.proofs.Common.{◌≡◌, ◌+◌, drop, length, map}
use Rattle.jd_syntax.specs.SpecTrees.{clause_view}
use Rattle.jd_case_clauses.specs.Frames.{all_assignable}
use Rattle.jd_case_clauses.specs.Said.{level_limit}
use Rattle.jd_case_clauses.proofs.framing.are_many.Given as goal

-- how many there are, by those that are left
abbrev pub invariant-loop-c : goal.invariant-loop-c
invariant-loop-c l = level_limit + length (all_assignable (map clause_view (drop l.c-index l.cs))) ≡ l.left + length (all_assignable (map clause_view l.fn.cs))
