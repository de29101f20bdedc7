use Rattle.std.proofs.Common.{◌≡◌, ◌++◌, drop, map}
use Rattle.jd_syntax.specs.SpecTrees.{clause_view, location_view}
use Rattle.jd_case_clauses.specs.Frames.{all_assignable}
use Rattle.jd_case_clauses.proofs.framing.all_said.Given as goal

-- those so far, and those of the clauses that are left
abbrev pub invariant-loop-c : goal.invariant-loop-c
invariant-loop-c l = map location_view l.made.items ++ all_assignable (map clause_view (drop l.c-index l.cs)) ≡ all_assignable (map clause_view l.fn.cs)
