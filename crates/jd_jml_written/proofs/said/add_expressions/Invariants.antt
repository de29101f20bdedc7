use Rattle.std.proofs.Common.{◌≡◌, ◌++◌, drop, flat_map, map}
use Rattle.jd_syntax.specs.SpecTrees.{clause_view, spec_view}
use Rattle.jd_jml_written.specs.Views.{said_in}
use Rattle.jd_jml_written.proofs.said.add_expressions.Given as goal

-- those so far, and what the clauses that are left add
abbrev pub invariant-loop-c : goal.invariant-loop-c
invariant-loop-c l = map spec_view l.made.items ++ flat_map (said_in l.wanted) (map clause_view (drop l.c-index l.cs)) ≡ map spec_view l.fn.made.items ++ flat_map (said_in l.wanted) (map clause_view l.cs)
