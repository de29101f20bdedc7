use Rattle.std.proofs.Common.{◌≡◌, ◌++◌, List, drop, map}
use Rattle.jd_syntax.specs.JavaTrees.{method_view}
use Rattle.jd_syntax.specs.SpecTrees.{PlainClause, clause_view}
use Rattle.jd_jml_written.specs.Marked.{marks_of}
use Rattle.jd_jml_written.specs.Views.{ended_by}
use Rattle.jd_jml_written.proofs.cases.behind.Given as goal

-- what is left comes to the same
abbrev pub invariant-loop-c : goal.invariant-loop-c
invariant-loop-c l = (rest : List PlainClause) → ended_by l.at.number.0 (marks_of (method_view l.at.method.now)) l.fn.sofar (map clause_view l.cs ++ rest) ≡ ended_by l.at.number.0 (marks_of (method_view l.at.method.now)) l.sofar (map clause_view (drop l.c-index l.cs) ++ rest)
