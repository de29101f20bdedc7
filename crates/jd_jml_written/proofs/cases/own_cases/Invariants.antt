use Rattle.std.proofs.Common.{◌≡◌, drop, map}
use Rattle.jd_syntax.specs.JavaTrees.{method_view}
use Rattle.jd_syntax.specs.SpecTrees.{spec_block_view}
use Rattle.jd_specifications.specs.WrittenCases.{all_clauses}
use Rattle.jd_jml_written.specs.Marked.{marks_of, own_cases}
use Rattle.jd_jml_written.specs.Views.{ended_by}
use Rattle.jd_jml_written.proofs.cases.own_cases.Given as goal

-- what is left comes to the whole
abbrev pub invariant-loop-b : goal.invariant-loop-b
invariant-loop-b l = own_cases l.fn.number.0 (method_view l.method) ≡ ended_by l.fn.number.0 (marks_of (method_view l.method)) l.sofar (all_clauses (map spec_block_view (drop l.b-index l.b-items)))
