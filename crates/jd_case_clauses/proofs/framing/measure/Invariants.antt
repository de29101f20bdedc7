use Rattle.std.proofs.Common.{◌≡◌, drop, map}
use Rattle.jd_jml_known.specs.Scopes.{known_of}
use Rattle.jd_specifications.specs.WrittenCases as plain
use Rattle.jd_syntax.specs.SpecTrees.{clause_view}
use Rattle.jd_case_clauses.proofs.framing.measure.Given as goal

-- those that are left say it
abbrev pub invariant-loop-c : goal.invariant-loop-c
invariant-loop-c g l =
    plain.measure_of (g.D.Declares.declarations l.m.sight.declared.now) l.m.sight.class l.m.sight.result (known_of l.names) (map clause_view (drop l.c-index l.cs))
    ≡ plain.measure_of (g.D.Declares.declarations l.m.sight.declared.now) l.m.sight.class l.m.sight.result (known_of l.names) (map clause_view l.cs)
