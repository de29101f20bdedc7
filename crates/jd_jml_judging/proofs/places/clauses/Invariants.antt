use Rattle.std.proofs.Common.{◌≡◌, drop, map}
use Rattle.jd_specifications.specs.Clauses as plain
use Rattle.jd_syntax.specs.SpecTrees.{clause_view}
use Rattle.jd_jml_judging.specs.Contexts.{around_view, sofar_view}
use Rattle.jd_jml_judging.proofs.places.clauses.Given as goal

-- what is left decides, behind what is known by now
abbrev pub invariant-loop-c : goal.invariant-loop-c
invariant-loop-c g l =
    plain.clauses (g.D.Declares.declarations l.a.declared.now) (around_view l.a) (sofar_view l.fn.s) (map clause_view l.cs)
    ≡ plain.clauses (g.D.Declares.declarations l.a.declared.now) (around_view l.a) (sofar_view l.sofar) (map clause_view (drop l.c-index l.cs))
