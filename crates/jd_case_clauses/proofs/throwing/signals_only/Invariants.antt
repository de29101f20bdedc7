use Rattle.std.proofs.Common.{◌≡◌, ◌++◌, drop, flat_map, map}
use Rattle.jd_syntax.specs.SpecTrees.{clause_view}
use Rattle.jd_term.specs.Formulas.{formula_view}
use Rattle.jd_case_clauses.specs.Signals.{only_in}
use Rattle.jd_case_clauses.proofs.throwing.signals_only.Given as goal

-- those so far, and those of the clauses that are left
abbrev pub invariant-loop-c : goal.invariant-loop-c
invariant-loop-c g l = map formula_view l.made.items ++ flat_map (only_in (g.D.Declares.declarations l.d)) (map clause_view (drop l.c-index l.cs)) ≡ flat_map (only_in (g.D.Declares.declarations l.d)) (map clause_view l.cs)
