use Rattle.std.proofs.Common.{◌≡◌, ◌++◌, drop, flat_map, map}
use Rattle.jd_jml_formulas.specs.Spellings.{spelling_view}
use Rattle.jd_jml_known.specs.Members.{FieldsHaveSorts}
use Rattle.jd_jml_known.specs.Scopes.{known_of}
use Rattle.jd_model.specs.Programs.{Program}
use Rattle.jd_syntax.specs.SpecTrees.{clause_view}
use Rattle.jd_term.specs.Formulas.{formula_view}
use Rattle.jd_case_clauses.specs.Signals.{signalled_in}
use Rattle.jd_case_clauses.proofs.throwing.signals.Given as goal

-- those so far, and those of the clauses that are left
abbrev pub invariant-loop-c : goal.invariant-loop-c
invariant-loop-c g l = (p : Program) → FieldsHaveSorts (g.D.Declares.declarations l.m.sight.declared.now) p
    → map formula_view l.made.items ++ flat_map (signalled_in p (g.D.Declares.declarations l.m.sight.declared.now) l.m.sight.class l.m.sight.result (spelling_view l.m.spelled.now) (known_of l.names)) (map clause_view (drop l.c-index l.cs))
    ≡ flat_map (signalled_in p (g.D.Declares.declarations l.m.sight.declared.now) l.m.sight.class l.m.sight.result (spelling_view l.m.spelled.now) (known_of l.names)) (map clause_view l.cs)
