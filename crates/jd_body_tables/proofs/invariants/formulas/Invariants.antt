use Rattle.std.proofs.Common.{◌≡◌, ◌++◌, drop, map}
use Rattle.jd_syntax.specs.SpecTrees.{spec_view}
use Rattle.jd_term.specs.Formulas.{formula_view}
use Rattle.jd_model.specs.Programs.{Program}
use Rattle.jd_jml_known.specs.Members.{FieldsHaveSorts}
use Rattle.jd_body_tables.specs.Invariants.{formulas_meant}
use Rattle.jd_body_tables.proofs.invariants.formulas.Given as goal

-- those so far, and those that are left
abbrev pub invariant-loop-e : goal.invariant-loop-e
invariant-loop-e g l = (p : Program) → FieldsHaveSorts (g.D.Declares.declarations l.m.sight.declared.now) p
    → map formula_view l.all.items ++ formulas_meant p (g.D.Declares.declarations l.m.sight.declared.now) l.m.sight.class (map spec_view (drop l.e-index l.es)) ≡ formulas_meant p (g.D.Declares.declarations l.m.sight.declared.now) l.m.sight.class (map spec_view l.es)
