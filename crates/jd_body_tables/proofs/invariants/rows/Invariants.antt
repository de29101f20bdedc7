use Rattle.std.proofs.Common.{◌≡◌, ◌++◌, drop, map}
use Rattle.jd_model.specs.ContractForms.{invariant_view}
use Rattle.jd_model.specs.Programs.{Program}
use Rattle.jd_jml_known.specs.Members.{FieldsHaveSorts}
use Rattle.jd_jmlcheck.specs.Views.{invariants_view}
use Rattle.jd_body_tables.specs.Invariants.{rows_from}
use Rattle.jd_body_tables.proofs.invariants.rows.Given as goal

-- those so far, and those of the classes that are left
abbrev pub invariant-loop-number : goal.invariant-loop-number
invariant-loop-number g l = (p : Program) → FieldsHaveSorts (g.D.Declares.declarations l.w.declared.now) p
    → map invariant_view l.made.items ++ rows_from p (g.D.Declares.declarations l.w.declared.now) l.number (map invariants_view (drop l.number l.all)) ≡ rows_from p (g.D.Declares.declarations l.w.declared.now) 0 (map invariants_view l.all)
