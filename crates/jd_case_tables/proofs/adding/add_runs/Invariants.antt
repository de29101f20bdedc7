use Rattle.std.proofs.Common.{◌≡◌, ◌++◌, ℕ, List, drop, flat_map, map}
use Rattle.jd_syntax.specs.JavaTrees.{JavaUnit}
use Rattle.jd_check.specs.Building.{body_view}
use Rattle.jd_classes.specs.Tables.{AreTables}
use Rattle.jd_jml_cases.specs.Trees.{AreTrees}
use Rattle.jd_jmlcheck.specs.Views.{method_spec_view}
use Rattle.jd_listed_tables.specs.Listed.{rows_of}
use Rattle.jd_model.specs.ContractForms.{case_view}
use Rattle.jd_model.specs.Programs.{Program}
use Rattle.jd_case_tables.specs.Running.{cases_of_run, run_view}
use Rattle.jd_case_tables.specs.Worlds.{AreListed, IsKnown}
use Rattle.jd_case_tables.proofs.adding.add_runs.Given as goal

-- the rows so far, with those of what is left
abbrev pub invariant-loop-run : goal.invariant-loop-run
invariant-loop-run g l =
    let d = g.D.Declares.declarations l.rows.declared.now in
    (units : List JavaUnit) (p : Program) (fields : ℕ → List ℕ) → AreTables units l.l.classes.now → AreTrees units l.l.trees.now → IsKnown units d p fields l.rows.throwable.0
    → AreListed units p (map method_spec_view l.l.specs.now) (map body_view l.l.bodies.now)
    → map case_view l.made.items ++ rows_of p fields (flat_map (cases_of_run units d) (map run_view (drop l.run-index l.runs)))
    ≡ map case_view l.fn.made.items ++ rows_of p fields (flat_map (cases_of_run units d) (map run_view l.runs))
