use Rattle.std.proofs.Common.{◌≡◌, ◌++◌, ℕ, List, drop, flat_map, map}
use Rattle.jd_syntax.specs.JavaTrees.{JavaUnit}
use Rattle.jd_classes.specs.Tables.{AreTables}
use Rattle.jd_case_heads.specs.Parameters.{decl_name}
use Rattle.jd_jml_cases.specs.Laws.{contract_of_case}
use Rattle.jd_jml_cases.specs.Trees.{AreTrees}
use Rattle.jd_jml_written.specs.Views as views
use Rattle.jd_model.specs.ContractForms.{case_view}
use Rattle.jd_model.specs.Programs.{Body, Program}
use Rattle.jd_case_tables.specs.Numbered.{rows_from}
use Rattle.jd_case_tables.specs.Placed.{MarksStand}
use Rattle.jd_case_tables.specs.Worlds.{IsKnown}
use Rattle.jd_case_tables.proofs.adding.add_cases.Given as goal

-- the marks of those that are left, and the rows so far with those of what is left
abbrev pub invariant-loop-case : goal.invariant-loop-case
invariant-loop-case g l =
    let d = g.D.Declares.declarations l.rows.declared.now in
    (units : List JavaUnit) (p : Program) (fields : ℕ → List ℕ) (b : Body) → AreTables units l.l.classes.now → AreTrees units l.l.trees.now → IsKnown units d p fields l.rows.throwable.0
    → MarksStand units (map views.case_view l.cases) → b.parameters ≡ map decl_name l.variables
    → MarksStand units (map views.case_view (drop l.case-index l.cases))
    × (map case_view l.made.items ++ rows_from p fields b l.run.class.0 l.run.method.0 l.number (flat_map (contract_of_case units d) (map views.case_view (drop l.case-index l.cases)))
    ≡ map case_view l.fn.made.items ++ rows_from p fields b l.run.class.0 l.run.method.0 1 (flat_map (contract_of_case units d) (map views.case_view l.cases)))
