use Rattle.std.proofs.Common.{◌≡◌, drop, map}
use Rattle.jd_schema_trees.specs.TacletViews.{taclet}
use Rattle.jd_taclet_scripts.specs.Steps.{row_named}
use Rattle.jd_taclet_rules.proofs.table.row_named.Given as goal

abbrev pub invariant-loop-row : goal.invariant-loop-row
invariant-loop-row l = row_named (map taclet l.rows) l.name ≡ row_named (map taclet (drop l.row-index l.rows)) l.name
