use Rattle.std.proofs.Common.{drop, map, ◌++◌, ◌≡◌}
use Rattle.jd_schema_instances.specs.Choosing.{instance_by, program_by}
use Rattle.jd_schema_trees.specs.FormulaViews.{formula_pattern}
use Rattle.jd_taclet_premises.specs.Having.{HaveInstances}
use Rattle.jd_taclets.specs.Taclets.{all_formulas}
use Rattle.jd_term.specs.Formulas.{formula_view}
use Rattle.jd_taclet_premises.proofs.parts.formulas.Given as goal

abbrev pub invariant-loop-p : goal.invariant-loop-p
invariant-loop-p l =
    HaveInstances (program_by l.by) (instance_by l.by) (map formula_pattern (drop l.p-index l.patterns))
    × (map formula_view l.made.items ++ all_formulas (program_by l.by) (instance_by l.by) (map formula_pattern (drop l.p-index l.patterns)) ≡ all_formulas (program_by l.by) (instance_by l.by) (map formula_pattern l.patterns))
