use Rattle.std.proofs.Common.{drop, map, ◌++◌, ◌≡◌}
use Rattle.jd_schema_instances.specs.Choosing.{instance_by, program_by}
use Rattle.jd_schema_trees.specs.TacletViews.{goal as goal_pattern}
use Rattle.jd_taclet_premises.specs.Having.{AllHaveInstances}
use Rattle.jd_taclet_premises.specs.Premises.{goal_of}
use Rattle.jd_taclet_premises.specs.Views.{goal_view}
use Rattle.jd_taclet_premises.proofs.parts.goals.Given as goal

abbrev pub invariant-loop-n : goal.invariant-loop-n
invariant-loop-n l =
    AllHaveInstances (program_by l.by) (instance_by l.by) (map goal_pattern (drop l.n-index l.goals))
    × (map goal_view l.made.items ++ map (goal_of (program_by l.by) (instance_by l.by)) (map goal_pattern (drop l.n-index l.goals)) ≡ map (goal_of (program_by l.by) (instance_by l.by)) (map goal_pattern l.goals))
