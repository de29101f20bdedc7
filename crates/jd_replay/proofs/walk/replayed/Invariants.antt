use Rattle.std.proofs.Common.{◌≤◌, map, drop, reverse}
use Rattle.jd_model.specs.Sequents.{sequent_view}
use Rattle.jd_sequent.specs.Trees.{tree_of}
use Rattle.jd_sequent.specs.Steps.{node_view}
use Rattle.jd_sequent.specs.Obligations.{task_view}
use Rattle.jd_sequent.specs.Rules.{LeadsWithinLimits}
use Rattle.jd_replay.proofs.Going.{Going}
use Rattle.jd_replay.proofs.walk.replayed.Given as goal

abbrev pub invariant-loop-i : goal.invariant-loop-i
invariant-loop-i g l =
    record {
      going : Going (LeadsWithinLimits (g.R.RuleSet.instance l.rules (task_view l.task))) (g.R.RuleSet.cause l.rules (task_view l.task)) (g.R.RuleSet.accepts l.rules (task_view l.task)) (tree_of (map node_view l.script.nodes.items)) (sequent_view l.fn.goal) (drop l.i (map node_view l.script.nodes.items)) (reverse (map sequent_view l.stack.items)) (map sequent_view l.goals.items) l.steps;
      below : l.steps ≤ l.i;
    }
