use Rattle.std.proofs.Common.{map, subst}
use Rattle.std.proofs.lemmas.Result.{IfOk-weaker}
use Rattle.jd_model.specs.Sequents.{sequent_view}
use Rattle.jd_sequent.specs.Trees.{tree_of}
use Rattle.jd_sequent.specs.Steps.{node_view}
use Rattle.jd_sequent.specs.Obligations.{task_view}
use Rattle.jd_sequent.specs.Rules.{LeadsWithinLimits}
use Rattle.jd_sequent.proofs.SoundDerivations.{derivations_are_sound}
use Rattle.jd_replay.specs.Verdicts.{IsVerdict}
use Rattle.jd_replay.proofs.Closed.{closed_is_valid}
use Rattle.jd_replay.proofs.walk.replay.Goals as goal

pub returns-clause-closed : goal.returns-clause-closed
returns-clause-closed g c =
    let leads = LeadsWithinLimits (g.R.RuleSet.instance c.args.rules.now (task_view c.args.task.now)) in
    let causes = g.R.RuleSet.cause c.args.rules.now (task_view c.args.task.now) in
    let accepts = g.R.RuleSet.accepts c.args.rules.now (task_view c.args.task.now) in
    let sound = derivations_are_sound (task_view c.args.task.now) accepts leads
    (λ s p ps ok l. g.met.R.RuleSet.keeps c.args.rules.now (task_view c.args.task.now) s p ps ok l)
    (λ s p ps ok l. g.met.R.RuleSet.sound c.args.rules.now (task_view c.args.task.now) s p ps ok l.0) in
    IfOk-weaker _ _ _ (λ v is. closed_is_valid (task_view c.args.task.now) accepts leads causes sound (tree_of (map node_view c.args.script.now.nodes.items)) (sequent_view c.args.goal.now) c.requires v (subst (λ s. IsVerdict leads causes (tree_of (map node_view c.args.script.now.nodes.items)) s v) c.in_ok-goal.ensures is)) c.replayed.ensures
