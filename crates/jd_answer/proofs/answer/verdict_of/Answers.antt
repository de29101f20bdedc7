use Rattle.std.proofs.Common.{map, sym, subst}
use Rattle.std.proofs.lemmas.Result.{IfOk-weaker}
use Rattle.jd_made_tasks.specs.Answers.{made_view}
use Rattle.jd_sequent.specs.Trees.{tree_of}
use Rattle.jd_sequent.specs.Steps.{node_view}
use Rattle.jd_replay.specs.Verdicts.{IsVerdict}
use Rattle.jd_answer.specs.Answers.{leads_of}
use Rattle.jd_answer.specs.Sources.{obligation_sequent}
use Rattle.jd_answer.proofs.Replays.{verdict_of_task}
use Rattle.jd_answer.proofs.answer.verdict_of.Goals as goal

pub replay-requires : goal.replay-requires
replay-requires g c =
    let q = made_view c.args.classes.now c.args.made.now in
    subst (λ t. g.R.RuleSet.accepts c.args.rules.now t (obligation_sequent q)) (sym c.of-task.ensures.view) (c.requires.accepts q c.requires.program)

pub returns : goal.returns
returns g c =
    let q = made_view c.args.classes.now c.args.made.now in
    let tree = tree_of (map node_view c.args.tree.now.nodes.items) in
    let instance = g.R.RuleSet.instance c.args.rules.now in
    let cause = g.R.RuleSet.cause c.args.rules.now in
    IfOk-weaker c.replay.result _ (IsVerdict (leads_of instance q) (cause q) tree (obligation_sequent q))
    (λ verdict. verdict_of_task instance cause q _ (obligation_sequent q) tree verdict c.of-task.ensures.view) c.replay.ensures.verdict
