use Rattle.jd_sequent.specs.Obligations.{task_view}
use Rattle.jd_sequent.specs.Rules.{LeadsWithinLimits}
use Rattle.jd_replay.proofs.OneFirstBad.{bad_derives_nothing}
use Rattle.jd_replay.proofs.laws.bad_derives_nothing.Goals as goal

pub returns : goal.returns
returns g c =
    bad_derives_nothing (LeadsWithinLimits (g.R.RuleSet.instance c.args.rules.now (task_view c.args.task.now))) (g.R.RuleSet.cause c.args.rules.now (task_view c.args.task.now))
    (λ s p ps qs a b. g.met.R.RuleSet.one_way c.args.rules.now (task_view c.args.task.now) s p ps qs a.0 b.0)
    (λ s p ps n l h. g.met.R.RuleSet.has_no_cause c.args.rules.now (task_view c.args.task.now) s p ps n l h)
