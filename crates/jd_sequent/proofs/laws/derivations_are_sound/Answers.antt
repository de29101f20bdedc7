use Rattle.jd_sequent.specs.Obligations.{task_view}
use Rattle.jd_sequent.specs.Rules.{LeadsWithinLimits}
use Rattle.jd_sequent.proofs.SoundDerivations.{derivations_are_sound}
use Rattle.jd_sequent.proofs.laws.derivations_are_sound.Goals as goal

pub returns : goal.returns
returns g c =
    derivations_are_sound (task_view c.args.task.now) (g.R.RuleSet.accepts c.args.rules.now (task_view c.args.task.now)) (LeadsWithinLimits (g.R.RuleSet.instance c.args.rules.now (task_view c.args.task.now)))
    (λ s p ps ok l. g.met.R.RuleSet.keeps c.args.rules.now (task_view c.args.task.now) s p ps ok l)
    (λ s p ps ok l. g.met.R.RuleSet.sound c.args.rules.now (task_view c.args.task.now) s p ps ok l.0)
