use Rattle.jd_answer.specs.Answers.{leads_of}
use Rattle.jd_answer.proofs.Unique.{answer_unique}
use Rattle.jd_answer.proofs.answer.one_answer.Goals as goal

pub returns : goal.returns
returns g c =
    answer_unique (leads_of (g.R.RuleSet.instance c.args._rules.now)) (g.R.RuleSet.cause c.args._rules.now) (
      λ q s p ps qs l m. g.met.R.RuleSet.one_way c.args._rules.now q s p ps qs l.0 m.0,
      λ q s p ps n l h. g.met.R.RuleSet.has_no_cause c.args._rules.now q s p ps n l h,
    )
    c.one_refusal.ensures c.one_refusal-2.ensures c.one_first_task.ensures
