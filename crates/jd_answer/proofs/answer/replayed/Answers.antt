use Rattle.std.proofs.Common.{ap, ◌∙◌}
use Rattle.jd_made_tasks.specs.Answers.{made_view}
use Rattle.jd_sequent.specs.Obligations.{names_of}
use Rattle.jd_answer.specs.Answers.{leads_of}
use Rattle.jd_answer.specs.Reports.{goals_text}
use Rattle.jd_answer.specs.Sources.{obligation_sequent}
use Rattle.jd_answer.proofs.Verdicts.{report_with_goals, report_without_proof}
use Rattle.jd_answer.proofs.answer.replayed.Goals as goal

pub returns-in_ok-missing-in-None-clause-report : goal.returns-in_ok-missing-in-None-clause-report
returns-in_ok-missing-in-None-clause-report g c =
    let q = made_view c.args.classes.now c.args.made.now in
    report_without_proof (leads_of (g.R.RuleSet.instance c.args.rules.now) q) (g.R.RuleSet.cause c.args.rules.now q) (goals_text c.args.goals (names_of q)) (obligation_sequent q) c.args.proof _ _ _ c.in-None.is c.as_slice-name.ensures.value c.in_ok-missing-in-None.ensures

pub returns-in_ok-text_of-in-Some-clause-report : goal.returns-in_ok-text_of-in-Some-clause-report
returns-in_ok-text_of-in-Some-clause-report g c =
    let q = made_view c.args.classes.now c.args.made.now in
    let names = c.of.ensures ∙ ap names_of c.of-task.ensures.view in
    report_with_goals (leads_of (g.R.RuleSet.instance c.args.rules.now) q) (g.R.RuleSet.cause c.args.rules.now q) c.args.goals _ _ (obligation_sequent q) c.args.proof c.in-Some.tree _ _ _ _ _ _ c.in-Some.is c.as_slice-name.ensures.value c.in_ok-verdict-in-Some.ensures (c.deref.ensures.value ∙ c.in_ok-said-in-Some.ensures) names c.status_of.ensures c.in_ok-text_of-in-Some.ensures
