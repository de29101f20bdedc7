use Rattle.std.proofs.Common.{option_map, subst, ◌∙◌}
use Rattle.std.proofs.lemmas.Result.{IfOk-weaker}
use Rattle.jd_made_tasks.specs.Answers.{made_view}
use Rattle.jd_proofs.specs.Answers.{tree_view}
use Rattle.jd_sequent.specs.Obligations.{names_of}
use Rattle.jd_answer.specs.Answers.{leads_of, IsProofAnswer}
use Rattle.jd_answer.specs.Reports.{goals_text}
use Rattle.jd_answer.specs.Scripts.{IsUnreadAnswer}
use Rattle.jd_answer.specs.Statuses.{IsJudged}
use Rattle.jd_answer.proofs.Judged.{unread_answer, unread_is_judged, limited_report}
use Rattle.jd_answer.proofs.answer.answer_for.Goals as goal

pub returns-in-Err-clause-answer : goal.returns-in-Err-clause-answer
returns-in-Err-clause-answer g c =
    let q = made_view c.args.classes.now c.args.made.now in
    let leads = leads_of (g.R.RuleSet.instance c.args.rules.now) q in
    let causes = (g.R.RuleSet.cause c.args.rules.now) q in
    let said = goals_text c.args.named.now.goals (names_of q) in
    IfOk-weaker c.unread.result (λ a. IsUnreadAnswer c.as_bytes.result.now c.in-Err.refusal a.status a.text.items) (λ a. IsProofAnswer leads causes said q c.args.named.now.proof.now c.args.proof.now a.status a.text.items)
    (λ a tells. subst (λ n. IsProofAnswer leads causes said q n c.args.proof.now a.status a.text.items) c.as_bytes.ensures.value
    (unread_answer leads causes said q c.as_bytes.result.now c.args.proof.now _ (c.in_ok-obligation.ensures ∙ c.deref.ensures.value) c.in-Err.refusal a.status a.text.items c.in-Err.ensures tells)) c.unread.ensures

pub returns-in-Err-clause-status : goal.returns-in-Err-clause-status
returns-in-Err-clause-status g c =
    IfOk-weaker c.unread.result (λ a. IsUnreadAnswer c.as_bytes.result.now c.in-Err.refusal a.status a.text.items) (λ a. IsJudged a.status)
    (λ a tells. unread_is_judged c.as_bytes.result.now c.in-Err.refusal a.status a.text.items tells) c.unread.ensures

pub returns-clause-answer : goal.returns-clause-answer
returns-clause-answer g c =
    let q = made_view c.args.classes.now c.args.made.now in
    limited_report (leads_of (g.R.RuleSet.instance c.args.rules.now) q) ((g.R.RuleSet.cause c.args.rules.now) q) (goals_text c.args.named.now.goals (names_of q)) q c.args.named.now.proof.now c.args.proof.now _
    (c.in_ok-obligation.ensures ∙ c.deref.ensures.value) (option_map tree_view c.in-Ok.proof) _ _ _ _ c.in-Ok.ensures c.in_ok-report.ensures.report c.in_ok-answer.ensures.long c.in_ok-answer.ensures.short
