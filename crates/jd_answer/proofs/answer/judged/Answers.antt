use Rattle.std.proofs.Common.{◌≡◌, ℕ, List, Option, map, subst}
use Rattle.std.proofs.lemmas.Result.{IfOk-weaker}
use Rattle.jd_made_tasks.specs.Answers.{made_view}
use Rattle.jd_sequent.specs.Obligations.{names_of}
use Rattle.jd_answer.specs.Answers.{AreRead, IsAnswer, IsProofAnswer, judged, leads_of, refused}
use Rattle.jd_answer.specs.Reports.{goals_text}
use Rattle.jd_answer.specs.Words.{asks_goals, word_texts}
use Rattle.jd_answer.proofs.FileAnswers.{refusal_is_judged}
use Rattle.jd_answer.proofs.answer.judged.Goals as goal

pub returns-in-Refused-clause-answer : goal.returns-in-Refused-clause-answer
returns-in-Refused-clause-answer g c = λ words contents asked read.
    let refusal = rw c.in-Refused.is at c.in_ok-answer.ensures in
    refused c.args.named.now.proof.now c.args.proof.now (word_texts c.args.named.now.files.now) (map (λ f. f.items) c.args.files.now) _ _ read refusal

pub returns-in-Refused-clause-status : goal.returns-in-Refused-clause-status
returns-in-Refused-clause-status g c =
    let refusal = rw c.in-Refused.is at c.in_ok-answer.ensures in
    refusal_is_judged (word_texts c.args.named.now.files.now) (map (λ f. f.items) c.args.files.now) _ _ refusal

pub returns-in-Program-clause-answer : goal.returns-in-Program-clause-answer
returns-in-Program-clause-answer g c =
    let q = made_view c.in-Program.classes c.in-Program.made in
    let names = word_texts c.args.named.now.files.now in
    let files = map (λ f. f.items) c.args.files.now in
    let program = (rw c.in-Program.is at c.in_ok-answer.ensures).0 in
    let leads = leads_of (g.R.RuleSet.instance c.args.rules.now) in
    let causes = (g.R.RuleSet.cause c.args.rules.now) in
    IfOk-weaker c.answer_for.result (λ a. IsProofAnswer (leads q) (causes q) (goals_text c.args.named.now.goals (names_of q)) q c.args.named.now.proof.now c.args.proof.now a.status a.text.items)
    (λ a. (words : List (List ℕ)) (contents : List ℕ → Option (List ℕ)) → c.args.named.now.goals ≡ asks_goals words → AreRead words contents c.args.named.now.proof.now names c.args.proof.now files → IsAnswer leads causes words contents a.status a.text.items)
    (λ a answer words contents asked read. judged c.args.named.now.proof.now c.args.proof.now names files q a.status a.text.items read program (subst (λ b. IsProofAnswer (leads q) (causes q) (goals_text b (names_of q)) q c.args.named.now.proof.now c.args.proof.now a.status a.text.items) asked answer)) c.answer_for.ensures.answer
