use Rattle.std.proofs.Common.{◌∙◌, sym, inr}
use Rattle.jd_rules.specs.Steps.{IsTaken}
use Rattle.jd_answer.specs.Words.{word_texts}
use Rattle.jd_answer.specs.declared.status.Status.TheVariants.{Done, NotAccepted, Usage, RefusedSource, RefusedScript, Limit}
use Rattle.jdl.specs.Replay.{rule_leads, rule_causes}
use Rattle.jdl.proofs.Completeness.{ends_in_order, no_read_fault, written_is_no_fault}
use Rattle.jdl.proofs.Replay.{derivations_by_rules_are_sound, obligations_are_taken, rules_have_no_cause, rules_one_way}
use Rattle.jdl.proofs.KeptPrograms.{accepted_is_kept}
use Rattle.jdl.proofs.Outcomes.{answered_so, answer_done, answer_not_accepted, answer_refused_source, answer_refused_script, answer_limit}
use Rattle.jdl.proofs.run.Goals as goal

pub returns-in-Ok-clause-accepted : goal.returns-in-Ok-clause-accepted
returns-in-Ok-clause-accepted g c = λ is told.
    answer_done rule_leads rule_causes (word_texts c.args.words.now) (g.L.Library.contents c.args.library.now) _ _ (c.in-Ok.ensures.answer told) (answered_so _ _ Done c.write_answer.ensures.either (λ e. cc) is)

pub returns-in-Ok-clause-kept : goal.returns-in-Ok-clause-kept
returns-in-Ok-clause-kept g c = λ is told.
    accepted_is_kept c.one_refusal.ensures c.closed_first_tasks_are_kept.ensures rule_leads (λ q s. IsTaken q s) (word_texts c.args.words.now) (g.L.Library.contents c.args.library.now) (obligations_are_taken c.first_tasks_are_spelled.ensures) derivations_by_rules_are_sound
    (answer_done rule_leads rule_causes (word_texts c.args.words.now) (g.L.Library.contents c.args.library.now) _ _ (c.in-Ok.ensures.answer told) (answered_so _ _ Done c.write_answer.ensures.either (λ e. cc) is))

pub returns-in-Ok-clause-not_accepted : goal.returns-in-Ok-clause-not_accepted
returns-in-Ok-clause-not_accepted g c = λ is told.
    answer_not_accepted rule_leads rule_causes (word_texts c.args.words.now) (g.L.Library.contents c.args.library.now) rules_one_way rules_have_no_cause _ _ (c.in-Ok.ensures.answer told) (answered_so _ _ NotAccepted c.write_answer.ensures.either (λ e. cc) is)

pub returns-in-Ok-clause-refused_source : goal.returns-in-Ok-clause-refused_source
returns-in-Ok-clause-refused_source g c = λ is told.
    answer_refused_source rule_leads rule_causes (word_texts c.args.words.now) (g.L.Library.contents c.args.library.now) _ _ (c.in-Ok.ensures.answer told) (answered_so _ _ RefusedSource c.write_answer.ensures.either (λ e. cc) is)

pub returns-in-Ok-clause-refused_script : goal.returns-in-Ok-clause-refused_script
returns-in-Ok-clause-refused_script g c = λ is told.
    answer_refused_script rule_leads rule_causes (word_texts c.args.words.now) (g.L.Library.contents c.args.library.now) _ _ (c.in-Ok.ensures.answer told) (answered_so _ _ RefusedScript c.write_answer.ensures.either (λ e. cc) is)

pub returns-in-Ok-clause-limit : goal.returns-in-Ok-clause-limit
returns-in-Ok-clause-limit g c = λ is told.
    answer_limit rule_leads rule_causes (word_texts c.args.words.now) (g.L.Library.contents c.args.library.now) _ _ (c.in-Ok.ensures.answer told) (answered_so _ _ Limit c.write_answer.ensures.either (λ e. cc) is)

pub returns-in-Ok-clause-complete : goal.returns-in-Ok-clause-complete
returns-in-Ok-clause-complete g c = λ told order calm.
    ends_in_order rule_leads rule_causes (word_texts c.args.words.now) (g.L.Library.contents c.args.library.now) _ _ _ _ _ order calm
    (λ is. c.in-Ok.ensures.usage (answered_so _ _ Usage c.write_answer.ensures.either (λ e. cc) is))
    (λ is. absurd (no_read_fault _ _ c.in-Ok.ensures.written c.write_answer.ensures.either is))
    (λ is. c.write_answer.ensures.fault is (λ same. written_is_no_fault _ c.in-Ok.ensures.written (inr same)))
    (λ is. returns-in-Ok-clause-refused_source g c is told)
    (λ is. returns-in-Ok-clause-refused_script g c is told)
    (λ is. returns-in-Ok-clause-limit g c is told)

pub returns-in-Ok-clause-never_read_fault : goal.returns-in-Ok-clause-never_read_fault
returns-in-Ok-clause-never_read_fault g c = λ _ is. no_read_fault _ _ c.in-Ok.ensures.written c.write_answer.ensures.either is

pub returns-in-Ok-clause-never_write_fault : goal.returns-in-Ok-clause-never_write_fault
returns-in-Ok-clause-never_write_fault g c = λ told fits is.
    written_is_no_fault _ c.in-Ok.ensures.written (inr (sym (c.write_answer.ensures.steadily (fits _ _ (c.in-Ok.ensures.answer told))) ∙ is))
