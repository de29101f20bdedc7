use Rattle.std.proofs.Common.{map, length, sym, ◌∙◌}
use Rattle.std.proofs.lemmas.List.{length-map}
use Rattle.jd_answer.specs.Words.{word_texts}
use Rattle.jd_answer.proofs.FileAnswers.{names_one, refusal}
use Rattle.jd_answer.proofs.answer.understand.Goals as goal

pub refused-requires : goal.refused-requires
refused-requires c = names_one (map (λ f. f.items) c.args.files.now) c.in-Err.refusal (length c.args.names.now) (c.requires.each ∙ sym (length-map c.args.files.now (λ f. f.items))) c.in-Err.ensures.refused

pub resolved-requires-clause-tables : goal.resolved-requires-clause-tables
resolved-requires-clause-tables c = (map (λ f. f.items) c.args.files.now, c.in-Ok.ensures.tables, length-map c.args.files.now (λ f. f.items) ∙ sym c.requires.each)

pub returns-in-Ok : goal.returns-in-Ok
returns-in-Ok c = c.resolved.ensures (map (λ f. f.items) c.args.files.now) c.in-Ok.ensures.tables (length-map c.args.files.now (λ f. f.items) ∙ sym c.requires.each)

pub returns-in_ok-refused-in-Err : goal.returns-in_ok-refused-in-Err
returns-in_ok-refused-in-Err c = refusal (word_texts c.args.names.now) (map (λ f. f.items) c.args.files.now) c.in-Err.refusal _ _ c.in-Err.ensures.refused c.in_ok-refused-in-Err.ensures
