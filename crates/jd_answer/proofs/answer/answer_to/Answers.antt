use Rattle.std.proofs.Common.{rules, ◌∙◌, map, arith}
use Rattle.std.specs.Prelude.{IsErrOf, string_bytes}
use Rattle.std.proofs.lemmas.List.{length-map}
use Rattle.jd_answer.specs.Answers.{leads_of, usage}
use Rattle.jd_answer.specs.Words.{word_texts}
use Rattle.jd_answer.specs.declared.answer.Stop.TheVariants.{ReadFault}
use Rattle.jd_answer.proofs.Reading.{a_file_failed, are_read, files_are_steady, files_past, many_named, proof_is_steady, proof_past}
use Rattle.jd_answer.proofs.answer.answer_to.Goals as goal

pub returns-in_default-clause-answer : goal.returns-in_default-clause-answer
returns-in_default-clause-answer g c = λ _. rw c.in_ok-usage.ensures (usage c.in_default.ensures.files)

pub returns-then-named-gt-FILES_LIMIT-clause-answer : goal.returns-then-named-gt-FILES_LIMIT-clause-answer
returns-then-named-gt-FILES_LIMIT-clause-answer g c = λ _.
    many_named (leads_of (g.R.RuleSet.instance c.args.rules.now)) ((g.R.RuleSet.cause c.args.rules.now)) (word_texts c.args.words.now) (g.L.Library.contents c.args.library.now) c.in-Some.named.proof.now (word_texts c.in-Some.named.files.now) c.in-Some.ensures.files
    _ (omega (arith, c.if-named-gt-FILES_LIMIT.true, length-map c.in-Some.named.files.now string_bytes)) c.in_ok-too_many_files.ensures

pub returns-in_default-2-clause-answer : goal.returns-in_default-2-clause-answer
returns-in_default-2-clause-answer g c = λ told.
    let past = rw c.in_default-2.is at c.in_ok-proof.ensures.read in
    proof_past (leads_of (g.R.RuleSet.instance c.args.rules.now)) ((g.R.RuleSet.cause c.args.rules.now)) (word_texts c.args.words.now) (g.L.Library.contents c.args.library.now) c.in-Some.named.proof.now (word_texts c.in-Some.named.files.now) c.in-Some.ensures.files
    (omega (arith, c.if-named-gt-FILES_LIMIT.false, length-map c.in-Some.named.files.now string_bytes)) _ past c.in_ok-proof_too_long.ensures told

pub returns-in_default-3-clause-answer : goal.returns-in_default-3-clause-answer
returns-in_default-3-clause-answer g c = λ told.
    let first = rw c.in-Some-2.is at c.in_ok-proof.ensures.read in
    let past = rw c.in_default-3.is at c.in_ok-files.ensures.read in
    files_past (leads_of (g.R.RuleSet.instance c.args.rules.now)) ((g.R.RuleSet.cause c.args.rules.now)) (word_texts c.args.words.now) (g.L.Library.contents c.args.library.now) c.in-Some.named.proof.now (word_texts c.in-Some.named.files.now) c.in-Some.ensures.files
    (omega (arith, c.if-named-gt-FILES_LIMIT.false, length-map c.in-Some.named.files.now string_bytes)) c.in-Some-2.proof.items first told _ _ c.in_ok-proof.ensures.kept past c.in_ok-file_too_long.ensures

pub returns-clause-answer : goal.returns-clause-answer
returns-clause-answer g c = λ told.
    let first = rw c.in-Some-2.is at c.in_ok-proof.ensures.read in
    let have = rw c.in-Some-3.is at c.in_ok-files.ensures.read in
    c.in_ok-judged.ensures.answer (word_texts c.args.words.now) (g.L.Library.contents c.args.library.now) c.in-Some.ensures.goals
    (are_read (leads_of (g.R.RuleSet.instance c.args.rules.now)) ((g.R.RuleSet.cause c.args.rules.now)) (word_texts c.args.words.now) (g.L.Library.contents c.args.library.now) c.in-Some.named.proof.now (word_texts c.in-Some.named.files.now) c.in-Some.ensures.files
    (omega (arith, c.if-named-gt-FILES_LIMIT.false, length-map c.in-Some.named.files.now string_bytes)) c.deref.result.now (λ bytes is. (c.deref.ensures.value ∙ (first bytes is).0, (first bytes is).1)) told _ (map (λ f. f.items) c.deref-2.result.now) c.in_ok-proof.ensures.kept (rw (c.deref-2.ensures.value) have))

pub returns-in_err-files-clause-read_fault : goal.returns-in_err-files-clause-read_fault
returns-in_err-files-clause-read_fault g c = λ is.
    let failed : IsErrOf c.read_files.result ReadFault = search (rules, is) in
    a_file_failed (word_texts c.args.words.now) c.in-Some.named.proof.now (word_texts c.in-Some.named.files.now) _ _ _ c.in-Some.ensures.files c.in_ok-proof.ensures.no_fault (c.read_files.ensures.fault failed)

pub returns-in_err-proof-clause-steadily : goal.returns-in_err-proof-clause-steadily
returns-in_err-proof-clause-steadily g c = λ all is.
    let failed : IsErrOf c.read_within.result ReadFault = search (rules, is) in
    c.read_within.ensures.steadily (proof_is_steady (word_texts c.args.words.now) c.in-Some.named.proof.now (word_texts c.in-Some.named.files.now) _ c.in-Some.ensures.files all) failed

pub returns-in_err-files-clause-steadily : goal.returns-in_err-files-clause-steadily
returns-in_err-files-clause-steadily g c = λ all is.
    let failed : IsErrOf c.read_files.result ReadFault = search (rules, is) in
    c.read_files.ensures.steadily (files_are_steady (word_texts c.args.words.now) c.in-Some.named.proof.now (word_texts c.in-Some.named.files.now) _ _ c.in-Some.ensures.files all c.in_ok-proof.ensures.still_steady) failed
