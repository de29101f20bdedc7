use Rattle.std.proofs.Common.{length}
use Rattle.jd_answer.specs.Words.{word_texts}
use Rattle.jd_answer.proofs.FileAnswers.{word_at}
use Rattle.jd_answer.proofs.Understanding.{has_large_task, has_other_form, has_task, trees_for_names}
use Rattle.jd_answer.proofs.answer.task_of.Goals as goal

pub first_task-requires : goal.first_task-requires
first_task-requires c =
    let t = c.requires.tables in
    (t.1.units, t.1.tables, trees_for_names t.0 (word_texts c.args.names.now) (length c.args.names.now) c.args.classes.now t.1 t.2, t.3)

pub returns-in-Task : goal.returns-in-Task
returns-in-Task c = λ files have many resolved.
    let answer = c.in_ok-made.ensures have.units have.tables (trees_for_names files (word_texts c.args.names.now) (length c.args.names.now) c.args.classes.now have many) resolved in
    has_task (word_texts c.args.names.now) files c.args.classes.now have c.args.resolved.now resolved c.in-Task.made _ c.in-Task.is answer

pub returns-in_ok-unbuilt-in-OtherForm : goal.returns-in_ok-unbuilt-in-OtherForm
returns-in_ok-unbuilt-in-OtherForm c = λ files have many resolved.
    let answer = c.in_ok-made.ensures have.units have.tables (trees_for_names files (word_texts c.args.names.now) (length c.args.names.now) c.args.classes.now have many) resolved in
    has_other_form (word_texts c.args.names.now) files c.args.classes.now have c.args.resolved.now resolved _ c.as_bytes.result.now _ c.in-OtherForm.is answer
    (word_at c.args.names.now 0 c.index-names-0.result c.as_bytes.result.now c.requires.some c.index-names-0.is c.as_bytes.ensures.value) c.in_ok-unbuilt-in-OtherForm.ensures

pub returns-in_ok-formula_too_large-in-TooLarge : goal.returns-in_ok-formula_too_large-in-TooLarge
returns-in_ok-formula_too_large-in-TooLarge c = λ files have many resolved.
    let answer = c.in_ok-made.ensures have.units have.tables (trees_for_names files (word_texts c.args.names.now) (length c.args.names.now) c.args.classes.now have many) resolved in
    has_large_task (word_texts c.args.names.now) files c.args.classes.now have c.args.resolved.now resolved _ _ c.in-TooLarge.is answer c.in_ok-formula_too_large-in-TooLarge.ensures
