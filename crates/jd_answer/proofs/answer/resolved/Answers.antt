use Rattle.std.proofs.Common.{sym, ◌∙◌}
use Rattle.jd_files.proofs.Trees.{as_many_trees}
use Rattle.jd_answer.specs.Words.{word_texts}
use Rattle.jd_answer.proofs.Understanding.{has_refused_token}
use Rattle.jd_answer.proofs.answer.resolved.Goals as goal

pub resolve-requires : goal.resolve-requires
resolve-requires c = (c.requires.tables.1.units, c.requires.tables.1.tables)

pub refused_token-requires : goal.refused_token-requires
refused_token-requires c =
    let have = c.requires.tables.1 in
    (have.units, c.in-Err.ensures.err have.units have.tables, sym (as_many_trees c.requires.tables.0 have.units have.trees) ∙ c.requires.tables.2)

pub task_of-requires-clause-tables : goal.task_of-requires-clause-tables
task_of-requires-clause-tables c =
    let t = c.requires.tables in
    (t.0, t.1, t.2, c.in-Ok.ensures.ok t.1.units t.1.tables)

pub returns-in_ok-refused_token-in-Err : goal.returns-in_ok-refused_token-in-Err
returns-in_ok-refused_token-in-Err c = λ files have many.
    has_refused_token (word_texts c.args.names.now) files c.args.classes have _ _ (c.in_ok-refused_token-in-Err.ensures have.units (c.in-Err.ensures.err have.units have.tables))

pub returns-in-Ok-2 : goal.returns-in-Ok-2
returns-in-Ok-2 c = λ files have many.
    (rw c.in-Ok-2.is at (c.in_ok-made-in-Ok.ensures files have many (c.in-Ok.ensures.ok have.units have.tables)), have)

pub returns-in-Err-2 : goal.returns-in-Err-2
returns-in-Err-2 c = λ files have many.
    rw c.in-Err-2.is at (c.in_ok-made-in-Ok.ensures files have many (c.in-Ok.ensures.ok have.units have.tables))
