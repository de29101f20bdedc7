use Rattle.jd_answer.specs.Words.{word_texts}
use Rattle.jdl.proofs.Completeness.{held_is_told}
use Rattle.jdl.proofs.in_memory.run_in_memory.Goals as goal

pub returns-clause-no_read_fault : goal.returns-clause-no_read_fault
returns-clause-no_read_fault c = λ none held is. c.run.ensures.never_read_fault (λ name named. (none, held name named)) is

pub returns-clause-no_write_fault : goal.returns-clause-no_write_fault
returns-clause-no_write_fault c = λ none held room is.
    c.run.ensures.never_write_fault (held_is_told (word_texts c.args.words.now) c.args.library.now.files held) (λ status text answer. (none, room status text answer)) is
