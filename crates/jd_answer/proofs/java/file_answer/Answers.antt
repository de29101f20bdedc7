use Rattle.jd_source.specs.Sources.{reason_of}
use Rattle.jd_answer.specs.Words.{word_texts}
use Rattle.jd_answer.proofs.FileAnswers.{told_of_file, word_at}
use Rattle.jd_answer.proofs.java.file_answer.Goals as goal

pub returns : goal.returns
returns c =
    told_of_file (word_texts c.args.names.now) c.args.number c.as_bytes-name.result.now (reason_of c.args.refusal.now) _
    (word_at c.args.names.now c.args.number c.index-names-number.result c.as_bytes-name.result.now c.requires c.index-names-number.is c.as_bytes-name.ensures.value) c.in_ok-refusal_line.ensures
