use Rattle.jd_answer.specs.Words.{word_texts}
use Rattle.jd_answer.proofs.FileAnswers.{place_told, word_at}
use Rattle.jd_answer.proofs.java.placed.Goals as goal

pub returns : goal.returns
returns c =
    place_told (word_texts c.args.names.now) c.args.file c.as_bytes-name.result.now c.args.kind.now _ c.args.at
    (word_at c.args.names.now c.args.file c.index-names-file.result c.as_bytes-name.result.now c.requires c.index-names-file.is c.as_bytes-name.ensures.value) c.in_ok-class_refusal_line.ensures
