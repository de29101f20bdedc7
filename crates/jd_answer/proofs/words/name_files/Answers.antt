use Rattle.std.proofs.Common.{◌&&◌, ap, sym, ◌∙◌}
use Rattle.jd_answer.proofs.Names.{all_named, one_name_more}
use Rattle.jd_answer.proofs.words.name_files.Goals as goal
use Rattle.jd_answer.proofs.words.name_files.Goals.{then-names_file, else-names_file}

pub loop-word-preserved : goal.loop-word-preserved
loop-word-preserved c =
    one_name_more c.args.words.now c.loop-word.word-index c.word-item.result c.as_str.result.now c.names_file.result c.loop-word.all _ c.loop-word-test.true c.word-item.is c.as_str.ensures.value c.names_file.ensures c.loop-word.invariant
    (elim c.if-names_file.branch [
      | then-names_file w ↦ w.all-is ∙ ap (λ b. b && c.loop-word.all) (sym w.if-names_file.true)
      | else-names_file w ↦ w.all-is ∙ (w.if-names_file.false ∙ ap (λ b. b && c.loop-word.all) (sym w.if-names_file.false))
    ])

pub returns : goal.returns
returns c = all_named c.args.words.now c.loop-word.word-index c.loop-word.all c.loop-word-test.false c.loop-word.invariant
