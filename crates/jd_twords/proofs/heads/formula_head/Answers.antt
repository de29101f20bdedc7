use Rattle.std.proofs.Common.{◌∙◌}
use Rattle.jd_tforms.specs.Heads.{formula_word, formula_heads}
use Rattle.jd_twords.proofs.Tables.{beside_words}
use Rattle.jd_twords.proofs.heads.formula_head.Goals as goal

pub returns : goal.returns
returns c = c.head_beside.ensures ∙ beside_words formula_word formula_heads c.args.word.now
