use Rattle.std.proofs.Common.{◌∙◌}
use Rattle.jd_tforms.specs.Heads.{expr_word, expr_heads}
use Rattle.jd_twords.proofs.Tables.{beside_words}
use Rattle.jd_twords.proofs.heads.expr_head.Goals as goal

pub returns : goal.returns
returns c = c.head_beside.ensures ∙ beside_words expr_word expr_heads c.args.word.now
