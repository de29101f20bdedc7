use Rattle.std.proofs.Common.{◌∙◌}
use Rattle.jd_tforms.specs.Heads.{term_word, term_heads}
use Rattle.jd_twords.proofs.Tables.{beside_words}
use Rattle.jd_twords.proofs.heads.term_head.Goals as goal

pub returns : goal.returns
returns c = c.head_beside.ensures ∙ beside_words term_word term_heads c.args.word.now
