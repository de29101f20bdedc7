use Rattle.std.proofs.Common.{◌∙◌}
use Rattle.jd_tforms.specs.Heads.{loc_word, loc_heads}
use Rattle.jd_twords.proofs.Tables.{beside_words}
use Rattle.jd_twords.proofs.heads.loc_head.Goals as goal

pub returns : goal.returns
returns c = c.head_beside.ensures ∙ beside_words loc_word loc_heads c.args.word.now
