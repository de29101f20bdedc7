use Rattle.jd_twords.proofs.Numbers.{behind_sign}
use Rattle.jd_twords.proofs.shapes.integer_of.Goals as goal

pub returns-then-first-eq45 : goal.returns-then-first-eq45
returns-then-first-eq45 c = behind_sign c.args.limit c.args.word.now c.negative_of.result c.in-len1-up.len_at_least c.if-first-eq45.true c.negative_of.ensures
