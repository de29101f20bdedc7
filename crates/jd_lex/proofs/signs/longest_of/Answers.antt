use Rattle.jd_lex.proofs.Longest.{longest_step}
use Rattle.jd_lex.proofs.signs.longest_of.Goals as goal

pub loop-sign-preserved : goal.loop-sign-preserved
loop-sign-preserved c = longest_step c.args.table.now _ c.loop-sign.sign-index c.args.bytes.now c.loop-sign.best c.longer-best.result c.loop-sign-test.true c.loop-sign.invariant c.longer-best.ensures
