use Rattle.std.proofs.Common.{sym, ◌∙◌}
use Rattle.jd_twords.proofs.Numbers.{negative_is, no_negative}
use Rattle.jd_twords.proofs.shapes.negative_of.Goals as goal

pub returns-in-Some : goal.returns-in-Some
returns-in-Some c = negative_is c.args.limit c.in-Some.n c.args.word.now c.negated.result (sym c.in-Some.is ∙ c.number_below.ensures) c.negated.ensures

pub returns-in-None : goal.returns-in-None
returns-in-None c = no_negative c.args.limit c.args.word.now (sym c.in-None.is ∙ c.number_below.ensures)
