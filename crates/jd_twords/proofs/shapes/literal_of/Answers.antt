use Rattle.std.proofs.Common.{sym, ◌∙◌}
use Rattle.jd_twords.proofs.Numbers.{literal_fits, literal_is}
use Rattle.jd_twords.proofs.shapes.literal_of.Goals as goal

pub overflow_cast-result : goal.overflow_cast-result
overflow_cast-result c = literal_fits c.args.word.now c.in-Some.n (sym c.in-Some.is ∙ c.integer_of.ensures)

pub returns-in-Some : goal.returns-in-Some
returns-in-Some c = literal_is c.args.word.now c.in-Some.n (sym c.in-Some.is ∙ c.integer_of.ensures)
