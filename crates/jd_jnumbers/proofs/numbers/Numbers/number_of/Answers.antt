use Rattle.std.proofs.Common.{sym, ◌∙◌}
use Rattle.jd_jnumbers.proofs.TextSets.{number_of}
use Rattle.jd_jnumbers.proofs.numbers.Numbers.number_of.Goals as goal

pub returns-in-Some : goal.returns-in-Some
returns-in-Some c = sym c.in-Some.is ∙ number_of c.args.text.now c.args.self.now.texts.keys c.get_index_of.result c.get_index_of.ensures.index

pub returns-in-None : goal.returns-in-None
returns-in-None c = sym c.in-None.is ∙ number_of c.args.text.now c.args.self.now.texts.keys c.get_index_of.result c.get_index_of.ensures.index
