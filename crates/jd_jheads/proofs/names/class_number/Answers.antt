use Rattle.std.proofs.Common.{sym, ◌∙◌}
use Rattle.jd_jheads.proofs.NameSets.{number_of}
use Rattle.jd_jheads.proofs.names.class_number.Goals as goal

pub returns-in-Some : goal.returns-in-Some
returns-in-Some c = sym c.in-Some.is ∙ number_of c.args.name.now c.args.names.now.keys c.get_index_of.result c.get_index_of.ensures.index

pub returns-in-None : goal.returns-in-None
returns-in-None c = sym c.in-None.is ∙ number_of c.args.name.now c.args.names.now.keys c.get_index_of.result c.get_index_of.ensures.index
