use Rattle.jd_syntax.specs.Names.{var_view}
use Rattle.jd_term.specs.Terms as plain
use Rattle.jd_sized_makers.proofs.terms.variable.Goals as goal

pub returns : goal.returns
returns c = c.leaf.ensures (plain.ProgramVariable (var_view c.args.v.now)) tt (c.of_variable.ensures (var_view c.args.v.now) c.copy.ensures)
