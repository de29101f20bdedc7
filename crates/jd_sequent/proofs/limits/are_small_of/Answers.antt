use Rattle.std.proofs.Common.{map, sym}
use Rattle.jd_term.specs.Formulas.{formula_view}
use Rattle.jd_sequent.proofs.Small.{counted_small}
use Rattle.jd_sequent.proofs.limits.are_small_of.Goals as goal

pub returns-then-nodes-le1000 : goal.returns-then-nodes-le1000
returns-then-nodes-le1000 c = sym (counted_small (map formula_view c.args.formulas.now) c.args.nodes c.requires c.if-nodes-le1000.true)
