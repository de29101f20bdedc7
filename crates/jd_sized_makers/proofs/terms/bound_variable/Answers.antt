use Rattle.std.proofs.Common.{refl}
use Rattle.jd_term.specs.Terms as plain
use Rattle.jd_sized_makers.proofs.terms.bound_variable.Goals as goal

pub returns : goal.returns
returns c = c.leaf.ensures (plain.Bound c.args.index c.args.sort) tt refl
