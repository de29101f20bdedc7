use Rattle.std.proofs.Common.{refl}
use Rattle.jd_term.specs.Terms as plain
use Rattle.jd_sized_makers.proofs.terms.null.Goals as goal

pub returns : goal.returns
returns c = c.leaf.ensures (plain.NullTerm) tt refl
