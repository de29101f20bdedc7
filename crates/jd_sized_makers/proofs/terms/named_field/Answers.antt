use Rattle.std.proofs.Common.{refl}
use Rattle.jd_term.specs.Terms as plain
use Rattle.jd_sized_makers.proofs.terms.named_field.Goals as goal

pub returns : goal.returns
returns c = c.leaf.ensures (plain.NamedField c.args.field) tt refl
