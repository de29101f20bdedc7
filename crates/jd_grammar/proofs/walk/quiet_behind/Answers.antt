use Rattle.std.proofs.Common.{refl}
use Rattle.jd_grammar.proofs.Walking.{quiet_step}
use Rattle.jd_grammar.proofs.walk.quiet_behind.Goals as goal

pub returns : goal.returns
returns g c =
    quiet_step (g.N.Nodes.count c.args.nodes.now) (g.N.Nodes.stands c.args.nodes.now) g.V.Blank.nothing c.args.production c.in-Some.parts c.args.nothing _ _ c.in-Some.ensures c.if-parts-nothing.false refl refl
