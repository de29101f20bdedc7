use Rattle.jd_syntax.proofs.Lists.{at_item}
use Rattle.jd_term.proofs.mapping.map_pairs.Goals as goal
use Rattle.jd_term.specs.Formulas.{pair_view}
use Rattle.jd_term.specs.Maps.{EachLeaf}
use Rattle.std.proofs.Common.{arith}

pub map_term-requires : goal.map_term-requires
map_term-requires g c =
    at_item (λ p. EachLeaf (g.M.Leaves.leaves c.args.m.now).below (g.M.Leaves.Fits c.args.m.now) c.args.depth p.1) pair_view c.args.pairs.now c.loop-p.p-index _ c.p-item.is (omega arith) c.requires
