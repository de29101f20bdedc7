use Rattle.std.proofs.Common.{◌≤◌, ◌*◌, arith}
use Rattle.jd_reach.specs.Graphs.{edge}
use Rattle.jd_reach.proofs.Bits.{no_edge}
use Rattle.jd_reach.proofs.graph.Graph.new.Goals as goal

pub returns-clause-empty : goal.returns-clause-empty
unfolding edge
returns-clause-empty c =
    let covered : c.args.nodes ≤ 64 * c.div_ceil-width.result = omega (arith, c.div_ceil-width.ensures) in
    no_edge c.args.nodes c.div_ceil-width.result c.in_ok-words.words.items (c.in_ok-words.ensures.items_if_clones_equal (λ y same. same)) covered
