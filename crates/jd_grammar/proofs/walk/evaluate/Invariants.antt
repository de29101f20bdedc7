use Rattle.jd_grammar.specs.Counted.{IsWalked, shown}
use Rattle.jd_grammar.proofs.walk.evaluate.Given as goal

-- the stack shows the values of what was passed
abbrev pub invariant-loop-place : goal.invariant-loop-place
invariant-loop-place g l = IsWalked (g.N.Nodes.count l.nodes) (g.N.Nodes.stands l.nodes) l.order l.tokens l.place.left l.place.at (shown g.V.Blank.nothing l.piles)

abbrev pub decreases-loop-place : goal.decreases-loop-place
decreases-loop-place g l = l.place.left
