use Rattle.std.proofs.Common.{◌≤◌, ◌++◌, List, replicate}
use Rattle.jd_grammar.specs.Counted.{IsLeft, IsWalked}
use Rattle.jd_grammar.proofs.walk.quiet_run.Given as goal

-- what was passed were tokens, and nodes that stand for nothing as their parts do
abbrev pub invariant-loop-left : goal.invariant-loop-left
invariant-loop-left g l = record {
  fewer : l.left ≤ l.fn.from.left;
  place : IsLeft l.order l.left l.at;
  walked : (ts : List g.row.T.Denot) (rest : List g.row.V.Denot) → IsWalked (g.N.Nodes.count l.nodes) (g.N.Nodes.stands l.nodes) l.order ts l.fn.from.left l.fn.from.at (replicate l.fn.from.nothing g.V.Blank.nothing ++ rest) → IsWalked (g.N.Nodes.count l.nodes) (g.N.Nodes.stands l.nodes) l.order ts l.left l.at (replicate l.nothing g.V.Blank.nothing ++ rest);
}

abbrev pub decreases-loop-left : goal.decreases-loop-left
decreases-loop-left g l = l.left
