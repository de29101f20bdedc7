use Rattle.std.proofs.Common.{◌≡◌, drop}
use Rattle.jd_model.specs.Places.{part_at}
use Rattle.jd_model.specs.Nodes.{node_part}
use Rattle.jd_model.proofs.places.node_at.Given as goal

abbrev pub invariant-loop-number : goal.invariant-loop-number
invariant-loop-number l = part_at (drop l.number-index l.path) (node_part l.node) ≡ part_at l.path (node_part l.initial.node)
