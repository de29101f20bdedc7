use Rattle.std.proofs.Common.{◌≡◌, [], map, take}
use Rattle.jd_proofs.specs.Outcomes.{tree_in}
use Rattle.jd_proofs.specs.Answers.{trees_view}
use Rattle.jd_proofs.specs.Given.{names_view}
use Rattle.jd_proofs.proofs.named.no_trees.Given as goal

abbrev pub invariant-loop-name : goal.invariant-loop-name
invariant-loop-name l = trees_view l.trees.items ≡ map (tree_in []) (names_view (take l._name-index l.names))
