use Rattle.std.proofs.Common.{◌≡◌, length, reverse}
use Rattle.jd_script_print.specs.Writing.{end_tree}
use Rattle.jd_script_print.proofs.trees.end_tree.Given as goal

-- what is left makes of the text what all open steps do
abbrev pub invariant-loop-more : goal.invariant-loop-more
invariant-loop-more l = end_tree l.out (reverse l.left.items) ≡ end_tree l.fn.out (reverse l.fn.left.items)

abbrev pub decreases-loop-more : goal.decreases-loop-more
decreases-loop-more l = length l.left.items
