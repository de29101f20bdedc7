use Rattle.std.proofs.Common.{map}
use Rattle.jd_files.proofs.Trees.{AreReadTo}
use Rattle.jd_files.proofs.reading.trees_of.Given as goal

abbrev pub invariant-loop-number : goal.invariant-loop-number
invariant-loop-number l = AreReadTo (map (λ f. f.items) l.files) l.number l.so_far
