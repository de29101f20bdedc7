use Rattle.std.proofs.Common.{length}
use Rattle.jd_inherited.proofs.Searching.{IsSearched}
use Rattle.jd_inherited.proofs.find.search.Given as goal

abbrev pub invariant-loop-i : goal.invariant-loop-i
invariant-loop-i l =
    IsSearched l.forest.parents.now l.forest.depths.now l.items (length l.fn.counts.keys.items) (length l.fn.counts.variants.items) l.order l.i-index l.place l.first l.counts.keys.items l.counts.variants.items
