use Rattle.std.proofs.Common.{◌≡◌, [], replicate}
use Rattle.jd_jgraph.specs.Named.{lists_of}
use Rattle.jd_jgraph.proofs.named.empty_lists.Given as goal

abbrev pub invariant-loop : goal.invariant-loop
invariant-loop l = lists_of l.lists.items ≡ replicate l.counter []
