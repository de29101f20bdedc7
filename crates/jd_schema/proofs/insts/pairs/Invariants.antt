use Rattle.std.proofs.Common.{drop, map, ◌++◌, ◌≡◌}
use Rattle.jd_schema.specs.Parts.{part}
use Rattle.jd_schema_matching.specs.PartViews.{entry_view}
use Rattle.jd_schema.proofs.insts.pairs.Given as goal

abbrev pub invariant-loop-e : goal.invariant-loop-e
invariant-loop-e l = map (λ p. (p.0.items, part p.1)) l.made.items ++ map entry_view (drop l.e-index l.entries) ≡ map entry_view l.entries
