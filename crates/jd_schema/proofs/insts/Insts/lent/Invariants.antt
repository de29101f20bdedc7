use Rattle.std.proofs.Common.{map, take, ◌≡◌}
use Rattle.jd_schema.specs.Parts.{part}
use Rattle.jd_schema_matching.specs.PartViews.{bindings}
use Rattle.jd_schema.proofs.insts.Insts.lent.Given as goal

abbrev pub invariant-loop-p : goal.invariant-loop-p
invariant-loop-p l = bindings l.found ≡ map (λ p. (p.0.items, part p.1)) (take l.p-index l.self.pairs.items)
