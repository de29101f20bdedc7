use Rattle.std.proofs.Common.{of_z, subst, to_z}
use Rattle.std.specs.Int.{w128}
use Rattle.std.proofs.lemmas.Int.{to_z-of_z}
use Rattle.jd_term.specs.Terms as plain
use Rattle.jd_sized_makers.specs.Made.{IsTerm}
use Rattle.jd_sized_makers.proofs.terms.number.Goals as goal

pub returns : goal.returns
returns c = subst (λ k. IsTerm c.leaf.result (plain.Number k)) (to_z-of_z w128 c.args.n c.ranges.n) (c.leaf.ensures (plain.Number (to_z w128 (of_z w128 c.args.n))) tt c.of_number.ensures)
