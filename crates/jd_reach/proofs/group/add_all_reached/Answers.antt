use Rattle.std.proofs.Common.{◌≡◌, ℕ, true, refl, subst, sym, arith}
use Rattle.jd_reach.specs.Rows.{row_bit, within}
use Rattle.jd_reach.proofs.Filling.{all_filled}
use Rattle.jd_reach.proofs.Stacks.{at_place, place_of}
use Rattle.jd_reach.proofs.Ways.{are_below}
use Rattle.jd_reach.proofs.group.add_all_reached.Goals as goal

pub add_reached-requires-clause-member : goal.add_reached-requires-clause-member
add_reached-requires-clause-member c =
    c.requires.filled.group.below _ (at_place c.args.members.now _ c.loop-member.member-index c.loop-member-test.true refl)

pub returns-clause-closed : goal.returns-clause-closed
returns-clause-closed c =
    all_filled c.args.nodes (within c.args.nodes (row_bit c.args.width c.args.words.now)) (are_below c.args.nodes (row_bit c.args.width c.args.words.now)) (row_bit c.args.width c.loop-member.closed) c.args.members.now c.args.row
    c.loop-member.invariant.filled
    (λ m v member edge.
    let p = place_of c.args.members.now m member in
    c.loop-member.invariant.covered p.0 v (omega (arith, p.1)) (subst (λ (x : ℕ). within c.args.nodes (row_bit c.args.width c.args.words.now) x v ≡ true) (sym p.2) edge))
