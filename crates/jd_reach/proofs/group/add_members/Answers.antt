use Rattle.std.proofs.Common.{◌≡◌, ◌==◌, true, ℕ, get_or, refl, inl, inr, sym, subst, arith, below_more, eq-eqb, eqb-true}
use Rattle.std.specs.List.{Contains}
use Rattle.jd_reach.specs.Rows.{row_bit}
use Rattle.jd_reach.proofs.Filling.{Adds, join_adds, join_only, keeps_on}
use Rattle.jd_reach.proofs.Stacks.{at_place, place_of}
use Rattle.jd_reach.proofs.group.add_members.Goals as goal

pub set-requires-clause-bit : goal.set-requires-clause-bit
set-requires-clause-bit c =
    let below = c.requires.below (get_or c.args.members.now c.loop-member.member-index 0) (at_place c.args.members.now _ c.loop-member.member-index c.loop-member-test.true refl) in
    omega (arith, below)

pub loop-member-preserved : goal.loop-member-preserved
loop-member-preserved c =
    let member : ℕ = get_or c.args.members.now c.loop-member.member-index 0 in
    let there : Contains c.args.members.now member = at_place c.args.members.now member c.loop-member.member-index c.loop-member-test.true refl in
    let step : Adds c.args.nodes (row_bit c.args.width c.loop-member.closed) (row_bit c.args.width c.set.new.words) c.args.row (λ b. b == member) =
    record { bits = λ a b below. c.set.ensures a b (omega arith) } in
    record {
      kept = keeps_on c.args.nodes _ _ c.args.row _ step _ c.loop-member.invariant.kept;
      only = λ a b below set.
          elim (join_only c.args.nodes _ _ c.args.row _ step a b below set) [
            | inl old ↦ c.loop-member.invariant.only a b below old
            | inr more ↦ inr (more.0, subst (Contains c.args.members.now) (sym (eqb-true b member more.1)) there)
          ];
      added = below_more _ c.loop-member.member-index
          (λ k lt. keeps_on c.args.nodes _ _ c.args.row _ step (row_bit c.args.width c.loop-member.closed) (λ a b below set. set) c.args.row (get_or c.args.members.now k 0)
          (c.requires.below _ (at_place c.args.members.now _ k (omega arith) refl)) (c.loop-member.invariant.added k lt))
          (join_adds c.args.nodes _ _ c.args.row _ step member (c.requires.below member there) (eq-eqb member member refl));
    }

pub returns-clause-added : goal.returns-clause-added
returns-clause-added c m there =
    let p = place_of c.args.members.now m there in
    subst (λ (x : ℕ). row_bit c.args.width c.loop-member.closed c.args.row x ≡ true) p.2 (c.loop-member.invariant.added p.0 (omega (arith, p.1)))
