use Rattle.std.proofs.Common.{◌≡◌, ℕ, Bool, true, get_or, refl, subst, arith, below_more}
use Rattle.std.specs.List.{Contains}
use Rattle.std.proofs.lemmas.Nat.{row_fits}
use Rattle.jd_reach.specs.Rows.{row_bit}
use Rattle.jd_reach.proofs.Filling.{Adds, copied, join_adds, join_keeps, keeps_on}
use Rattle.jd_reach.proofs.Stacks.{at_place, place_of}
use Rattle.jd_reach.proofs.group.copy_row.Goals as goal

pub join-requires-clause-into : goal.join-requires-clause-into
join-requires-clause-into c =
    let below = c.requires.below _ (at_place c.args.members.now _ c.loop-member.member-index c.loop-member-test.true refl) in
    omega (arith, row_fits (get_or c.args.members.now c.loop-member.member-index 0) c.args.width c.args.nodes c.args.width below (omega arith))

pub loop-member-preserved : goal.loop-member-preserved
loop-member-preserved c =
    let member : ℕ = get_or c.args.members.now c.loop-member.member-index 0 in
    let there : Contains c.args.members.now member = at_place c.args.members.now member c.loop-member.member-index c.loop-member-test.true refl in
    let old : ℕ → ℕ → Bool = row_bit c.args.width c.args.closed.now in
    let cur : ℕ → ℕ → Bool = row_bit c.args.width c.loop-member.closed in
    let new : ℕ → ℕ → Bool = row_bit c.args.width c.join.new.words in
    let step : Adds c.args.nodes cur new member (cur c.args.row) = record { bits = λ a b below. c.join.ensures a b (omega arith) } in
    record {
      kept = keeps_on c.args.nodes cur new member (cur c.args.row) step old c.loop-member.invariant.kept;
      copied = λ k b lt below set.
          below_more (λ (i : ℕ). new (get_or c.args.members.now i 0) b ≡ true) c.loop-member.member-index
          (λ i less. join_keeps c.args.nodes cur new member (cur c.args.row) step (get_or c.args.members.now i 0) b below (c.loop-member.invariant.copied i b less below set))
          (join_adds c.args.nodes cur new member (cur c.args.row) step b below (c.loop-member.invariant.kept c.args.row b below set))
          k lt;
      closed = λ edges closed set both.
          copied c.args.nodes edges cur new member c.args.row (c.loop-member.invariant.closed edges closed set both) (c.requires.below member there) c.requires.row
          (c.loop-member.invariant.kept c.args.row c.args.row c.requires.row set) (both member there).0 (both member there).1 step;
    }

pub returns-clause-copied : goal.returns-clause-copied
returns-clause-copied c m b member below set =
    let p = place_of c.args.members.now m member in
    subst (λ (x : ℕ). row_bit c.args.width c.loop-member.closed x b ≡ true) p.2 (c.loop-member.invariant.copied p.0 b (omega (arith, p.1)) below set)
