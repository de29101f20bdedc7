use Rattle.std.proofs.Common.{◌+◌, ℕ, Bool, arith}
use Rattle.jd_reach.specs.Rows.{row_bit, within}
use Rattle.jd_reach.proofs.Filling.{Takes, takes_all, takes_more}
use Rattle.jd_reach.proofs.Ways.{are_below}
use Rattle.jd_reach.proofs.group.add_reached.Goals as goal

pub loop-to-preserved : goal.loop-to-preserved
loop-to-preserved c =
    let words : ℕ → ℕ → Bool = row_bit c.args.width c.args.words.now in
    let old : ℕ → ℕ → Bool = row_bit c.args.width c.args.closed.now in
    let before : Takes c.args.nodes (within c.args.nodes words) old (row_bit c.args.width c.loop-to.closed) c.args.row c.args.member c.loop-to.from =
    record { kept = c.loop-to.invariant.kept; filled = c.loop-to.invariant.filled; covered = c.loop-to.invariant.covered } in
    let after : Takes c.args.nodes (within c.args.nodes words) old (row_bit c.args.width c.join.new.words) c.args.row c.args.member (c.in-Some.to + 1) =
    takes_more c.args.nodes (within c.args.nodes words) (are_below c.args.nodes words) old (row_bit c.args.width c.loop-to.closed) (row_bit c.args.width c.join.new.words) c.args.row c.args.member c.loop-to.from c.in-Some.to
    before c.in-Some.ensures.found.2 c.in-Some.ensures.found.3 c.in-Some.ensures.first (record { bits = λ a b below. c.join.ensures a b (omega arith) }) in
    record { kept = after.kept; filled = after.filled; covered = after.covered }

pub returns-clause-covered : goal.returns-clause-covered
returns-clause-covered c =
    let words : ℕ → ℕ → Bool = row_bit c.args.width c.args.words.now in
    takes_all c.args.nodes (within c.args.nodes words) (row_bit c.args.width c.args.closed.now) (row_bit c.args.width c.loop-to.closed) c.args.row c.args.member c.loop-to.from
    (record { kept = c.loop-to.invariant.kept; filled = c.loop-to.invariant.filled; covered = c.loop-to.invariant.covered })
    c.in_default.ensures.first
