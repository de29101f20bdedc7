use Rattle.std.proofs.Common.{length, ap, arith}
use Rattle.jd_reach.specs.Rows.{row_bit, within}
use Rattle.jd_reach.proofs.Opening.{new_state}
use Rattle.jd_reach.proofs.search.closed_rows.Goals as goal

pub loop-root-init : goal.loop-root-init
loop-root-init c = record {
  state = new_state c.args.nodes c.args.width (length c.args.words.now) (within c.args.nodes (row_bit c.args.width c.args.words.now)) c.in_ok-search.search c.requires.rows c.requires.bits c.in_ok-search.ensures;
  none = ap length c.in_ok-search.ensures.opened;
  finished = λ v below. absurd (omega arith);
}

pub returns-clause-closed : goal.returns-clause-closed
returns-clause-closed c a b p q =
    let closed = c.loop-root.invariant.state.run.closed in
    let set = c.loop-root.invariant.finished a (omega (arith, p, c.loop-root-test.false)) in
    (closed.sound a b p q, λ way. closed.whole a a b p p q set way)
