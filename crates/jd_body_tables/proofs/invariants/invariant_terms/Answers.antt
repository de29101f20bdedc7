use Rattle.jd_body_tables.proofs.InvariantRows.{made, terms_are}
use Rattle.jd_body_tables.proofs.invariants.invariant_terms.Goals as goal

pub returns : goal.returns
returns c =
    let heaps = made _ _ _ c.in_ok-this.ensures.1 c.both.ensures in
    terms_are _ _ _ c.new.result.items c.new-2.result.items (made _ _ _ heaps.0 c.heap.ensures) (made _ _ _ heaps.1 c.heap-2.ensures) (made _ _ _ c.in_ok-this.ensures.0 c.receiver.ensures) c.new.ensures.items c.new-2.ensures.items
