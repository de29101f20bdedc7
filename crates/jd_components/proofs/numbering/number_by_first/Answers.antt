use Rattle.std.proofs.Common.{◌≤◌, ◌+◌, ℕ, List, get_or, slice_set, Some, sym, subst, arith}
use Rattle.jd_components.specs.Numberings.{IsNumbering}
use Rattle.jd_components.proofs.Numbers.{all_numbered, number_fits, one_more_number, read_given}
use Rattle.jd_components.proofs.numbering.number_by_first.Goals as goal

pub overflow_add-number : goal.overflow_add-number
overflow_add-number c =
    let inside = c.requires.inside c.loop-label.label-index c.loop-label-test.true in
    let there = read_given c.loop-label.given.items _ c.index.result.now (omega (arith, inside, c.loop-label.invariant.room)) c.index.ensures in
    let small : c.unwrap_or-number.result ≤ c.loop-label.count =
    number_fits c.args.labels.now c.loop-label.given.items c.loop-label.numbers.items c.loop-label.count c.loop-label.label-index c.loop-label.invariant c.index.result.now c.unwrap_or-number.result there
    c.unwrap_or-number.ensures in
    omega (arith, small, c.loop-label.invariant.few, c.requires.few)

pub loop-label-preserved : goal.loop-label-preserved
loop-label-preserved c =
    let inside = c.requires.inside c.loop-label.label-index c.loop-label-test.true in
    let there = read_given c.loop-label.given.items _ c.index.result.now (omega (arith, inside, c.loop-label.invariant.room)) c.index.ensures in
    subst (λ (numbers : List ℕ). IsNumbering c.args.labels.now (slice_set c.loop-label.given.items (get_or c.args.labels.now c.loop-label.label-index 0) (Some c.unwrap_or-number.result)) numbers c.max-count.result (c.loop-label.label-index + 1))
    (sym c.in_ok-push.ensures.items)
    (one_more_number c.args.labels.now c.loop-label.given.items c.loop-label.numbers.items c.loop-label.count c.loop-label.label-index c.loop-label.invariant c.index.result.now c.unwrap_or-number.result
    c.max-count.result c.requires.inside c.loop-label-test.true there c.unwrap_or-number.ensures c.max-count.ensures)

pub returns : goal.returns
returns c =
    all_numbered c.args.labels.now c.loop-label.given.items c.loop-label.numbers.items c.loop-label.count c.loop-label.label-index c.loop-label.invariant c.loop-label-test.false c.loop-label.auto.label-index-end
