use Rattle.std.proofs.Common.{◌+◌, ℕ, List, length, Option, Some, None, Vec, Global, refl, sym, ap, subst, ◌∙◌}
use Rattle.std.proofs.lemmas.List.{with_items_is}
use Rattle.jd_nearest.specs.Orders.{IsByDepth}
use Rattle.jd_nearest.specs.Rows.{AreFilled}
use Rattle.jd_nearest.proofs.Filling.{all_filled, filled_below, filled_on_top, is_node, no_parent, read_parent, row_within}
use Rattle.jd_nearest.proofs.rows.nearest_values.Goals as goal
use Rattle.jd_nearest.proofs.rows.nearest_values.Goals.{in-Some, in_default}

pub fill_row-requires-clause-node : goal.fill_row-requires-clause-node
fill_row-requires-clause-node c =
    let sorted : IsByDepth c.args.depths.now c.deref-node-items.result.now = subst (IsByDepth c.args.depths.now) (sym c.deref-node-items.ensures.value) c.in_ok-order.ensures in
    row_within (length c.args.parents.now) c.args.width _ _
    (is_node c.args.parents.now c.args.depths.now c.args.width c.args.own.items c.deref-node-items.result.now c.requires.depths sorted c.loop-node.node-index _ (0, 0) c.loop-node-test.true refl)
    (ap length c.deref_mut.ensures.value ∙ c.loop-node.invariant.count ∙ c.requires.cells)

pub fill_row-requires-clause-parent : goal.fill_row-requires-clause-parent
fill_row-requires-clause-parent c =
    let sorted : IsByDepth c.args.depths.now c.deref-node-items.result.now = subst (IsByDepth c.args.depths.now) (sym c.deref-node-items.ensures.value) c.in_ok-order.ensures in
    let node = is_node c.args.parents.now c.args.depths.now c.args.width c.args.own.items c.deref-node-items.result.now c.requires.depths sorted c.loop-node.node-index _ (0, 0) c.loop-node-test.true refl in
    row_within (length c.args.parents.now) c.args.width c.in-Some.parent _
    (c.requires.nodes c.in-Some.parent _ (read_parent c.args.parents.now _ None (Some c.in-Some.parent) node c.in-Some.is))
    (ap length c.deref_mut.ensures.value ∙ c.loop-node.invariant.count ∙ c.requires.cells)

pub loop-node-preserved : goal.loop-node-preserved
loop-node-preserved c =
    let sorted : IsByDepth c.args.depths.now c.deref-node-items.result.now = subst (IsByDepth c.args.depths.now) (sym c.deref-node-items.ensures.value) c.in_ok-order.ensures in
    let node = is_node c.args.parents.now c.args.depths.now c.args.width c.args.own.items c.deref-node-items.result.now c.requires.depths sorted c.loop-node.node-index _ (0, 0) c.loop-node-test.true refl in
    elim c.match-parents-node.branch [
      | in-Some w ↦
          subst (λ (items : List (Option ℕ)). AreFilled c.args.parents.now c.args.width c.args.own.items items c.deref-node-items.result.now (c.loop-node.node-index + 1))
          (sym (ap (λ (v : Vec (Option ℕ) Global). v.items) w.values-is ∙ with_items_is c.loop-node.values w.fill_row.new.values (w.fill_row.auto.values ∙ w.deref_mut.ensures.len)))
          (filled_below c.args.parents.now c.args.depths.now c.args.width c.args.own.items c.deref-node-items.result.now c.requires.depths sorted c.loop-node.node-index _ (0, 0) c.loop-node-test.true refl
          w.deref_mut.result.now w.fill_row.new.values w.in-Some.parent c.requires.nodes (read_parent c.args.parents.now _ None (Some w.in-Some.parent) node w.in-Some.is) w.fill_row.ensures
          w.fill_row.auto.values
          (subst (λ (items : List (Option ℕ)). AreFilled c.args.parents.now c.args.width c.args.own.items items c.deref-node-items.result.now c.loop-node.node-index)
          (sym w.deref_mut.ensures.value) c.loop-node.invariant))
      | in_default w ↦
          subst (λ (items : List (Option ℕ)). AreFilled c.args.parents.now c.args.width c.args.own.items items c.deref-node-items.result.now (c.loop-node.node-index + 1))
          (sym (ap (λ (v : Vec (Option ℕ) Global). v.items) w.values-is))
          (filled_on_top c.args.parents.now c.args.depths.now c.args.width c.args.own.items c.deref-node-items.result.now c.requires.depths sorted c.loop-node.node-index _ (0, 0) c.loop-node-test.true refl
          c.loop-node.values.items (read_parent c.args.parents.now _ None None node (no_parent _ w.in_default.not-Some)) c.loop-node.invariant)
    ]

pub returns : goal.returns
returns c =
    let sorted : IsByDepth c.args.depths.now c.deref-node-items.result.now = subst (IsByDepth c.args.depths.now) (sym c.deref-node-items.ensures.value) c.in_ok-order.ensures in
    all_filled c.args.parents.now c.args.depths.now c.args.width c.args.own.items c.deref-node-items.result.now c.loop-node.values.items c.loop-node.node-index c.requires.depths sorted c.loop-node-test.false
    c.loop-node.invariant
