use Rattle.std.proofs.Common.{◌∙◌, ◌+◌, ◌-◌, sym, ap, arith, map, refl}
use Rattle.jd_sequent.specs.Trees.{are_trees}
use Rattle.jd_sequent.specs.Steps.{node_view}
use Rattle.jd_sequent.proofs.Scripts.{open_bare}
use Rattle.jd_sequent.proofs.script.one_tree.Goals as goal

pub returns-then-not-is_bare : goal.returns-then-not-is_bare
returns-then-not-is_bare c =
    ap (λ l. are_trees 1 (map node_view l)) (sym c.deref-node-items.ensures.value)
    ∙ open_bare _ _ _ _ c.node-item.result _ _ refl c.node-item.is c.loop-node-test.true (omega arith) c.loop-node.invariant.0 (sym c.is_bare.ensures ∙ c.if-not-is_bare.true)

pub loop-node-preserved : goal.loop-node-preserved
loop-node-preserved c =
    (sym (open_bare _ _ _ (c.loop-node.pending - 1 + c.from.result) c.node-item.result _ _ (ap (λ n. c.loop-node.pending - 1 + n) c.from.ensures) c.node-item.is c.loop-node-test.true (omega arith) c.loop-node.invariant.0 (sym c.is_bare.ensures ∙ c.if-not-is_bare.false)), omega arith)
