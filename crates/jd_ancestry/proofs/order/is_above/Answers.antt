use Rattle.std.proofs.Common.{Some, refl}
use Rattle.jd_ancestry.proofs.Ancestry.{read_parent}
use Rattle.jd_ancestry.proofs.DepthLaws.{is_child_above, none_below, one_up, smaller_up}
use Rattle.jd_ancestry.proofs.order.is_above.Goals as goal

pub returns-then-parent-a : goal.returns-then-parent-a
returns-then-parent-a c = (
  λ yes. is_child_above c.args.parents.now c.args.a c.args.b c.loop-node.node c.in-Some.parent
      (read_parent c.args.parents.now c.loop-node.node _ (Some c.in-Some.parent) c.loop-node.invariant.inside c.in-Some.is) c.if-parent-a.true c.loop-node.invariant.same,
  λ above. refl,
)

pub returns : goal.returns
returns c =
    none_below c.args.parents.now c.args.depths.now c.requires.depths c.args.a c.args.b c.loop-node.node c.loop-node.invariant.same c.loop-node-test.false

pub loop-node-preserved : goal.loop-node-preserved
loop-node-preserved c =
    let parent = read_parent c.args.parents.now c.loop-node.node _ (Some c.in-Some.parent) c.loop-node.invariant.inside c.in-Some.is in
    record {
      inside = c.requires.nodes c.in-Some.parent c.loop-node.node parent;
      same = one_up c.args.parents.now c.args.a c.args.b c.loop-node.node c.in-Some.parent parent c.if-parent-a.false c.loop-node.invariant.same;
    }

pub loop-node-smaller : goal.loop-node-smaller
loop-node-smaller c =
    smaller_up c.args.parents.now c.args.depths.now c.requires.depths c.loop-node.node c.in-Some.parent
    (read_parent c.args.parents.now c.loop-node.node _ (Some c.in-Some.parent) c.loop-node.invariant.inside c.in-Some.is)
