use Rattle.std.proofs.Common.{Some, None, get_or, subst, sym}
use Rattle.jd_classes.proofs.Lineages.{Completes, at_top, none_left, one_higher, parent_at}
use Rattle.jd_classes.proofs.fields.lineage.Goals as goal

pub loop-lowest-preserved : goal.loop-lowest-preserved
loop-lowest-preserved c =
    let parent = parent_at c.args.parents.now c.loop-lowest.lowest _ (Some c.in-Some.parent) c.loop-lowest.invariant.inside c.in-Some.is in
    record {
      inside = c.requires.nodes c.in-Some.parent c.loop-lowest.lowest parent;
      completes = subst (λ cs. Completes c.args.parents.now c.args.class cs c.in-Some.parent) (sym c.in_ok-push-2.ensures.items) (one_higher c.args.parents.now c.args.class c.loop-lowest.lowest c.loop-lowest.classes.items c.loop-lowest.invariant.completes c.in-Some.parent parent);
    }

pub returns : goal.returns
returns c =
    at_top c.args.parents.now c.args.class c.loop-lowest.lowest c.loop-lowest.classes.items c.loop-lowest.invariant.completes
    (parent_at c.args.parents.now c.loop-lowest.lowest None None c.loop-lowest.invariant.inside (none_left (get_or c.args.parents.now c.loop-lowest.lowest None) c.in_default.not-Some))
