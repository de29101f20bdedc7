use Rattle.std.proofs.Common.{◌+◌, arith}
use Rattle.jd_ancestry.proofs.Numbers.{goes_on, one_more_number}
use Rattle.jd_ancestry.proofs.numbering.number_from.Goals as goal

pub loop-step-preserved : goal.loop-step-preserved
loop-step-preserved c =
    let there = c.loop-step.invariant.there c.loop-step-test.true in
    let next = goes_on c.args.parents.now c.args.start c.loop-step.step c.args.count c.loop-step.node c.unwrap_or-node.result _ c.requires.nodes c.loop-step.invariant.inside c.unwrap_or-node.ensures
    (c.requires.reached (c.loop-step.step + 1)) there in
    record {
      numbers = one_more_number c.args.parents.now c.args.depths.now c.loop-step.depths c.args.start c.loop-step.step (c.args.lowest + c.args.count) c.loop-step.node _ c.requires.no_cycle
          (omega arith) c.loop-step.invariant.inside there (omega arith) c.loop-step.invariant.numbers;
      there = next.0;
      inside = next.1;
    }
