use Rattle.jd_obligation_makers.proofs.Beginnings.{pairs_more}
use Rattle.jd_obligation_makers.proofs.runs.add_parameters.Goals as goal

pub loop-v-preserved : goal.loop-v-preserved
loop-v-preserved c =
    pairs_more c.args.vars.now c.loop-v.v-index c.v-item.result _ _ _ c.loop-v-test.true c.v-item.is (c.in_ok-add_pair.ensures _ _ c.variable_of.ensures c.constant_of.ensures) c.loop-v.invariant
