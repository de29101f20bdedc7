use Rattle.jd_case_obligations.proofs.Turns.{constants_more}
use Rattle.jd_case_obligations.proofs.constants.add_parameters.Goals as goal

pub loop-v-preserved : goal.loop-v-preserved
loop-v-preserved c = constants_more c.args.vars.now c.loop-v.v-index c.v-item.result _ _ c.in_ok-of_parameter.field-0 _ c.loop-v-test.true c.v-item.is c.in_ok-of_parameter.ensures c.in_ok-put.ensures c.loop-v.invariant
