use Rattle.jd_first_rules.proofs.Chains.{chained_view}
use Rattle.jd_first_rules.proofs.parts.chained.Goals as goal

pub returns : goal.returns
returns c = chained_view _ c.args.code c.args.whole.now _ c.deref.ensures.value c.in_ok-extend.ensures
