use Rattle.std.proofs.Common.{neg_ℤ}
use Rattle.jd_term.specs.Terms as terms
use Rattle.jd_jml_formulas.proofs.terms.negative.Goals as goal

pub returns-else-n-gtminus170141183460469231731687303715884105728 : goal.returns-else-n-gtminus170141183460469231731687303715884105728
returns-else-n-gtminus170141183460469231731687303715884105728 c = c.leaf.ensures (terms.Number (neg_ℤ c.args.n)) tt tt
