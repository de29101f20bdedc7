use Rattle.jd_jmlparse.proofs.Tokens.{last_ends}
use Rattle.jd_jmlparse.proofs.parse.end_of.Goals as goal

pub returns-in-Some : goal.returns-in-Some
returns-in-Some c = last_ends c.args.tokens.now c.in-Some.token.now c.in-Some.ensures.value
