use Rattle.jd_bracketed.specs.Tokens.{tokens_of}
use Rattle.jd_script.proofs.Turns.{answers}
use Rattle.jd_script.proofs.whole.parse_within.Goals as goal

pub returns : goal.returns
returns c = answers c.args.limits.steps c.args.limits.levels (tokens_of c.args.bytes.now) c.read_within.result c.read_within.ensures
