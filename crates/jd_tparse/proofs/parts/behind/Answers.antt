use Rattle.jd_tparse.proofs.Prefixes.{none_behind, dot_behind}
use Rattle.jd_tparse.proofs.parts.behind.Goals as goal

pub returns-in-None : goal.returns-in-None
returns-in-None c rest e = none_behind c.args.name.now c.args.word.now c.in-None.ensures.cases rest e

pub returns-in-Some : goal.returns-in-Some
returns-in-Some c = dot_behind c.args.name.now c.args.word.now c.in-Some.more c.in-Some.ensures.cases c.strip_prefix-in-Some.result c.strip_prefix-in-Some.ensures.cases
