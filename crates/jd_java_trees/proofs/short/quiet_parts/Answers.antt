use Rattle.jd_java_trees.proofs.Standing.{quiet}
use Rattle.jd_java_trees.proofs.short.quiet_parts.Goals as goal

pub returns : goal.returns
returns c = quiet c.args.production (c.is_blank.ensures c.if-not-is_blank.false)
