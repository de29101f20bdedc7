use Rattle.jd_java_attributes.proofs.Levels.{quiet_telling}
use Rattle.jd_java_attributes.proofs.short.quiet_told_parts.Goals as goal

pub returns : goal.returns
returns c = quiet_telling c.args.production c.row-row.result c.row-row.ensures (c.tells_parts.ensures c.if-not-tells_parts.false)
