use Rattle.jd_jml_attributes.proofs.Levels.{quiet}
use Rattle.jd_jml_attributes.proofs.short.quiet_parts.Goals as goal

pub returns : goal.returns
returns c = quiet c.args.production c.row-row.result c.row-row.ensures (c.is_level.ensures c.if-not-is_level.false)
