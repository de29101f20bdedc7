use Rattle.jd_java_attributes.proofs.Levels.{quiet_form}
use Rattle.jd_java_attributes.proofs.short.quiet_form_parts.Goals as goal

pub returns : goal.returns
returns c = quiet_form c.args.production c.row-row.result c.row-row.ensures (c.is_blank.ensures c.if-not-is_blank.false)
