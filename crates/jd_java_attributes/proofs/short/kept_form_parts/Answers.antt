use Rattle.jd_java_attributes.proofs.Levels.{kept_form}
use Rattle.jd_java_attributes.proofs.short.kept_form_parts.Goals as goal

pub returns : goal.returns
returns c = kept_form c.args.production c.in-Some.parts c.row.result c.args.first c.row.ensures c.in-Some.ensures (c.is_settled.ensures c.if-not-is_settled.false)
