use Rattle.std.proofs.Common.{refl}
use Rattle.jd_jml_attributes.proofs.Levels.{kept}
use Rattle.jd_jml_attributes.proofs.short.kept_parts.Goals as goal

pub returns : goal.returns
returns c = kept c.args.production _ c.row-row.result c.args.first.now c.row-row.ensures (c.is_level.ensures c.if-not-is_level.false) (c.is_settled.ensures c.if-not-is_settled.false) c.if-row-eq0.false refl
