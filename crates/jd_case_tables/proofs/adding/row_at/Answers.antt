use Rattle.std.proofs.Common.{List, map, subst, sym}
use Rattle.jd_syntax.specs.JavaTrees.{method_view}
use Rattle.jd_row_makers.specs.Heads.{field_view}
use Rattle.jd_row_makers.specs.Rows.{FieldsAre}
use Rattle.jd_row_makers.specs.declared.heads.FieldSort.{FieldSort}
use Rattle.jd_specifications.specs.WrittenCases.{role}
use Rattle.jd_case_tables.proofs.Lists.{made}
use Rattle.jd_case_tables.proofs.adding.row_at.Goals as goal

pub returns-in-Ok-clause-made : goal.returns-in-Ok-clause-made
returns-in-Ok-clause-made g c = λ units p fields b m tables known there marks names.
    let d = g.D.Declares.declarations c.args.rows.now.declared.now in
    c.case_row.ensures.made p fields b known.sorts known.thrown marks names
    (subst (λ (l : List FieldSort). FieldsAre p fields (role d c.args.written.class.0 (method_view c.args.written.tree.now)) (map field_view l)) (sym c.deref.ensures.value)
    (made _ _ _ c.in-Ok.is (c.new_fields.ensures units p fields m tables known there)))

pub returns-in-Ok-clause-why : goal.returns-in-Ok-clause-why
returns-in-Ok-clause-why g c = λ units p fields b tables known marks names. c.case_row.ensures.why p b known.sorts marks names
