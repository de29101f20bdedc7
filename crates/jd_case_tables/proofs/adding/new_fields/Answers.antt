use Rattle.std.proofs.Common.{map, sym, ◌∙◌}
use Rattle.jd_row_makers.specs.Heads.{field_view}
use Rattle.jd_case_tables.specs.Placed.{written_view}
use Rattle.jd_case_tables.proofs.Added.{built, not_built}
use Rattle.jd_case_tables.proofs.adding.new_fields.Goals as goal

pub returns-then-builds : goal.returns-then-builds
returns-then-builds g c = λ units p fields m tables known there.
    let d = g.D.Declares.declarations c.args.rows.now.declared.now in
    let w = written_view c.args.written in
    built p fields d w.0 w.1 c.fields_along.result (λ v. map field_view v.items) _ (sym (c.builds.ensures d) ∙ c.if-builds.true) (known.listed m w there) (c.fields_along.ensures units tables (known.within m w there))

pub returns-else-builds : goal.returns-else-builds
returns-else-builds g c = λ units p fields m tables known there.
    let d = g.D.Declares.declarations c.args.rows.now.declared.now in
    let w = written_view c.args.written in
    not_built p fields d w.0 w.1 _ (sym (c.builds.ensures d) ∙ c.if-builds.false)
