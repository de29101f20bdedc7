use Rattle.std.proofs.Common.{ap, sym, ◌∙◌, length}
use Rattle.std.proofs.Math.ListN.{get_or-map}
use Rattle.std.proofs.lemmas.List.{length-map}
use Rattle.jd_java_tokens.specs.Words.{spelled, table_view, tables_view}
use Rattle.jd_java_tokens.proofs.ByLength.{longer, by_length}
use Rattle.jd_java_tokens.proofs.words.find_by_length.Goals as goal

pub returns-then-text-tables : goal.returns-then-text-tables
returns-then-text-tables g c = longer g.rows (tables_view c.args.tables.now) c.requires c.args.text.now (rw (length-map c.args.tables.now (λ rows. table_view rows.now)) c.if-text-tables.true)

pub returns : goal.returns
returns g c =
    c.find_spelled.ensures
    ∙ ap (λ rows. spelled rows c.args.text.now) (sym (get_or-map (λ rows. table_view rows.now) c.args.tables.now (length c.args.text.now) _))
    ∙ by_length g.rows (tables_view c.args.tables.now) c.requires c.args.text.now (rw (length-map c.args.tables.now (λ rows. table_view rows.now)) c.if-text-tables.false)
