use Rattle.term_rows.proofs.setting.tables.Goals as goal

pub returns-in-Ok : goal.returns-in-Ok
returns-in-Ok c = (c.in-Ok.ensures.tables.units, c.in-Ok.ensures.tables.tables)
