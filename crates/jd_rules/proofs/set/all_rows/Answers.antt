use Rattle.jd_rules.proofs.set.all_rows.Goals as goal

pub returns : goal.returns
returns c = c.joined_rows.ensures _ _ c.table.ensures c.table-2.ensures
