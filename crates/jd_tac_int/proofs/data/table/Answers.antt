use Rattle.jd_tac_int.proofs.data.table.Goals as goal

pub returns : goal.returns
returns c = c.joined_rows-4.ensures _ _ (c.joined_rows.ensures _ _ c.integers_1.ensures c.integers_2.ensures) (c.joined_rows-3.ensures _ _ c.integers_3.ensures (c.joined_rows-2.ensures _ _ c.integers_4.ensures c.integers_5.ensures))
