use Rattle.jd_tac_logic.proofs.data.table.Goals as goal

pub returns : goal.returns
returns c = c.joined_rows-4.ensures _ _ (c.joined_rows.ensures _ _ c.logic_1.ensures c.logic_2.ensures) (c.joined_rows-3.ensures _ _ c.logic_3.ensures (c.joined_rows-2.ensures _ _ c.logic_4.ensures c.logic_5.ensures))
