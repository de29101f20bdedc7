use Rattle.std.proofs.Common.{◌≡◌, fold, map, drop}
use Rattle.jd_jheads.specs.Names.{insert_name, name_list}
use Rattle.jd_jheads.proofs.names.add_table.Given as goal

abbrev pub invariant-loop-name : goal.invariant-loop-name
invariant-loop-name l = fold insert_name (name_list l.names) (map (λ row. row.now) (drop l.name-index l.table)) ≡ fold insert_name (name_list l.fn.names) (map (λ row. row.now) l.table)
