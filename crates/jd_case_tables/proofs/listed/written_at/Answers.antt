use Rattle.std.proofs.Common.{◌≤◌, length, map, sym, arith}
use Rattle.jd_jinfos.specs.Views.{method_info_view}
use Rattle.jd_jml_cases.specs.Trees.{tree_view}
use Rattle.jd_case_tables.proofs.Placing.{place_none, place_past, place_some, told_none, told_some}
use Rattle.jd_case_tables.proofs.listed.written_at.Goals as goal

pub returns-in-None : goal.returns-in-None
returns-in-None c = λ units tables are. sym (place_none units c.args.m.0 (map tree_view c.args.l.trees.now) are (told_none tree_view c.tree_at.result _ c.tree_at.ensures c.in-None.is))

pub returns-then-m-method_count : goal.returns-then-m-method_count
returns-then-m-method_count c = λ units tables are.
    place_some units c.args.m.0 (map tree_view c.args.l.trees.now) (method_info_view c.method.result.now) (tree_view c.in-Some.tree) are (c.method.ensures units tables)
    (told_some tree_view c.tree_at.result _ c.in-Some.tree c.tree_at.ensures c.in-Some.is)

pub returns-else-m-method_count : goal.returns-else-m-method_count
returns-else-m-method_count c = λ units tables are.
    let past : length c.args.l.classes.now.methods.items ≤ c.args.m.0 = omega (arith, c.if-m-method_count.false, c.method_count.ensures) in
    place_past units c.args.m.0 method_info_view c.args.l.classes.now.methods.items tables.methods_ past
