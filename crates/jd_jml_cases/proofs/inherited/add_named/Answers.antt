use Rattle.std.proofs.Common.{map}
use Rattle.jd_jinfos.specs.Views.{method_number}
use Rattle.jd_jml_cases.specs.Trees.{cases_by, tree_view}
use Rattle.jd_jml_cases.proofs.Adding.{one_more_at}
use Rattle.jd_jml_cases.proofs.inherited.add_named.Goals as goal

pub loop-m-preserved : goal.loop-m-preserved
loop-m-preserved c = λ units tables.
    one_more_at units (cases_by (map tree_view c.args.p.trees.now)) c.args.name.now method_number c.args.ms.now c.loop-m.m-index _ _ _ _ c.loop-m-test.true (c.in_ok-add_if_named.ensures units tables) (c.loop-m.invariant units tables)
