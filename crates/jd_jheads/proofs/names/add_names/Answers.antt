use Rattle.std.proofs.Common.{map, arith}
use Rattle.jd_jheads.specs.Names.{name_list}
use Rattle.jd_jheads.specs.Placed.{placed_view}
use Rattle.jd_jheads.proofs.ClassLists.{viewed_at}
use Rattle.jd_jheads.proofs.NewNames.{first_used, one_more_name, one_more_new}
use Rattle.jd_jheads.proofs.names.add_names.Goals as goal

pub returns-then-not-branch-clause-refused : goal.returns-then-not-branch-clause-refused
returns-then-not-branch-clause-refused c =
    let d = placed_view c.placed-item.result in
    let there = viewed_at placed_view c.args.classes.now c.loop-placed.placed-index c.placed-item.result c.placed-item.is c.loop-placed-test.true in
    first_used (map placed_view c.args.classes.now) c.loop-placed.placed-index d c.deref.result.now (name_list c.loop-placed.names) there c.deref.ensures.value c.loop-placed.invariant.0
    c.in_ok-add_name.field-0 c.in_ok-add_name.ensures.new (grind (arith, c.if-not-branch.true)) c.loop-placed.invariant.1

pub loop-placed-preserved : goal.loop-placed-preserved
loop-placed-preserved c =
    let d = placed_view c.placed-item.result in
    let there = viewed_at placed_view c.args.classes.now c.loop-placed.placed-index c.placed-item.result c.placed-item.is c.loop-placed-test.true in (
      one_more_name (map placed_view c.args.classes.now) c.loop-placed.placed-index d c.deref.result.now (name_list c.loop-placed.names) there c.deref.ensures.value c.loop-placed.invariant.0
          (name_list c.add_name.new.names) c.in_ok-add_name.field-0 c.in_ok-add_name.ensures.names c.in_ok-add_name.ensures.new (grind (arith, c.if-not-branch.false)),
      one_more_new (map placed_view c.args.classes.now) c.loop-placed.placed-index d c.deref.result.now (name_list c.loop-placed.names) there c.deref.ensures.value c.loop-placed.invariant.0
          c.in_ok-add_name.field-0 c.in_ok-add_name.ensures.new (grind (arith, c.if-not-branch.false)) c.loop-placed.invariant.1,
    )
