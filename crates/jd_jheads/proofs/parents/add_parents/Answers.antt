use Rattle.std.proofs.Common.{◌++◌, map}
use Rattle.jd_jheads.specs.Firsts.{SuperRefused}
use Rattle.jd_jheads.specs.Names.{name_list, names_with, parents_of}
use Rattle.jd_jheads.specs.Placed.{placed_view}
use Rattle.jd_jheads.proofs.ClassLists.{viewed_at}
use Rattle.jd_jheads.proofs.Standing.{passed_on}
use Rattle.jd_jheads.proofs.Supers.{first_unknown, one_more_known, one_more_parent}
use Rattle.jd_jheads.proofs.parents.add_parents.Goals as goal

pub returns-in_err-number-clause-refused : goal.returns-in_err-number-clause-refused
returns-in_err-number-clause-refused c =
    let ds = map placed_view c.args.classes.now in
    let there = viewed_at placed_view c.args.classes.now c.loop-placed.placed-index c.placed-item.result c.placed-item.is c.loop-placed-test.true in
    passed_on (SuperRefused ds) c.from_residual.result c.in_err-number.field-0.0 c.from_residual.ensures.1
    (first_unknown ds c.loop-placed.placed-index (placed_view c.placed-item.result) (name_list c.args.names.now) c.in_err-number.field-0.0 there c.requires.names c.loop-placed.invariant.1 c.in_err-number.ensures.refused)

pub loop-placed-preserved : goal.loop-placed-preserved
loop-placed-preserved c =
    let ds = map placed_view c.args.classes.now in
    let there = viewed_at placed_view c.args.classes.now c.loop-placed.placed-index c.placed-item.result c.placed-item.is c.loop-placed-test.true in (
      one_more_parent (name_list c.args.names.now) (names_with ds) c.args.classes.now c.loop-placed.placed-index c.placed-item.result c.in_ok-number.number c.loop-placed.parents.items c.push.new.self.items
          (c.args.parents.now.items ++ parents_of ds) c.placed-item.is c.loop-placed-test.true c.requires.names c.in_ok-number.ensures.found c.in_ok-push.ensures.items c.loop-placed.invariant.0,
      one_more_known ds c.loop-placed.placed-index (placed_view c.placed-item.result) (name_list c.args.names.now) c.in_ok-number.number there c.requires.names c.in_ok-number.ensures.found c.loop-placed.invariant.1,
    )
