use Rattle.std.proofs.Common.{map, option_map}
use Rattle.jd_row_makers.specs.Heads.{declared_view, parameter_view}
use Rattle.jd_case_clauses.proofs.Spellings.{made, same_spelling}
use Rattle.jd_case_clauses.proofs.spelling.spelled.Goals as goal

pub returns : goal.returns
returns c =
    let heaps = made _ _ _ c.in_ok-now.ensures.0 c.both-heaps.ensures in
    let others = made _ _ _ c.in_ok-now.ensures.1 c.both-2.ensures in
    let objects = made _ _ _ others.0 c.both-objects.ensures in
    let results = made _ _ _ objects.1 c.both.ensures in
    let lists = made _ _ _ others.1 c.both-lists.ensures in
    let s = c.in_ok-now in
    same_spelling (record { now = s.now; before = s.before; arguments = s.arguments; arguments_before = s.arguments_before; this = s.this; value = s.value; thrown = s.thrown }) (map parameter_view c.args.parameters.now) (option_map declared_view c.args.outcome)
    (made _ _ _ heaps.0 c.heap.ensures) (made _ _ _ heaps.1 c.heap-2.ensures)
    (made _ _ _ lists.0 c.arguments.ensures) (made _ _ _ lists.1 c.arguments-2.ensures)
    (made _ _ _ objects.0 c.receiver.ensures) (made _ _ _ results.0 c.value.ensures) (made _ _ _ results.1 c.thrown.ensures)
