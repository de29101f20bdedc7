use Rattle.std.proofs.Common.{sym, ◌∙◌}
use Rattle.jd_ancestry.proofs.Marks.{marked_round, marked_to_known, marked_to_top}
use Rattle.jd_ancestry.proofs.cycles.mark_from.Goals as goal

pub returns-in_default : goal.returns-in_default
returns-in_default c =
    marked_to_top c.args.parents.now c.args.stamps.now c.walk_up-walk.new.stamps c.args.marks.now c.args.start c.walk_up-walk.result.count c.requires.marked c.walk_up-walk.ensures.walk
    c.walk_up-walk.ensures.stopped c.walk_up-walk.auto.stamps
    (sym c.walk_up-walk.ensures.end ∙ c.in_default.is)

pub returns-then-stamps-node : goal.returns-then-stamps-node
returns-then-stamps-node c =
    marked_to_known c.args.parents.now c.args.stamps.now c.walk_up-walk.new.stamps c.args.marks.now c.args.start c.walk_up-walk.result.count c.requires.marked c.walk_up-walk.ensures.walk
    c.walk_up-walk.ensures.stopped c.walk_up-walk.auto.stamps
    c.in-Some.node (sym c.walk_up-walk.ensures.end ∙ c.in-Some.is) c.if-stamps-node.true

pub returns : goal.returns
returns c =
    marked_round c.args.parents.now c.args.stamps.now c.walk_up-walk.new.stamps c.args.marks.now c.args.start c.walk_up-walk.result.count c.requires.marked c.walk_up-walk.ensures.walk
    c.walk_up-walk.ensures.stopped c.walk_up-walk.auto.stamps
    c.in-Some.node (sym c.walk_up-walk.ensures.end ∙ c.in-Some.is) c.if-stamps-node.false
    c.walk_up.new.stamps c.walk_up.result.count c.walk_up.auto.stamps c.walk_up.ensures.walk
    c.walk_up.ensures.stopped
