use Rattle.std.proofs.Common.{Some, ap, ◌∙◌}
use Rattle.jd_tparse.proofs.SortLists.{no_sort_there, sort_there}
use Rattle.jd_tparse.proofs.sorts.sort_at.Goals as goal

pub returns-then-number-types : goal.returns-then-number-types
returns-then-number-types c =
    ap Some c.sort_of.ensures ∙ sort_there c.args.types.now c.args.number c.index-types-number.result c.if-number-types.true c.index-types-number.is

pub returns-else-number-types : goal.returns-else-number-types
returns-else-number-types c = no_sort_there c.args.types.now c.args.number c.if-number-types.false
