use Rattle.std.proofs.Common.{ap, map}
use Rattle.jd_term.specs.Formulas.{formula_view}
use Rattle.jd_row_makers.proofs.Joined.{two_made}
use Rattle.jd_row_makers.proofs.ends.before_signals.Goals as goal

pub returns : goal.returns
returns c = two_made _ _ _ _ _ (ap (map formula_view) c.new-members.ensures.items) (c.in_ok-add.ensures _ c.is_thrown.ensures) (c.in_ok-add-2.ensures _ (c.created.ensures _ _ c.heap.ensures c.thrown.ensures))
