use Rattle.std.proofs.Common.{subst}
use Rattle.jd_row_makers.specs.Rows.{GivesMembers}
use Rattle.jd_row_makers.proofs.Joined.{exceptional_row}
use Rattle.jd_row_makers.proofs.rows.exceptional.Goals as goal

pub returns : goal.returns
returns c = λ p k throwable head signals only. subst (GivesMembers c.then_made.result) (exceptional_row p k c.args.throwable.0 c.args.head.now _ _ throwable head signals only) (c.then_made.ensures _ _ (c.then_members-2.ensures _ (c.then_members.ensures _ c.before_signals.ensures)) c.behind_signals.ensures)
