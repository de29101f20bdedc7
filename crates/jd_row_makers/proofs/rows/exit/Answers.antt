use Rattle.std.proofs.Common.{subst}
use Rattle.jd_row_makers.specs.Rows.{GivesMembers}
use Rattle.jd_row_makers.proofs.Joined.{exit_row}
use Rattle.jd_row_makers.proofs.rows.exit.Goals as goal

pub returns : goal.returns
returns c = λ k head ensured. subst (GivesMembers c.then_made.result) (exit_row k c.args.head.now _ head ensured) (c.then_made.ensures _ _ (c.then_members.ensures _ c.before_ensures.ensures) c.behind_ensures.ensures)
