use Rattle.std.proofs.Common.{subst}
use Rattle.jd_row_makers.specs.Rows.{GivesMembers}
use Rattle.jd_row_makers.proofs.Joined.{entry_row}
use Rattle.jd_row_makers.proofs.rows.entry.Goals as goal

pub returns : goal.returns
returns c = λ p own k head fields required. subst (GivesMembers c.then_made.result) (entry_row p own c.args.class.0 k c.args.head.now _ _ _ c.deref.ensures.value head fields required) (c.then_made.ensures _ _ (c.then_members.ensures _ c.before_requires.ensures) c.behind_requires.ensures)
