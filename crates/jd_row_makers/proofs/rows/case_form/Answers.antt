use Rattle.std.proofs.Common.{sym}
use Rattle.jd_row_makers.proofs.Joined.{made, row_parts}
use Rattle.jd_row_makers.proofs.rows.case_form.Goals as goal

pub returns-in-Ok : goal.returns-in-Ok
returns-in-Ok c = λ p own k throwable head fields clauses. row_parts p own c.args.id.method.0 c.args.id.class.0 c.args.id.number k _ _ _ _ _ _ (made _ _ _ c.in-Ok.ensures.0 (c.entry.ensures p own k head fields clauses.required)) (made _ _ _ c.in-Ok.ensures.1 (c.exit.ensures k head clauses.ensured)) (made _ _ _ c.in-Ok.ensures.2 (c.exceptional.ensures p k throwable head clauses.signals clauses.signals_only)) clauses.assignable clauses.measure (sym head.diverges)
