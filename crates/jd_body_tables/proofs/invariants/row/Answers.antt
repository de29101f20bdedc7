use Rattle.jd_body_tables.proofs.InvariantRows.{told_on}
use Rattle.jd_body_tables.proofs.invariants.row.Goals as goal

pub returns-in_err-class-clause-why : goal.returns-in_err-class-clause-why
returns-in_err-class-clause-why g c = λ p fields. told_on _ c.from_residual.result _ c.from_residual.ensures.1 (c.in_err-class.ensures.why c.args.w.now.limit _)
