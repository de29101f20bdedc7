use Rattle.std.proofs.Common.{map, subst, sym}
use Rattle.jd_bodies.specs.Codes.{steps_code}
use Rattle.jd_code_makers.specs.Makers.{GivesExpr}
use Rattle.jd_syntax.specs.CodeViews.{stmt_view}
use Rattle.jd_expression_code.specs.Assigning as plain
use Rattle.jd_expression_code.specs.Assigning.{assigned_view}
use Rattle.jd_expression_code.specs.declared.assignments.Assigned.{Assigned}
use Rattle.jd_expression_code.specs.declared.assignments.Assigned.TheVariants as parts
use Rattle.jd_expression_code.proofs.assignments.counted.Goals as goal

pub returns-in-Field-clause-value : goal.returns-in-Field-clause-value
returns-in-Field-clause-value c = λ q h.
    subst (λ (a : Assigned). GivesExpr c.read_counted.result (steps_code (plain.counted c.args.operation (record { stmts = map stmt_view c.args.b.stmts.items; assigned = assigned_view a }) q)).1) (sym c.in-Field.is)
    (let r = plain.reading (record { stmts = map stmt_view c.args.b.stmts.items; assigned = assigned_view (parts.Field c.in-Field.o c.in-Field.f c.in-Field.t) }) q in c.read_counted.ensures r.0 r.1 (c.read-r.ensures.reading q h))

pub returns-in-Element-clause-value : goal.returns-in-Element-clause-value
returns-in-Element-clause-value c = λ q h.
    subst (λ (a : Assigned). GivesExpr c.read_counted-in-Element.result (steps_code (plain.counted c.args.operation (record { stmts = map stmt_view c.args.b.stmts.items; assigned = assigned_view a }) q)).1) (sym c.in-Element.is)
    (let r = plain.reading (record { stmts = map stmt_view c.args.b.stmts.items; assigned = assigned_view (parts.Element c.in-Element.o c.in-Element.j) }) q in c.read_counted-in-Element.ensures r.0 r.1 (c.read-r-in-Element.ensures.reading q h))
