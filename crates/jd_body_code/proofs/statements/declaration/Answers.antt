use Rattle.jd_syntax.specs.JavaTrees.{java_stmt_view}
use Rattle.jd_bodies.specs.Bodies.{Scoped, lines}
use Rattle.jd_code_makers.specs.Makers.{GivesStmts}
use Rattle.jd_statement_parts.specs.Standing.{Stands}
use Rattle.jd_body_code.proofs.Told.{scoped_told}
use Rattle.jd_body_code.proofs.Views.{local_is}
use Rattle.jd_body_code.proofs.statements.declaration.Goals as goal

pub returns-in-Local-clause-stands : goal.returns-in-Local-clause-stands
returns-in-Local-clause-stands g c = λ labels x q ls h.
    scoped_told (g.D.Declares.declarations c.args.m.now.declared.now) c.args.m.now.place (λ (r : Scoped). Stands c.declared.new.p (g.S.InScope.scope c.declared.new.scope).locals r.lines.0 r.locals) (java_stmt_view c.args.s.now) _ labels x ls q (local_is c.args.s.now c.deref.result.now c.in-Local.w c.in-Local.xs c.in-Local.is c.deref.ensures.value) (c.declared.ensures.stands q ls h)

pub returns-in-Local-clause-stmts : goal.returns-in-Local-clause-stmts
returns-in-Local-clause-stmts g c = λ labels x q ls h.
    scoped_told (g.D.Declares.declarations c.args.m.now.declared.now) c.args.m.now.place (λ (r : Scoped). GivesStmts c.declared.result r.lines.1) (java_stmt_view c.args.s.now) _ labels x ls q (local_is c.args.s.now c.deref.result.now c.in-Local.w c.in-Local.xs c.in-Local.is c.deref.ensures.value) (c.declared.ensures.stmts q ls h)

pub returns-in_default-clause-stands : goal.returns-in_default-clause-stands
returns-in_default-clause-stands g c = λ labels x q ls h.
    let r = lines (g.D.Declares.declarations c.args.m.now.declared.now) c.args.m.now.place (java_stmt_view c.args.s.now) labels x ls q in
    c.failed.ensures.stands (g.S.InScope.scope c.args.scope.now).locals r.lines.0 r.locals

pub returns-in_default-clause-stmts : goal.returns-in_default-clause-stmts
returns-in_default-clause-stmts g c = λ labels x q ls h. c.failed.ensures.stmts (lines (g.D.Declares.declarations c.args.m.now.declared.now) c.args.m.now.place (java_stmt_view c.args.s.now) labels x ls q).lines.1
