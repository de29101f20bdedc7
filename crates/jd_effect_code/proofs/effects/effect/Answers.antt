use Rattle.std.proofs.Common.{subst, Some, map, refl, sym, ap, ◌∙◌}
use Rattle.jd_bodies.specs.Bodies as plain
use Rattle.jd_bodies.specs.Codes as codes
use Rattle.jd_bodies.specs.Expressions.{class_before}
use Rattle.jd_bodies.specs.StaticTypes.{static_type}
use Rattle.jd_code_makers.specs.Held.{Holds}
use Rattle.jd_code_makers.specs.Makers.{GivesStmts}
use Rattle.jd_expression_code.proofs.Views.{assign_is, call_is, postfix_is, prefix_is}
use Rattle.jd_syntax.specs.JavaTrees.{java_exprs, java_view}
use Rattle.jd_syntax.specs.JavaTypes.{identifier_view}
use Rattle.jd_syntax.specs.declared.java.Expr.{Expr}
use Rattle.jd_effect_code.proofs.Told.{call_told, told_of}
use Rattle.jd_effect_code.proofs.effects.effect.Goals as goal

pub returns-in-Assign-clause-progress : goal.returns-in-Assign-clause-progress
returns-in-Assign-clause-progress g c = λ q h. told_of (g.D.Declares.declarations c.args.m.now.declared.now) c.args.m.now.place (g.S.InScope.scope c.args.scope.now).locals (λ r. Holds c.assign.new.p r.0) (java_view c.args.e.now) _ q (assign_is c.args.e.now c.deref.result.now c.deref-in-Assign.result.now c.in-Assign.operator c.in-Assign.a c.in-Assign.v c.in-Assign.is c.deref.ensures c.deref-in-Assign.ensures) (c.assign.ensures.progress q h)

pub returns-in-Assign-clause-stmts : goal.returns-in-Assign-clause-stmts
returns-in-Assign-clause-stmts g c = λ q h. told_of (g.D.Declares.declarations c.args.m.now.declared.now) c.args.m.now.place (g.S.InScope.scope c.args.scope.now).locals (λ r. GivesStmts c.assign.result r.1) (java_view c.args.e.now) _ q (assign_is c.args.e.now c.deref.result.now c.deref-in-Assign.result.now c.in-Assign.operator c.in-Assign.a c.in-Assign.v c.in-Assign.is c.deref.ensures c.deref-in-Assign.ensures) (c.assign.ensures.stmts q h)

pub returns-in-Prefix-clause-progress : goal.returns-in-Prefix-clause-progress
returns-in-Prefix-clause-progress g c = λ q h. told_of (g.D.Declares.declarations c.args.m.now.declared.now) c.args.m.now.place (g.S.InScope.scope c.args.scope.now).locals (λ r. Holds c.prefix.new.p r.0) (java_view c.args.e.now) _ q (prefix_is c.args.e.now c.deref-in-Prefix.result.now c.in-Prefix.operator c.in-Prefix.operator c.in-Prefix.a c.in-Prefix.is refl c.deref-in-Prefix.ensures) (c.prefix.ensures.progress q h)

pub returns-in-Prefix-clause-stmts : goal.returns-in-Prefix-clause-stmts
returns-in-Prefix-clause-stmts g c = λ q h. told_of (g.D.Declares.declarations c.args.m.now.declared.now) c.args.m.now.place (g.S.InScope.scope c.args.scope.now).locals (λ r. GivesStmts c.prefix.result r.1) (java_view c.args.e.now) _ q (prefix_is c.args.e.now c.deref-in-Prefix.result.now c.in-Prefix.operator c.in-Prefix.operator c.in-Prefix.a c.in-Prefix.is refl c.deref-in-Prefix.ensures) (c.prefix.ensures.stmts q h)

pub returns-in-Postfix-clause-progress : goal.returns-in-Postfix-clause-progress
returns-in-Postfix-clause-progress g c = λ q h.
    told_of (g.D.Declares.declarations c.args.m.now.declared.now) c.args.m.now.place (g.S.InScope.scope c.args.scope.now).locals (λ r. Holds c.count.new.p r.0) (java_view c.args.e.now) _ q (postfix_is c.args.e.now c.deref-in-Postfix.result.now c.in-Postfix.c c.in-Postfix.a c.in-Postfix.is c.deref-in-Postfix.ensures)
    (subst (λ o. Holds c.count.new.p (plain.change_lines o (codes.target_of (g.D.Declares.declarations c.args.m.now.declared.now) c.args.m.now.place (g.S.InScope.scope c.args.scope.now).locals (java_view c.deref-in-Postfix.result.now)) codes.one q).0) c.count_operation.ensures (c.count.ensures.progress q h))

pub returns-in-Postfix-clause-stmts : goal.returns-in-Postfix-clause-stmts
returns-in-Postfix-clause-stmts g c = λ q h.
    told_of (g.D.Declares.declarations c.args.m.now.declared.now) c.args.m.now.place (g.S.InScope.scope c.args.scope.now).locals (λ r. GivesStmts c.count.result r.1) (java_view c.args.e.now) _ q (postfix_is c.args.e.now c.deref-in-Postfix.result.now c.in-Postfix.c c.in-Postfix.a c.in-Postfix.is c.deref-in-Postfix.ensures)
    (subst (λ o. GivesStmts c.count.result (plain.change_lines o (codes.target_of (g.D.Declares.declarations c.args.m.now.declared.now) c.args.m.now.place (g.S.InScope.scope c.args.scope.now).locals (java_view c.deref-in-Postfix.result.now)) codes.one q).1) c.count_operation.ensures (c.count.ensures.stmts q h))

pub returns-in-Some-clause-progress : goal.returns-in-Some-clause-progress
returns-in-Some-clause-progress g c = λ q h.
    call_told (g.D.Declares.declarations c.args.m.now.declared.now) c.args.m.now.place (g.S.InScope.scope c.args.scope.now).locals (λ r. Holds c.call.new.p r.0) (java_view c.args.e.now) (java_view c.deref-in-Some.result.now) (java_exprs (map java_view c.deref-in-Some-2.result.now)) c.args.e.now.at (identifier_view c.in-MethodCall.name) c.deref-in-MethodCall-3.result.now c.class_before-class.result c.static_type-t.result c.static_on.result (Some c.in-Some.method) q
    (call_is c.args.e.now c.deref-in-Some.result.now c.in-MethodCall.name c.deref-in-Some-2.result.now c.in-MethodCall.o c.in-MethodCall.es c.in-MethodCall.is c.deref-in-Some.ensures c.deref-in-Some-2.ensures.value) c.deref-in-MethodCall-3.ensures.value
    (c.class_before-class.ensures ∙ ap (λ (y : Expr). class_before (g.D.Declares.declarations c.args.m.now.declared.now) c.args.m.now.place (g.S.InScope.scope c.args.scope.now).locals (java_view y)) (c.deref-in-MethodCall.ensures ∙ sym c.deref-in-Some.ensures))
    (c.static_type-t.ensures ∙ ap (λ (y : Expr). static_type (g.D.Declares.declarations c.args.m.now.declared.now) c.args.m.now.place (g.S.InScope.scope c.args.scope.now).locals (java_view y)) (c.deref-in-MethodCall-2.ensures ∙ sym c.deref-in-Some.ensures)) c.static_on.ensures c.in-Some.is
    (c.call.ensures.progress (java_view c.args.e.now) q h)

pub returns-in-Some-clause-stmts : goal.returns-in-Some-clause-stmts
returns-in-Some-clause-stmts g c = λ q h.
    call_told (g.D.Declares.declarations c.args.m.now.declared.now) c.args.m.now.place (g.S.InScope.scope c.args.scope.now).locals (λ r. GivesStmts c.call.result r.1) (java_view c.args.e.now) (java_view c.deref-in-Some.result.now) (java_exprs (map java_view c.deref-in-Some-2.result.now)) c.args.e.now.at (identifier_view c.in-MethodCall.name) c.deref-in-MethodCall-3.result.now c.class_before-class.result c.static_type-t.result c.static_on.result (Some c.in-Some.method) q
    (call_is c.args.e.now c.deref-in-Some.result.now c.in-MethodCall.name c.deref-in-Some-2.result.now c.in-MethodCall.o c.in-MethodCall.es c.in-MethodCall.is c.deref-in-Some.ensures c.deref-in-Some-2.ensures.value) c.deref-in-MethodCall-3.ensures.value
    (c.class_before-class.ensures ∙ ap (λ (y : Expr). class_before (g.D.Declares.declarations c.args.m.now.declared.now) c.args.m.now.place (g.S.InScope.scope c.args.scope.now).locals (java_view y)) (c.deref-in-MethodCall.ensures ∙ sym c.deref-in-Some.ensures))
    (c.static_type-t.ensures ∙ ap (λ (y : Expr). static_type (g.D.Declares.declarations c.args.m.now.declared.now) c.args.m.now.place (g.S.InScope.scope c.args.scope.now).locals (java_view y)) (c.deref-in-MethodCall-2.ensures ∙ sym c.deref-in-Some.ensures)) c.static_on.ensures c.in-Some.is
    (c.call.ensures.stmts (java_view c.args.e.now) q h)
