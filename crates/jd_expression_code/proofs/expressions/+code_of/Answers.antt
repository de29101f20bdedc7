use Rattle.std.proofs.Common.{option_map, subst, [], ap, pos, refl, sym, ◌∙◌, map}
use Rattle.jd_bodies.specs.Codes as plain
use Rattle.jd_bodies.specs.Codes.{Made}
use Rattle.jd_bodies.specs.Expressions.{class_before}
use Rattle.jd_bodies.specs.StaticTypes.{static_type}
use Rattle.jd_bodies.specs.declared.value.ValueType.{ValueType}
use Rattle.jd_bodies.specs.Variables.{Progress, temporary}
use Rattle.jd_bodies.specs.declared.value.ValueType.TheVariants as types
use Rattle.jd_code_makers.specs.Held.{Holds}
use Rattle.jd_code_makers.specs.Makers.{GivesExpr}
use Rattle.jd_expression_code.specs.Assigning.{PlainBegun, begun, begun_view, reading}
use Rattle.jd_syntax.specs.Codes as code
use Rattle.jd_syntax.specs.JavaTrees as java
use Rattle.jd_syntax.specs.JavaTrees.{java_exprs, java_view}
use Rattle.jd_syntax.specs.JavaTypes.{identifier_view, written_view}
use Rattle.jd_expression_code.specs.declared.members.Called.TheVariants as calls
use Rattle.jd_syntax.specs.declared.java.Expr.{Expr}
use Rattle.jd_syntax.specs.declared.java.PrefixOperator.TheVariants as prefixes
use Rattle.jd_expression_code.proofs.Lists.{arguments_from_nothing, from_nothing}
use Rattle.jd_expression_code.proofs.Told.{called_told, told_of, assign_change, assign_none, assign_set, conditional_told, count_none, count_some, index_told, postfix_none, postfix_some}
use Rattle.jd_expression_code.proofs.Views.{array_is, call_is, cast_is, infix_is, instance_is, assign_is, conditional_is, index_is, postfix_is, prefix_is}
use Rattle.jd_expression_code.proofs.expressions.+code_of.Goals as goal

pub arguments_of-loop-e-init : goal.arguments_of-loop-e-init
arguments_of-loop-e-init g t c = λ q h. ([], [], q, h, c.no_stmts-sets.ensures, c.no_exprs-values.ensures, arguments_from_nothing (g.D.Declares.declarations c.args.m.now.declared.now) c.args.m.now.place (g.S.InScope.scope c.args.scope.now).locals (java_exprs (map java_view c.args.es.now)) q)

pub codes_of-loop-e-init : goal.codes_of-loop-e-init
codes_of-loop-e-init g t c = λ q h. ([], q, h, c.no_exprs-made.ensures, from_nothing (g.D.Declares.declarations c.args.m.now.declared.now) c.args.m.now.place (g.S.InScope.scope c.args.scope.now).locals (java_exprs (map java_view c.args.es.now)) q)

pub code_of-returns-in-Ok-None-clause-progress : goal.code_of-returns-in-Ok-None-clause-progress
code_of-returns-in-Ok-None-clause-progress g t c = λ q h.
    count_none (g.D.Declares.declarations c.args.m.now.declared.now) c.args.m.now.place (g.S.InScope.scope c.args.scope.now).locals (λ m. Holds c.begin.new.p m.0) (java_view c.args.e.now) (java_view c.deref-in-Count.result.now) c.args.e.now.at c.in-Count.c q (prefix_is c.args.e.now c.deref-in-Count.result.now c.in-Prefix.operator (prefixes.Count c.in-Count.c) c.in-Prefix.o c.in-Prefix.is c.in-Count.is c.deref-in-Count.ensures) (sym (ap (option_map begun_view) c.in-Ok-None.field-0-is) ∙ c.in-Ok-None.ensures.begun q h) (c.begin.ensures.progress q h)

pub code_of-returns-in-Ok-None-clause-value : goal.code_of-returns-in-Ok-None-clause-value
code_of-returns-in-Ok-None-clause-value g t c = λ q h.
    count_none (g.D.Declares.declarations c.args.m.now.declared.now) c.args.m.now.place (g.S.InScope.scope c.args.scope.now).locals (λ m. GivesExpr c.no_steps.result m.1) (java_view c.args.e.now) (java_view c.deref-in-Count.result.now) c.args.e.now.at c.in-Count.c q (prefix_is c.args.e.now c.deref-in-Count.result.now c.in-Prefix.operator (prefixes.Count c.in-Count.c) c.in-Prefix.o c.in-Prefix.is c.in-Count.is c.deref-in-Count.ensures) (sym (ap (option_map begun_view) c.in-Ok-None.field-0-is) ∙ c.in-Ok-None.ensures.begun q h) (c.no_steps.ensures (begun (plain.target_of (g.D.Declares.declarations c.args.m.now.declared.now) c.args.m.now.place (g.S.InScope.scope c.args.scope.now).locals (java_view c.deref-in-Count.result.now)) q).0)

pub code_of-returns-in-Ok-Some-clause-progress : goal.code_of-returns-in-Ok-Some-clause-progress
code_of-returns-in-Ok-Some-clause-progress g t c = λ q h.
    let prog = c.begin.ensures.progress q h in
    count_some (g.D.Declares.declarations c.args.m.now.declared.now) c.args.m.now.place (g.S.InScope.scope c.args.scope.now).locals (λ m. Holds c.changed.new.p m.0) (java_view c.args.e.now) (java_view c.deref-in-Count.result.now) c.args.e.now.at c.in-Count.c c.count_operation.result q (begun_view c.in-Ok-Some.b) (prefix_is c.args.e.now c.deref-in-Count.result.now c.in-Prefix.operator (prefixes.Count c.in-Count.c) c.in-Prefix.o c.in-Prefix.is c.in-Count.is c.deref-in-Count.ensures) c.count_operation.ensures (sym (ap (option_map begun_view) c.in-Ok-Some.field-0-is) ∙ c.in-Ok-Some.ensures.begun q h)
    (c.changed.ensures.progress (reading (begun_view c.in-Ok-Some.b) (begun (plain.target_of (g.D.Declares.declarations c.args.m.now.declared.now) c.args.m.now.place (g.S.InScope.scope c.args.scope.now).locals (java_view c.deref-in-Count.result.now)) q).0).1 (plain.one (reading (begun_view c.in-Ok-Some.b) (begun (plain.target_of (g.D.Declares.declarations c.args.m.now.declared.now) c.args.m.now.place (g.S.InScope.scope c.args.scope.now).locals (java_view c.deref-in-Count.result.now)) q).0).0) (c.read-r.ensures.progress (begun (plain.target_of (g.D.Declares.declarations c.args.m.now.declared.now) c.args.m.now.place (g.S.InScope.scope c.args.scope.now).locals (java_view c.deref-in-Count.result.now)) q).0 prog))

pub code_of-returns-in-Ok-Some-clause-value : goal.code_of-returns-in-Ok-Some-clause-value
code_of-returns-in-Ok-Some-clause-value g t c = λ q h.
    let prog = c.begin.ensures.progress q h in
    count_some (g.D.Declares.declarations c.args.m.now.declared.now) c.args.m.now.place (g.S.InScope.scope c.args.scope.now).locals (λ m. GivesExpr c.changed.result m.1) (java_view c.args.e.now) (java_view c.deref-in-Count.result.now) c.args.e.now.at c.in-Count.c c.count_operation.result q (begun_view c.in-Ok-Some.b) (prefix_is c.args.e.now c.deref-in-Count.result.now c.in-Prefix.operator (prefixes.Count c.in-Count.c) c.in-Prefix.o c.in-Prefix.is c.in-Count.is c.deref-in-Count.ensures) c.count_operation.ensures (sym (ap (option_map begun_view) c.in-Ok-Some.field-0-is) ∙ c.in-Ok-Some.ensures.begun q h)
    (c.changed.ensures.value (reading (begun_view c.in-Ok-Some.b) (begun (plain.target_of (g.D.Declares.declarations c.args.m.now.declared.now) c.args.m.now.place (g.S.InScope.scope c.args.scope.now).locals (java_view c.deref-in-Count.result.now)) q).0).1 (plain.one (reading (begun_view c.in-Ok-Some.b) (begun (plain.target_of (g.D.Declares.declarations c.args.m.now.declared.now) c.args.m.now.place (g.S.InScope.scope c.args.scope.now).locals (java_view c.deref-in-Count.result.now)) q).0).0) (c.read-r.ensures.progress (begun (plain.target_of (g.D.Declares.declarations c.args.m.now.declared.now) c.args.m.now.place (g.S.InScope.scope c.args.scope.now).locals (java_view c.deref-in-Count.result.now)) q).0 prog) (c.read-r.ensures.reading (begun (plain.target_of (g.D.Declares.declarations c.args.m.now.declared.now) c.args.m.now.place (g.S.InScope.scope c.args.scope.now).locals (java_view c.deref-in-Count.result.now)) q).0 prog) c.integer-in-Ok-Some.ensures)

pub code_of-returns-in-Ok-None-begin-clause-progress : goal.code_of-returns-in-Ok-None-begin-clause-progress
code_of-returns-in-Ok-None-begin-clause-progress g t c = λ q h.
    postfix_none (g.D.Declares.declarations c.args.m.now.declared.now) c.args.m.now.place (g.S.InScope.scope c.args.scope.now).locals (λ m. Holds c.begin-in-Postfix.new.p m.0) (java_view c.args.e.now) (java_view c.deref-in-Postfix.result.now) c.args.e.now.at c.in-Postfix.c q (postfix_is c.args.e.now c.deref-in-Postfix.result.now c.in-Postfix.c c.in-Postfix.o c.in-Postfix.is c.deref-in-Postfix.ensures) (sym (ap (option_map begun_view) c.in-Ok-None-begin.field-0-is) ∙ c.in-Ok-None-begin.ensures.begun q h) (c.begin-in-Postfix.ensures.progress q h)

pub code_of-returns-in-Ok-None-begin-clause-value : goal.code_of-returns-in-Ok-None-begin-clause-value
code_of-returns-in-Ok-None-begin-clause-value g t c = λ q h.
    postfix_none (g.D.Declares.declarations c.args.m.now.declared.now) c.args.m.now.place (g.S.InScope.scope c.args.scope.now).locals (λ m. GivesExpr c.no_steps-in-Ok-None-begin.result m.1) (java_view c.args.e.now) (java_view c.deref-in-Postfix.result.now) c.args.e.now.at c.in-Postfix.c q (postfix_is c.args.e.now c.deref-in-Postfix.result.now c.in-Postfix.c c.in-Postfix.o c.in-Postfix.is c.deref-in-Postfix.ensures) (sym (ap (option_map begun_view) c.in-Ok-None-begin.field-0-is) ∙ c.in-Ok-None-begin.ensures.begun q h) (c.no_steps-in-Ok-None-begin.ensures (begun (plain.target_of (g.D.Declares.declarations c.args.m.now.declared.now) c.args.m.now.place (g.S.InScope.scope c.args.scope.now).locals (java_view c.deref-in-Postfix.result.now)) q).0)

pub code_of-returns-in-Ok-Some-begin-clause-progress : goal.code_of-returns-in-Ok-Some-begin-clause-progress
code_of-returns-in-Ok-Some-begin-clause-progress g t c = λ q h.
    postfix_some (g.D.Declares.declarations c.args.m.now.declared.now) c.args.m.now.place (g.S.InScope.scope c.args.scope.now).locals (λ m. Holds c.counted.new.p m.0) (java_view c.args.e.now) (java_view c.deref-in-Postfix.result.now) c.args.e.now.at c.in-Postfix.c c.count_operation-in-Ok-Some-begin.result q (begun_view c.in-Ok-Some-begin.b) (postfix_is c.args.e.now c.deref-in-Postfix.result.now c.in-Postfix.c c.in-Postfix.o c.in-Postfix.is c.deref-in-Postfix.ensures) c.count_operation-in-Ok-Some-begin.ensures (sym (ap (option_map begun_view) c.in-Ok-Some-begin.field-0-is) ∙ c.in-Ok-Some-begin.ensures.begun q h)
    (c.counted.ensures.progress (begun (plain.target_of (g.D.Declares.declarations c.args.m.now.declared.now) c.args.m.now.place (g.S.InScope.scope c.args.scope.now).locals (java_view c.deref-in-Postfix.result.now)) q).0 (c.begin-in-Postfix.ensures.progress q h))

pub code_of-returns-in-Ok-Some-begin-clause-value : goal.code_of-returns-in-Ok-Some-begin-clause-value
code_of-returns-in-Ok-Some-begin-clause-value g t c = λ q h.
    postfix_some (g.D.Declares.declarations c.args.m.now.declared.now) c.args.m.now.place (g.S.InScope.scope c.args.scope.now).locals (λ m. GivesExpr c.counted.result m.1) (java_view c.args.e.now) (java_view c.deref-in-Postfix.result.now) c.args.e.now.at c.in-Postfix.c c.count_operation-in-Ok-Some-begin.result q (begun_view c.in-Ok-Some-begin.b) (postfix_is c.args.e.now c.deref-in-Postfix.result.now c.in-Postfix.c c.in-Postfix.o c.in-Postfix.is c.deref-in-Postfix.ensures) c.count_operation-in-Ok-Some-begin.ensures (sym (ap (option_map begun_view) c.in-Ok-Some-begin.field-0-is) ∙ c.in-Ok-Some-begin.ensures.begun q h)
    (c.counted.ensures.value (begun (plain.target_of (g.D.Declares.declarations c.args.m.now.declared.now) c.args.m.now.place (g.S.InScope.scope c.args.scope.now).locals (java_view c.deref-in-Postfix.result.now)) q).0 (c.begin-in-Postfix.ensures.progress q h))

pub code_of-returns-in-Ok-None-begin-2-clause-progress : goal.code_of-returns-in-Ok-None-begin-2-clause-progress
code_of-returns-in-Ok-None-begin-2-clause-progress g t c = λ q h.
    assign_none (g.D.Declares.declarations c.args.m.now.declared.now) c.args.m.now.place (g.S.InScope.scope c.args.scope.now).locals (λ m. Holds c.begin-in-Assign.new.p m.0) (java_view c.args.e.now) (java_view c.deref-in-Assign.result.now) (java_view c.in-Assign.v.value) c.args.e.now.at c.in-Assign.operator q (assign_is c.args.e.now c.deref-in-Assign.result.now c.in-Assign.v.value c.in-Assign.operator c.in-Assign.o c.in-Assign.v c.in-Assign.is c.deref-in-Assign.ensures refl) (sym (ap (option_map begun_view) c.in-Ok-None-begin-2.field-0-is) ∙ c.in-Ok-None-begin-2.ensures.begun q h) (c.begin-in-Assign.ensures.progress q h)

pub code_of-returns-in-Ok-None-begin-2-clause-value : goal.code_of-returns-in-Ok-None-begin-2-clause-value
code_of-returns-in-Ok-None-begin-2-clause-value g t c = λ q h.
    assign_none (g.D.Declares.declarations c.args.m.now.declared.now) c.args.m.now.place (g.S.InScope.scope c.args.scope.now).locals (λ m. GivesExpr c.no_steps-in-Ok-None-begin-2.result m.1) (java_view c.args.e.now) (java_view c.deref-in-Assign.result.now) (java_view c.in-Assign.v.value) c.args.e.now.at c.in-Assign.operator q (assign_is c.args.e.now c.deref-in-Assign.result.now c.in-Assign.v.value c.in-Assign.operator c.in-Assign.o c.in-Assign.v c.in-Assign.is c.deref-in-Assign.ensures refl) (sym (ap (option_map begun_view) c.in-Ok-None-begin-2.field-0-is) ∙ c.in-Ok-None-begin-2.ensures.begun q h) (c.no_steps-in-Ok-None-begin-2.ensures (begun (plain.target_of (g.D.Declares.declarations c.args.m.now.declared.now) c.args.m.now.place (g.S.InScope.scope c.args.scope.now).locals (java_view c.deref-in-Assign.result.now)) q).0)

pub code_of-returns-in-None-assignment_operation-clause-progress : goal.code_of-returns-in-None-assignment_operation-clause-progress
code_of-returns-in-None-assignment_operation-clause-progress g t c = λ q h.
    let prog = c.begin-in-Assign.ensures.progress q h in
    assign_set (g.D.Declares.declarations c.args.m.now.declared.now) c.args.m.now.place (g.S.InScope.scope c.args.scope.now).locals (λ m. Holds c.kept_written.new.p m.0) (java_view c.args.e.now) (java_view c.deref-in-Assign.result.now) (java_view c.deref-in-None-assignment_operation-2.result.now) c.args.e.now.at c.in-Assign.operator c.static_type-t-in-None-assignment_operation.result q (begun_view c.in-Ok-Some-begin-2.b) (assign_is c.args.e.now c.deref-in-Assign.result.now c.deref-in-None-assignment_operation-2.result.now c.in-Assign.operator c.in-Assign.o c.in-Assign.v c.in-Assign.is c.deref-in-Assign.ensures c.deref-in-None-assignment_operation-2.ensures)
    (sym c.in-None-assignment_operation.is ∙ c.assignment_operation.ensures) (c.static_type-t-in-None-assignment_operation.ensures ∙ ap (λ (y : Expr). static_type (g.D.Declares.declarations c.args.m.now.declared.now) c.args.m.now.place (g.S.InScope.scope c.args.scope.now).locals (java_view y)) (c.deref-in-None-assignment_operation.ensures ∙ sym c.deref-in-None-assignment_operation-2.ensures)) (sym (ap (option_map begun_view) c.in-Ok-Some-begin-2.field-0-is) ∙ c.in-Ok-Some-begin-2.ensures.begun q h)
    (c.kept_written.ensures.progress (plain.code_of (g.D.Declares.declarations c.args.m.now.declared.now) c.args.m.now.place (g.S.InScope.scope c.args.scope.now).locals (java_view c.deref-in-None-assignment_operation-2.result.now) (begun (plain.target_of (g.D.Declares.declarations c.args.m.now.declared.now) c.args.m.now.place (g.S.InScope.scope c.args.scope.now).locals (java_view c.deref-in-Assign.result.now)) q).0) (c.code_of-value.ensures.progress (begun (plain.target_of (g.D.Declares.declarations c.args.m.now.declared.now) c.args.m.now.place (g.S.InScope.scope c.args.scope.now).locals (java_view c.deref-in-Assign.result.now)) q).0 prog))

pub code_of-returns-in-None-assignment_operation-clause-value : goal.code_of-returns-in-None-assignment_operation-clause-value
code_of-returns-in-None-assignment_operation-clause-value g t c = λ q h.
    let prog = c.begin-in-Assign.ensures.progress q h in
    assign_set (g.D.Declares.declarations c.args.m.now.declared.now) c.args.m.now.place (g.S.InScope.scope c.args.scope.now).locals (λ m. GivesExpr c.kept_written.result m.1) (java_view c.args.e.now) (java_view c.deref-in-Assign.result.now) (java_view c.deref-in-None-assignment_operation-2.result.now) c.args.e.now.at c.in-Assign.operator c.static_type-t-in-None-assignment_operation.result q (begun_view c.in-Ok-Some-begin-2.b) (assign_is c.args.e.now c.deref-in-Assign.result.now c.deref-in-None-assignment_operation-2.result.now c.in-Assign.operator c.in-Assign.o c.in-Assign.v c.in-Assign.is c.deref-in-Assign.ensures c.deref-in-None-assignment_operation-2.ensures)
    (sym c.in-None-assignment_operation.is ∙ c.assignment_operation.ensures) (c.static_type-t-in-None-assignment_operation.ensures ∙ ap (λ (y : Expr). static_type (g.D.Declares.declarations c.args.m.now.declared.now) c.args.m.now.place (g.S.InScope.scope c.args.scope.now).locals (java_view y)) (c.deref-in-None-assignment_operation.ensures ∙ sym c.deref-in-None-assignment_operation-2.ensures)) (sym (ap (option_map begun_view) c.in-Ok-Some-begin-2.field-0-is) ∙ c.in-Ok-Some-begin-2.ensures.begun q h)
    (c.kept_written.ensures.value (plain.code_of (g.D.Declares.declarations c.args.m.now.declared.now) c.args.m.now.place (g.S.InScope.scope c.args.scope.now).locals (java_view c.deref-in-None-assignment_operation-2.result.now) (begun (plain.target_of (g.D.Declares.declarations c.args.m.now.declared.now) c.args.m.now.place (g.S.InScope.scope c.args.scope.now).locals (java_view c.deref-in-Assign.result.now)) q).0) (c.code_of-value.ensures.progress (begun (plain.target_of (g.D.Declares.declarations c.args.m.now.declared.now) c.args.m.now.place (g.S.InScope.scope c.args.scope.now).locals (java_view c.deref-in-Assign.result.now)) q).0 prog) (c.code_of-value.ensures.value (begun (plain.target_of (g.D.Declares.declarations c.args.m.now.declared.now) c.args.m.now.place (g.S.InScope.scope c.args.scope.now).locals (java_view c.deref-in-Assign.result.now)) q).0 prog))

pub code_of-returns-in-Some-assignment_operation-clause-progress : goal.code_of-returns-in-Some-assignment_operation-clause-progress
code_of-returns-in-Some-assignment_operation-clause-progress g t c = λ q h.
    let prog = c.begin-in-Assign.ensures.progress q h in
    let now = c.read-r-in-Some-assignment_operation.ensures.progress (begun (plain.target_of (g.D.Declares.declarations c.args.m.now.declared.now) c.args.m.now.place (g.S.InScope.scope c.args.scope.now).locals (java_view c.deref-in-Assign.result.now)) q).0 prog in
    assign_change (g.D.Declares.declarations c.args.m.now.declared.now) c.args.m.now.place (g.S.InScope.scope c.args.scope.now).locals (λ m. Holds c.changed-in-Some-assignment_operation.new.p m.0) (java_view c.args.e.now) (java_view c.deref-in-Assign.result.now) (java_view c.deref-in-Some-assignment_operation.result.now) c.args.e.now.at c.in-Assign.operator c.in-Some-assignment_operation.operation q (begun_view c.in-Ok-Some-begin-2.b) (assign_is c.args.e.now c.deref-in-Assign.result.now c.deref-in-Some-assignment_operation.result.now c.in-Assign.operator c.in-Assign.o c.in-Assign.v c.in-Assign.is c.deref-in-Assign.ensures c.deref-in-Some-assignment_operation.ensures)
    (sym c.in-Some-assignment_operation.is ∙ c.assignment_operation.ensures) (sym (ap (option_map begun_view) c.in-Ok-Some-begin-2.field-0-is) ∙ c.in-Ok-Some-begin-2.ensures.begun q h)
    (c.changed-in-Some-assignment_operation.ensures.progress (reading (begun_view c.in-Ok-Some-begin-2.b) (begun (plain.target_of (g.D.Declares.declarations c.args.m.now.declared.now) c.args.m.now.place (g.S.InScope.scope c.args.scope.now).locals (java_view c.deref-in-Assign.result.now)) q).0).1 (plain.code_of (g.D.Declares.declarations c.args.m.now.declared.now) c.args.m.now.place (g.S.InScope.scope c.args.scope.now).locals (java_view c.deref-in-Some-assignment_operation.result.now) (reading (begun_view c.in-Ok-Some-begin-2.b) (begun (plain.target_of (g.D.Declares.declarations c.args.m.now.declared.now) c.args.m.now.place (g.S.InScope.scope c.args.scope.now).locals (java_view c.deref-in-Assign.result.now)) q).0).0) (c.code_of-value-in-Some-assignment_operation.ensures.progress (reading (begun_view c.in-Ok-Some-begin-2.b) (begun (plain.target_of (g.D.Declares.declarations c.args.m.now.declared.now) c.args.m.now.place (g.S.InScope.scope c.args.scope.now).locals (java_view c.deref-in-Assign.result.now)) q).0).0 now))

pub code_of-returns-in-Some-assignment_operation-clause-value : goal.code_of-returns-in-Some-assignment_operation-clause-value
code_of-returns-in-Some-assignment_operation-clause-value g t c = λ q h.
    let prog = c.begin-in-Assign.ensures.progress q h in
    let now = c.read-r-in-Some-assignment_operation.ensures.progress (begun (plain.target_of (g.D.Declares.declarations c.args.m.now.declared.now) c.args.m.now.place (g.S.InScope.scope c.args.scope.now).locals (java_view c.deref-in-Assign.result.now)) q).0 prog in
    assign_change (g.D.Declares.declarations c.args.m.now.declared.now) c.args.m.now.place (g.S.InScope.scope c.args.scope.now).locals (λ m. GivesExpr c.changed-in-Some-assignment_operation.result m.1) (java_view c.args.e.now) (java_view c.deref-in-Assign.result.now) (java_view c.deref-in-Some-assignment_operation.result.now) c.args.e.now.at c.in-Assign.operator c.in-Some-assignment_operation.operation q (begun_view c.in-Ok-Some-begin-2.b) (assign_is c.args.e.now c.deref-in-Assign.result.now c.deref-in-Some-assignment_operation.result.now c.in-Assign.operator c.in-Assign.o c.in-Assign.v c.in-Assign.is c.deref-in-Assign.ensures c.deref-in-Some-assignment_operation.ensures)
    (sym c.in-Some-assignment_operation.is ∙ c.assignment_operation.ensures) (sym (ap (option_map begun_view) c.in-Ok-Some-begin-2.field-0-is) ∙ c.in-Ok-Some-begin-2.ensures.begun q h)
    (c.changed-in-Some-assignment_operation.ensures.value (reading (begun_view c.in-Ok-Some-begin-2.b) (begun (plain.target_of (g.D.Declares.declarations c.args.m.now.declared.now) c.args.m.now.place (g.S.InScope.scope c.args.scope.now).locals (java_view c.deref-in-Assign.result.now)) q).0).1 (plain.code_of (g.D.Declares.declarations c.args.m.now.declared.now) c.args.m.now.place (g.S.InScope.scope c.args.scope.now).locals (java_view c.deref-in-Some-assignment_operation.result.now) (reading (begun_view c.in-Ok-Some-begin-2.b) (begun (plain.target_of (g.D.Declares.declarations c.args.m.now.declared.now) c.args.m.now.place (g.S.InScope.scope c.args.scope.now).locals (java_view c.deref-in-Assign.result.now)) q).0).0) (c.code_of-value-in-Some-assignment_operation.ensures.progress (reading (begun_view c.in-Ok-Some-begin-2.b) (begun (plain.target_of (g.D.Declares.declarations c.args.m.now.declared.now) c.args.m.now.place (g.S.InScope.scope c.args.scope.now).locals (java_view c.deref-in-Assign.result.now)) q).0).0 now) (c.read-r-in-Some-assignment_operation.ensures.reading (begun (plain.target_of (g.D.Declares.declarations c.args.m.now.declared.now) c.args.m.now.place (g.S.InScope.scope c.args.scope.now).locals (java_view c.deref-in-Assign.result.now)) q).0 prog) (c.code_of-value-in-Some-assignment_operation.ensures.value (reading (begun_view c.in-Ok-Some-begin-2.b) (begun (plain.target_of (g.D.Declares.declarations c.args.m.now.declared.now) c.args.m.now.place (g.S.InScope.scope c.args.scope.now).locals (java_view c.deref-in-Assign.result.now)) q).0).0 now))

pub code_of-returns-in-Conditional-clause-value : goal.code_of-returns-in-Conditional-clause-value
code_of-returns-in-Conditional-clause-value g t c = λ q h.
    let one = c.code_of-condition.ensures.progress q h in
    let two = c.code_of-first-in-Conditional.ensures.progress (plain.code_of (g.D.Declares.declarations c.args.m.now.declared.now) c.args.m.now.place (g.S.InScope.scope c.args.scope.now).locals (java_view c.deref-in-Conditional.result.now) q).0 one in
    conditional_told (g.D.Declares.declarations c.args.m.now.declared.now) c.args.m.now.place (g.S.InScope.scope c.args.scope.now).locals (λ m. GivesExpr c.conditional.result m.1) (java_view c.args.e.now) (java_view c.deref-in-Conditional.result.now) (java_view c.deref-in-Conditional-2.result.now) (java_view c.deref-in-Conditional-3.result.now) c.args.e.now.at q
    (conditional_is c.args.e.now c.deref-in-Conditional.result.now c.deref-in-Conditional-2.result.now c.deref-in-Conditional-3.result.now c.in-Conditional.c c.in-Conditional.a c.in-Conditional.b c.in-Conditional.is c.deref-in-Conditional.ensures c.deref-in-Conditional-2.ensures c.deref-in-Conditional-3.ensures)
    (c.conditional.ensures _ _ _ (c.code_of-condition.ensures.value q h) (c.code_of-first-in-Conditional.ensures.value (plain.code_of (g.D.Declares.declarations c.args.m.now.declared.now) c.args.m.now.place (g.S.InScope.scope c.args.scope.now).locals (java_view c.deref-in-Conditional.result.now) q).0 one) (c.code_of-second.ensures.value _ two))

pub begin-returns-in-Index-clause-progress : goal.begin-returns-in-Index-clause-progress
begin-returns-in-Index-clause-progress g t c = λ q h.
    index_told (g.D.Declares.declarations c.args.m.now.declared.now) c.args.m.now.place (g.S.InScope.scope c.args.scope.now).locals (λ b. Holds c.element_begun.new.p b.0) (java_view c.args.e.now) (java_view c.deref-in-Index.result.now) (java_view c.deref-in-Index-2.result.now) c.args.e.now.at q
    (index_is c.args.e.now c.deref-in-Index.result.now c.deref-in-Index-2.result.now c.in-Index.a c.in-Index.i c.in-Index.is c.deref-in-Index.ensures c.deref-in-Index-2.ensures)
    (c.element_begun.ensures.progress (plain.code_of (g.D.Declares.declarations c.args.m.now.declared.now) c.args.m.now.place (g.S.InScope.scope c.args.scope.now).locals (java_view c.deref-in-Index.result.now) q).1 (temporary types.IntArray (plain.code_of (g.D.Declares.declarations c.args.m.now.declared.now) c.args.m.now.place (g.S.InScope.scope c.args.scope.now).locals (java_view c.deref-in-Index.result.now) q).0).1 (plain.code_of (g.D.Declares.declarations c.args.m.now.declared.now) c.args.m.now.place (g.S.InScope.scope c.args.scope.now).locals (java_view c.deref-in-Index-2.result.now) (temporary types.IntArray (plain.code_of (g.D.Declares.declarations c.args.m.now.declared.now) c.args.m.now.place (g.S.InScope.scope c.args.scope.now).locals (java_view c.deref-in-Index.result.now) q).0).0) (c.code_of-index.ensures.progress (temporary types.IntArray (plain.code_of (g.D.Declares.declarations c.args.m.now.declared.now) c.args.m.now.place (g.S.InScope.scope c.args.scope.now).locals (java_view c.deref-in-Index.result.now) q).0).0 (c.temporary-kept.ensures.progress (plain.code_of (g.D.Declares.declarations c.args.m.now.declared.now) c.args.m.now.place (g.S.InScope.scope c.args.scope.now).locals (java_view c.deref-in-Index.result.now) q).0 (c.code_of-array.ensures.progress q h))))

pub code_of-returns-in-Cast-clause-progress : goal.code_of-returns-in-Cast-clause-progress
code_of-returns-in-Cast-clause-progress g t c = λ q h.
    told_of (g.D.Declares.declarations c.args.m.now.declared.now) c.args.m.now.place (g.S.InScope.scope c.args.scope.now).locals (λ m. Holds c.code_of-in-Cast.new.p m.0) (java_view c.args.e.now) (java.Cast c.args.e.now.at (written_view c.in-Cast.w) (java_view c.deref-in-Cast.result.now)) q (cast_is c.args.e.now c.deref-in-Cast.result.now c.in-Cast.w c.in-Cast.o c.in-Cast.is c.deref-in-Cast.ensures)
    (c.code_of-in-Cast.ensures.progress q h)

pub code_of-returns-in-Cast-clause-value : goal.code_of-returns-in-Cast-clause-value
code_of-returns-in-Cast-clause-value g t c = λ q h.
    told_of (g.D.Declares.declarations c.args.m.now.declared.now) c.args.m.now.place (g.S.InScope.scope c.args.scope.now).locals (λ m. GivesExpr c.cast_to.result m.1) (java_view c.args.e.now) (java.Cast c.args.e.now.at (written_view c.in-Cast.w) (java_view c.deref-in-Cast.result.now)) q (cast_is c.args.e.now c.deref-in-Cast.result.now c.in-Cast.w c.in-Cast.o c.in-Cast.is c.deref-in-Cast.ensures)
    (subst (λ (u : ValueType). GivesExpr c.cast_to.result (plain.cast_code u (plain.code_of (g.D.Declares.declarations c.args.m.now.declared.now) c.args.m.now.place (g.S.InScope.scope c.args.scope.now).locals (java_view c.deref-in-Cast.result.now) q).1)) c.type_by-t.ensures (c.cast_to.ensures (plain.code_of (g.D.Declares.declarations c.args.m.now.declared.now) c.args.m.now.place (g.S.InScope.scope c.args.scope.now).locals (java_view c.deref-in-Cast.result.now) q).1 (c.code_of-in-Cast.ensures.value q h)))

pub code_of-returns-in-InstanceOf-clause-progress : goal.code_of-returns-in-InstanceOf-clause-progress
code_of-returns-in-InstanceOf-clause-progress g t c = λ q h.
    told_of (g.D.Declares.declarations c.args.m.now.declared.now) c.args.m.now.place (g.S.InScope.scope c.args.scope.now).locals (λ m. Holds c.code_of-in-InstanceOf.new.p m.0) (java_view c.args.e.now) (java.InstanceOf c.args.e.now.at (java_view c.deref-in-InstanceOf.result.now) (written_view c.in-InstanceOf.w)) q (instance_is c.args.e.now c.deref-in-InstanceOf.result.now c.in-InstanceOf.w c.in-InstanceOf.o c.in-InstanceOf.is c.deref-in-InstanceOf.ensures)
    (c.code_of-in-InstanceOf.ensures.progress q h)

pub code_of-returns-in-InstanceOf-clause-value : goal.code_of-returns-in-InstanceOf-clause-value
code_of-returns-in-InstanceOf-clause-value g t c = λ q h.
    told_of (g.D.Declares.declarations c.args.m.now.declared.now) c.args.m.now.place (g.S.InScope.scope c.args.scope.now).locals (λ m. GivesExpr c.is_instance.result m.1) (java_view c.args.e.now) (java.InstanceOf c.args.e.now.at (java_view c.deref-in-InstanceOf.result.now) (written_view c.in-InstanceOf.w)) q (instance_is c.args.e.now c.deref-in-InstanceOf.result.now c.in-InstanceOf.w c.in-InstanceOf.o c.in-InstanceOf.is c.deref-in-InstanceOf.ensures)
    (subst (λ (u : ValueType). GivesExpr c.is_instance.result (plain.instance_code u (plain.code_of (g.D.Declares.declarations c.args.m.now.declared.now) c.args.m.now.place (g.S.InScope.scope c.args.scope.now).locals (java_view c.deref-in-InstanceOf.result.now) q).1)) c.type_by-t-in-InstanceOf.ensures (c.is_instance.ensures (plain.code_of (g.D.Declares.declarations c.args.m.now.declared.now) c.args.m.now.place (g.S.InScope.scope c.args.scope.now).locals (java_view c.deref-in-InstanceOf.result.now) q).1 (c.code_of-in-InstanceOf.ensures.value q h)))

pub code_of-returns-in-Infix-clause-progress : goal.code_of-returns-in-Infix-clause-progress
code_of-returns-in-Infix-clause-progress g t c = λ q h.
    told_of (g.D.Declares.declarations c.args.m.now.declared.now) c.args.m.now.place (g.S.InScope.scope c.args.scope.now).locals (λ m. Holds c.code_of-in-Infix.new.p m.0) (java_view c.args.e.now) (java.Infix c.args.e.now.at c.in-Infix.operator (java_view c.deref-in-Infix.result.now) (java_view c.deref-in-Infix-2.result.now)) q (infix_is c.args.e.now c.deref-in-Infix.result.now c.deref-in-Infix-2.result.now c.in-Infix.operator c.in-Infix.a c.in-Infix.b c.in-Infix.is c.deref-in-Infix.ensures c.deref-in-Infix-2.ensures)
    (c.code_of-in-Infix.ensures.progress (plain.code_of (g.D.Declares.declarations c.args.m.now.declared.now) c.args.m.now.place (g.S.InScope.scope c.args.scope.now).locals (java_view c.deref-in-Infix.result.now) q).0 (c.code_of-first.ensures.progress q h))

pub code_of-returns-in-Infix-clause-value : goal.code_of-returns-in-Infix-clause-value
code_of-returns-in-Infix-clause-value g t c = λ q h.
    told_of (g.D.Declares.declarations c.args.m.now.declared.now) c.args.m.now.place (g.S.InScope.scope c.args.scope.now).locals (λ m. GivesExpr c.infix.result m.1) (java_view c.args.e.now) (java.Infix c.args.e.now.at c.in-Infix.operator (java_view c.deref-in-Infix.result.now) (java_view c.deref-in-Infix-2.result.now)) q (infix_is c.args.e.now c.deref-in-Infix.result.now c.deref-in-Infix-2.result.now c.in-Infix.operator c.in-Infix.a c.in-Infix.b c.in-Infix.is c.deref-in-Infix.ensures c.deref-in-Infix-2.ensures)
    (c.infix.ensures (plain.code_of (g.D.Declares.declarations c.args.m.now.declared.now) c.args.m.now.place (g.S.InScope.scope c.args.scope.now).locals (java_view c.deref-in-Infix.result.now) q).1 (plain.code_of (g.D.Declares.declarations c.args.m.now.declared.now) c.args.m.now.place (g.S.InScope.scope c.args.scope.now).locals (java_view c.deref-in-Infix-2.result.now) (plain.code_of (g.D.Declares.declarations c.args.m.now.declared.now) c.args.m.now.place (g.S.InScope.scope c.args.scope.now).locals (java_view c.deref-in-Infix.result.now) q).0).1 (c.code_of-first.ensures.value q h) (c.code_of-in-Infix.ensures.value (plain.code_of (g.D.Declares.declarations c.args.m.now.declared.now) c.args.m.now.place (g.S.InScope.scope c.args.scope.now).locals (java_view c.deref-in-Infix.result.now) q).0 (c.code_of-first.ensures.progress q h)))

pub code_of-returns-in-Index-clause-progress : goal.code_of-returns-in-Index-clause-progress
code_of-returns-in-Index-clause-progress g t c = λ q h.
    told_of (g.D.Declares.declarations c.args.m.now.declared.now) c.args.m.now.place (g.S.InScope.scope c.args.scope.now).locals (λ m. Holds c.code_of-in-Index.new.p m.0) (java_view c.args.e.now) (java.Index c.args.e.now.at (java_view c.deref-in-Index.result.now) (java_view c.deref-in-Index-2.result.now)) q (index_is c.args.e.now c.deref-in-Index.result.now c.deref-in-Index-2.result.now c.in-Index.a c.in-Index.i c.in-Index.is c.deref-in-Index.ensures c.deref-in-Index-2.ensures)
    (c.code_of-in-Index.ensures.progress (plain.code_of (g.D.Declares.declarations c.args.m.now.declared.now) c.args.m.now.place (g.S.InScope.scope c.args.scope.now).locals (java_view c.deref-in-Index.result.now) q).0 (c.code_of-array.ensures.progress q h))

pub code_of-returns-in-Index-clause-value : goal.code_of-returns-in-Index-clause-value
code_of-returns-in-Index-clause-value g t c = λ q h.
    told_of (g.D.Declares.declarations c.args.m.now.declared.now) c.args.m.now.place (g.S.InScope.scope c.args.scope.now).locals (λ m. GivesExpr c.read_element.result m.1) (java_view c.args.e.now) (java.Index c.args.e.now.at (java_view c.deref-in-Index.result.now) (java_view c.deref-in-Index-2.result.now)) q (index_is c.args.e.now c.deref-in-Index.result.now c.deref-in-Index-2.result.now c.in-Index.a c.in-Index.i c.in-Index.is c.deref-in-Index.ensures c.deref-in-Index-2.ensures)
    (c.read_element.ensures (plain.code_of (g.D.Declares.declarations c.args.m.now.declared.now) c.args.m.now.place (g.S.InScope.scope c.args.scope.now).locals (java_view c.deref-in-Index.result.now) q).1 (plain.code_of (g.D.Declares.declarations c.args.m.now.declared.now) c.args.m.now.place (g.S.InScope.scope c.args.scope.now).locals (java_view c.deref-in-Index-2.result.now) (plain.code_of (g.D.Declares.declarations c.args.m.now.declared.now) c.args.m.now.place (g.S.InScope.scope c.args.scope.now).locals (java_view c.deref-in-Index.result.now) q).0).1 (c.code_of-array.ensures.value q h) (c.code_of-in-Index.ensures.value (plain.code_of (g.D.Declares.declarations c.args.m.now.declared.now) c.args.m.now.place (g.S.InScope.scope c.args.scope.now).locals (java_view c.deref-in-Index.result.now) q).0 (c.code_of-array.ensures.progress q h)))

pub code_of-returns-in-Minus-clause-progress : goal.code_of-returns-in-Minus-clause-progress
code_of-returns-in-Minus-clause-progress g t c = λ q h.
    told_of (g.D.Declares.declarations c.args.m.now.declared.now) c.args.m.now.place (g.S.InScope.scope c.args.scope.now).locals (λ m. Holds c.code_of-in-Minus.new.p m.0) (java_view c.args.e.now) (java.Prefix c.args.e.now.at prefixes.Minus (java_view c.deref-in-Minus-2.result.now)) q (prefix_is c.args.e.now c.deref-in-Minus-2.result.now c.in-Prefix.operator prefixes.Minus c.in-Prefix.o c.in-Prefix.is c.in-Minus.is c.deref-in-Minus-2.ensures)
    (c.code_of-in-Minus.ensures.progress q h)

pub code_of-returns-in-Minus-clause-value : goal.code_of-returns-in-Minus-clause-value
code_of-returns-in-Minus-clause-value g t c = λ q h.
    told_of (g.D.Declares.declarations c.args.m.now.declared.now) c.args.m.now.place (g.S.InScope.scope c.args.scope.now).locals (λ m. GivesExpr c.minus.result m.1) (java_view c.args.e.now) (java.Prefix c.args.e.now.at prefixes.Minus (java_view c.deref-in-Minus-2.result.now)) q (prefix_is c.args.e.now c.deref-in-Minus-2.result.now c.in-Prefix.operator prefixes.Minus c.in-Prefix.o c.in-Prefix.is c.in-Minus.is c.deref-in-Minus-2.ensures)
    (subst (λ (y : Expr). GivesExpr c.minus.result (plain.minus_code (java_view y) (plain.code_of (g.D.Declares.declarations c.args.m.now.declared.now) c.args.m.now.place (g.S.InScope.scope c.args.scope.now).locals (java_view c.deref-in-Minus-2.result.now) q).1)) (c.deref-in-Minus.ensures ∙ sym c.deref-in-Minus-2.ensures) (c.minus.ensures (plain.code_of (g.D.Declares.declarations c.args.m.now.declared.now) c.args.m.now.place (g.S.InScope.scope c.args.scope.now).locals (java_view c.deref-in-Minus-2.result.now) q).1 (c.code_of-in-Minus.ensures.value q h)))

pub code_of-returns-in-Not-clause-progress : goal.code_of-returns-in-Not-clause-progress
code_of-returns-in-Not-clause-progress g t c = λ q h.
    told_of (g.D.Declares.declarations c.args.m.now.declared.now) c.args.m.now.place (g.S.InScope.scope c.args.scope.now).locals (λ m. Holds c.code_of-in-Not.new.p m.0) (java_view c.args.e.now) (java.Prefix c.args.e.now.at prefixes.Not (java_view c.deref-in-Not.result.now)) q (prefix_is c.args.e.now c.deref-in-Not.result.now c.in-Prefix.operator prefixes.Not c.in-Prefix.o c.in-Prefix.is c.in-Not.is c.deref-in-Not.ensures)
    (c.code_of-in-Not.ensures.progress q h)

pub code_of-returns-in-Not-clause-value : goal.code_of-returns-in-Not-clause-value
code_of-returns-in-Not-clause-value g t c = λ q h.
    told_of (g.D.Declares.declarations c.args.m.now.declared.now) c.args.m.now.place (g.S.InScope.scope c.args.scope.now).locals (λ m. GivesExpr c.unary.result m.1) (java_view c.args.e.now) (java.Prefix c.args.e.now.at prefixes.Not (java_view c.deref-in-Not.result.now)) q (prefix_is c.args.e.now c.deref-in-Not.result.now c.in-Prefix.operator prefixes.Not c.in-Prefix.o c.in-Prefix.is c.in-Not.is c.deref-in-Not.ensures)
    (c.unary.ensures (plain.code_of (g.D.Declares.declarations c.args.m.now.declared.now) c.args.m.now.place (g.S.InScope.scope c.args.scope.now).locals (java_view c.deref-in-Not.result.now) q).1 (c.code_of-in-Not.ensures.value q h))

pub code_of-returns-in-Plus-clause-progress : goal.code_of-returns-in-Plus-clause-progress
code_of-returns-in-Plus-clause-progress g t c = λ q h.
    told_of (g.D.Declares.declarations c.args.m.now.declared.now) c.args.m.now.place (g.S.InScope.scope c.args.scope.now).locals (λ m. Holds c.code_of-in-Plus.new.p m.0) (java_view c.args.e.now) (java.Prefix c.args.e.now.at prefixes.Plus (java_view c.deref-in-Plus.result.now)) q (prefix_is c.args.e.now c.deref-in-Plus.result.now c.in-Prefix.operator prefixes.Plus c.in-Prefix.o c.in-Prefix.is c.in-Plus.is c.deref-in-Plus.ensures)
    (c.code_of-in-Plus.ensures.progress q h)

pub code_of-returns-in-Plus-clause-value : goal.code_of-returns-in-Plus-clause-value
code_of-returns-in-Plus-clause-value g t c = λ q h.
    told_of (g.D.Declares.declarations c.args.m.now.declared.now) c.args.m.now.place (g.S.InScope.scope c.args.scope.now).locals (λ m. GivesExpr c.code_of-in-Plus.result m.1) (java_view c.args.e.now) (java.Prefix c.args.e.now.at prefixes.Plus (java_view c.deref-in-Plus.result.now)) q (prefix_is c.args.e.now c.deref-in-Plus.result.now c.in-Prefix.operator prefixes.Plus c.in-Prefix.o c.in-Prefix.is c.in-Plus.is c.deref-in-Plus.ensures)
    (c.code_of-in-Plus.ensures.value q h)

pub code_of-returns-in-NewArray-clause-progress : goal.code_of-returns-in-NewArray-clause-progress
code_of-returns-in-NewArray-clause-progress g t c = λ q h.
    told_of (g.D.Declares.declarations c.args.m.now.declared.now) c.args.m.now.place (g.S.InScope.scope c.args.scope.now).locals (λ m. Holds c.created_array.new.p m.0) (java_view c.args.e.now) (java.NewArray c.args.e.now.at (java_view c.deref-in-NewArray.result.now)) q (array_is c.args.e.now c.deref-in-NewArray.result.now c.in-NewArray.o c.in-NewArray.is c.deref-in-NewArray.ensures)
    (c.created_array.ensures.progress (plain.code_of (g.D.Declares.declarations c.args.m.now.declared.now) c.args.m.now.place (g.S.InScope.scope c.args.scope.now).locals (java_view c.deref-in-NewArray.result.now) q) (c.code_of-length.ensures.progress q h))

pub code_of-returns-in-NewArray-clause-value : goal.code_of-returns-in-NewArray-clause-value
code_of-returns-in-NewArray-clause-value g t c = λ q h.
    told_of (g.D.Declares.declarations c.args.m.now.declared.now) c.args.m.now.place (g.S.InScope.scope c.args.scope.now).locals (λ m. GivesExpr c.created_array.result m.1) (java_view c.args.e.now) (java.NewArray c.args.e.now.at (java_view c.deref-in-NewArray.result.now)) q (array_is c.args.e.now c.deref-in-NewArray.result.now c.in-NewArray.o c.in-NewArray.is c.deref-in-NewArray.ensures)
    (c.created_array.ensures.value (plain.code_of (g.D.Declares.declarations c.args.m.now.declared.now) c.args.m.now.place (g.S.InScope.scope c.args.scope.now).locals (java_view c.deref-in-NewArray.result.now) q) (c.code_of-length.ensures.progress q h) (c.code_of-length.ensures.value q h))

pub code_of-returns-in-Static-clause-progress : goal.code_of-returns-in-Static-clause-progress
code_of-returns-in-Static-clause-progress g t c = λ q h.
    called_told (g.D.Declares.declarations c.args.m.now.declared.now) c.args.m.now.place (g.S.InScope.scope c.args.scope.now).locals (λ m. Holds c.codes_of-operands-in-Static.new.p m.0) (java_view c.args.e.now) (java_view c.deref-in-Static.result.now) (java_exprs (map java_view c.deref-in-Static-2.result.now)) c.args.e.now.at (identifier_view c.in-MethodCall.name) c.deref-in-MethodCall-3.result.now c.class_before-class-in-MethodCall.result c.static_type-t-in-MethodCall.result c.method_called.result (calls.Static c.in-Static.class c.in-Static.method) q
    (call_is c.args.e.now c.deref-in-Static.result.now c.in-MethodCall.name c.deref-in-Static-2.result.now c.in-MethodCall.o c.in-MethodCall.es c.in-MethodCall.is c.deref-in-Static.ensures c.deref-in-Static-2.ensures.value) c.deref-in-MethodCall-3.ensures.value
    (c.class_before-class-in-MethodCall.ensures ∙ ap (λ (y : Expr). class_before (g.D.Declares.declarations c.args.m.now.declared.now) c.args.m.now.place (g.S.InScope.scope c.args.scope.now).locals (java_view y)) (c.deref-in-MethodCall.ensures ∙ sym c.deref-in-Static.ensures))
    (c.static_type-t-in-MethodCall.ensures ∙ ap (λ (y : Expr). static_type (g.D.Declares.declarations c.args.m.now.declared.now) c.args.m.now.place (g.S.InScope.scope c.args.scope.now).locals (java_view y)) (c.deref-in-MethodCall-2.ensures ∙ sym c.deref-in-Static.ensures)) c.method_called.ensures c.in-Static.is
    (c.codes_of-operands-in-Static.ensures.progress (temporary (types.Class c.in-Static.class) (plain.code_of (g.D.Declares.declarations c.args.m.now.declared.now) c.args.m.now.place (g.S.InScope.scope c.args.scope.now).locals (java_view c.deref-in-Static.result.now) q).0).0 (c.temporary-kept.ensures.progress (plain.code_of (g.D.Declares.declarations c.args.m.now.declared.now) c.args.m.now.place (g.S.InScope.scope c.args.scope.now).locals (java_view c.deref-in-Static.result.now) q).0 (c.code_of-object.ensures.progress q h)))

pub code_of-returns-in-Static-clause-value : goal.code_of-returns-in-Static-clause-value
code_of-returns-in-Static-clause-value g t c = λ q h.
    called_told (g.D.Declares.declarations c.args.m.now.declared.now) c.args.m.now.place (g.S.InScope.scope c.args.scope.now).locals (λ m. GivesExpr c.call_behind.result m.1) (java_view c.args.e.now) (java_view c.deref-in-Static.result.now) (java_exprs (map java_view c.deref-in-Static-2.result.now)) c.args.e.now.at (identifier_view c.in-MethodCall.name) c.deref-in-MethodCall-3.result.now c.class_before-class-in-MethodCall.result c.static_type-t-in-MethodCall.result c.method_called.result (calls.Static c.in-Static.class c.in-Static.method) q
    (call_is c.args.e.now c.deref-in-Static.result.now c.in-MethodCall.name c.deref-in-Static-2.result.now c.in-MethodCall.o c.in-MethodCall.es c.in-MethodCall.is c.deref-in-Static.ensures c.deref-in-Static-2.ensures.value) c.deref-in-MethodCall-3.ensures.value
    (c.class_before-class-in-MethodCall.ensures ∙ ap (λ (y : Expr). class_before (g.D.Declares.declarations c.args.m.now.declared.now) c.args.m.now.place (g.S.InScope.scope c.args.scope.now).locals (java_view y)) (c.deref-in-MethodCall.ensures ∙ sym c.deref-in-Static.ensures))
    (c.static_type-t-in-MethodCall.ensures ∙ ap (λ (y : Expr). static_type (g.D.Declares.declarations c.args.m.now.declared.now) c.args.m.now.place (g.S.InScope.scope c.args.scope.now).locals (java_view y)) (c.deref-in-MethodCall-2.ensures ∙ sym c.deref-in-Static.ensures)) c.method_called.ensures c.in-Static.is
    (c.call_behind.ensures (temporary (types.Class c.in-Static.class) (plain.code_of (g.D.Declares.declarations c.args.m.now.declared.now) c.args.m.now.place (g.S.InScope.scope c.args.scope.now).locals (java_view c.deref-in-Static.result.now) q).0).1 (plain.code_of (g.D.Declares.declarations c.args.m.now.declared.now) c.args.m.now.place (g.S.InScope.scope c.args.scope.now).locals (java_view c.deref-in-Static.result.now) q).1 (plain.codes_of (g.D.Declares.declarations c.args.m.now.declared.now) c.args.m.now.place (g.S.InScope.scope c.args.scope.now).locals (java_exprs (map java_view c.deref-in-Static-2.result.now)) (temporary (types.Class c.in-Static.class) (plain.code_of (g.D.Declares.declarations c.args.m.now.declared.now) c.args.m.now.place (g.S.InScope.scope c.args.scope.now).locals (java_view c.deref-in-Static.result.now) q).0).0).1 (c.temporary-kept.ensures.name (plain.code_of (g.D.Declares.declarations c.args.m.now.declared.now) c.args.m.now.place (g.S.InScope.scope c.args.scope.now).locals (java_view c.deref-in-Static.result.now) q).0 (c.code_of-object.ensures.progress q h)) (c.code_of-object.ensures.value q h) (c.codes_of-operands-in-Static.ensures.values (temporary (types.Class c.in-Static.class) (plain.code_of (g.D.Declares.declarations c.args.m.now.declared.now) c.args.m.now.place (g.S.InScope.scope c.args.scope.now).locals (java_view c.deref-in-Static.result.now) q).0).0 (c.temporary-kept.ensures.progress (plain.code_of (g.D.Declares.declarations c.args.m.now.declared.now) c.args.m.now.place (g.S.InScope.scope c.args.scope.now).locals (java_view c.deref-in-Static.result.now) q).0 (c.code_of-object.ensures.progress q h))))

pub code_of-returns-in-Virtual-clause-progress : goal.code_of-returns-in-Virtual-clause-progress
code_of-returns-in-Virtual-clause-progress g t c = λ q h.
    called_told (g.D.Declares.declarations c.args.m.now.declared.now) c.args.m.now.place (g.S.InScope.scope c.args.scope.now).locals (λ m. Holds c.codes_of-operands-in-Virtual.new.p m.0) (java_view c.args.e.now) (java_view c.deref-in-Virtual.result.now) (java_exprs (map java_view c.deref-in-Virtual-2.result.now)) c.args.e.now.at (identifier_view c.in-MethodCall.name) c.deref-in-MethodCall-3.result.now c.class_before-class-in-MethodCall.result c.static_type-t-in-MethodCall.result c.method_called.result (calls.Virtual c.in-Virtual.class c.in-Virtual.method) q
    (call_is c.args.e.now c.deref-in-Virtual.result.now c.in-MethodCall.name c.deref-in-Virtual-2.result.now c.in-MethodCall.o c.in-MethodCall.es c.in-MethodCall.is c.deref-in-Virtual.ensures c.deref-in-Virtual-2.ensures.value) c.deref-in-MethodCall-3.ensures.value
    (c.class_before-class-in-MethodCall.ensures ∙ ap (λ (y : Expr). class_before (g.D.Declares.declarations c.args.m.now.declared.now) c.args.m.now.place (g.S.InScope.scope c.args.scope.now).locals (java_view y)) (c.deref-in-MethodCall.ensures ∙ sym c.deref-in-Virtual.ensures))
    (c.static_type-t-in-MethodCall.ensures ∙ ap (λ (y : Expr). static_type (g.D.Declares.declarations c.args.m.now.declared.now) c.args.m.now.place (g.S.InScope.scope c.args.scope.now).locals (java_view y)) (c.deref-in-MethodCall-2.ensures ∙ sym c.deref-in-Virtual.ensures)) c.method_called.ensures c.in-Virtual.is
    (c.codes_of-operands-in-Virtual.ensures.progress (plain.code_of (g.D.Declares.declarations c.args.m.now.declared.now) c.args.m.now.place (g.S.InScope.scope c.args.scope.now).locals (java_view c.deref-in-Virtual.result.now) q).0 (c.code_of-object-in-Virtual.ensures.progress q h))

pub code_of-returns-in-Virtual-clause-value : goal.code_of-returns-in-Virtual-clause-value
code_of-returns-in-Virtual-clause-value g t c = λ q h.
    called_told (g.D.Declares.declarations c.args.m.now.declared.now) c.args.m.now.place (g.S.InScope.scope c.args.scope.now).locals (λ m. GivesExpr c.virtual_call.result m.1) (java_view c.args.e.now) (java_view c.deref-in-Virtual.result.now) (java_exprs (map java_view c.deref-in-Virtual-2.result.now)) c.args.e.now.at (identifier_view c.in-MethodCall.name) c.deref-in-MethodCall-3.result.now c.class_before-class-in-MethodCall.result c.static_type-t-in-MethodCall.result c.method_called.result (calls.Virtual c.in-Virtual.class c.in-Virtual.method) q
    (call_is c.args.e.now c.deref-in-Virtual.result.now c.in-MethodCall.name c.deref-in-Virtual-2.result.now c.in-MethodCall.o c.in-MethodCall.es c.in-MethodCall.is c.deref-in-Virtual.ensures c.deref-in-Virtual-2.ensures.value) c.deref-in-MethodCall-3.ensures.value
    (c.class_before-class-in-MethodCall.ensures ∙ ap (λ (y : Expr). class_before (g.D.Declares.declarations c.args.m.now.declared.now) c.args.m.now.place (g.S.InScope.scope c.args.scope.now).locals (java_view y)) (c.deref-in-MethodCall.ensures ∙ sym c.deref-in-Virtual.ensures))
    (c.static_type-t-in-MethodCall.ensures ∙ ap (λ (y : Expr). static_type (g.D.Declares.declarations c.args.m.now.declared.now) c.args.m.now.place (g.S.InScope.scope c.args.scope.now).locals (java_view y)) (c.deref-in-MethodCall-2.ensures ∙ sym c.deref-in-Virtual.ensures)) c.method_called.ensures c.in-Virtual.is
    (c.virtual_call.ensures (plain.code_of (g.D.Declares.declarations c.args.m.now.declared.now) c.args.m.now.place (g.S.InScope.scope c.args.scope.now).locals (java_view c.deref-in-Virtual.result.now) q).1 (plain.codes_of (g.D.Declares.declarations c.args.m.now.declared.now) c.args.m.now.place (g.S.InScope.scope c.args.scope.now).locals (java_exprs (map java_view c.deref-in-Virtual-2.result.now)) (plain.code_of (g.D.Declares.declarations c.args.m.now.declared.now) c.args.m.now.place (g.S.InScope.scope c.args.scope.now).locals (java_view c.deref-in-Virtual.result.now) q).0).1 (c.code_of-object-in-Virtual.ensures.value q h) (c.codes_of-operands-in-Virtual.ensures.values (plain.code_of (g.D.Declares.declarations c.args.m.now.declared.now) c.args.m.now.place (g.S.InScope.scope c.args.scope.now).locals (java_view c.deref-in-Virtual.result.now) q).0 (c.code_of-object-in-Virtual.ensures.progress q h)))

pub code_of-returns-in-Unknown-clause-progress : goal.code_of-returns-in-Unknown-clause-progress
code_of-returns-in-Unknown-clause-progress g t c = λ q h.
    called_told (g.D.Declares.declarations c.args.m.now.declared.now) c.args.m.now.place (g.S.InScope.scope c.args.scope.now).locals (λ m. Holds c.code_of-in-Unknown.new.p m.0) (java_view c.args.e.now) (java_view c.deref-in-Unknown.result.now) (java_exprs (map java_view c.in-MethodCall.es.items)) c.args.e.now.at (identifier_view c.in-MethodCall.name) c.deref-in-MethodCall-3.result.now c.class_before-class-in-MethodCall.result c.static_type-t-in-MethodCall.result c.method_called.result calls.Unknown q
    (call_is c.args.e.now c.deref-in-Unknown.result.now c.in-MethodCall.name c.in-MethodCall.es.items c.in-MethodCall.o c.in-MethodCall.es c.in-MethodCall.is c.deref-in-Unknown.ensures refl) c.deref-in-MethodCall-3.ensures.value
    (c.class_before-class-in-MethodCall.ensures ∙ ap (λ (y : Expr). class_before (g.D.Declares.declarations c.args.m.now.declared.now) c.args.m.now.place (g.S.InScope.scope c.args.scope.now).locals (java_view y)) (c.deref-in-MethodCall.ensures ∙ sym c.deref-in-Unknown.ensures))
    (c.static_type-t-in-MethodCall.ensures ∙ ap (λ (y : Expr). static_type (g.D.Declares.declarations c.args.m.now.declared.now) c.args.m.now.place (g.S.InScope.scope c.args.scope.now).locals (java_view y)) (c.deref-in-MethodCall-2.ensures ∙ sym c.deref-in-Unknown.ensures)) c.method_called.ensures c.in-Unknown.is
    (c.code_of-in-Unknown.ensures.progress q h)

pub code_of-returns-in-Unknown-clause-value : goal.code_of-returns-in-Unknown-clause-value
code_of-returns-in-Unknown-clause-value g t c = λ q h.
    called_told (g.D.Declares.declarations c.args.m.now.declared.now) c.args.m.now.place (g.S.InScope.scope c.args.scope.now).locals (λ m. GivesExpr c.null-in-Unknown.result m.1) (java_view c.args.e.now) (java_view c.deref-in-Unknown.result.now) (java_exprs (map java_view c.in-MethodCall.es.items)) c.args.e.now.at (identifier_view c.in-MethodCall.name) c.deref-in-MethodCall-3.result.now c.class_before-class-in-MethodCall.result c.static_type-t-in-MethodCall.result c.method_called.result calls.Unknown q
    (call_is c.args.e.now c.deref-in-Unknown.result.now c.in-MethodCall.name c.in-MethodCall.es.items c.in-MethodCall.o c.in-MethodCall.es c.in-MethodCall.is c.deref-in-Unknown.ensures refl) c.deref-in-MethodCall-3.ensures.value
    (c.class_before-class-in-MethodCall.ensures ∙ ap (λ (y : Expr). class_before (g.D.Declares.declarations c.args.m.now.declared.now) c.args.m.now.place (g.S.InScope.scope c.args.scope.now).locals (java_view y)) (c.deref-in-MethodCall.ensures ∙ sym c.deref-in-Unknown.ensures))
    (c.static_type-t-in-MethodCall.ensures ∙ ap (λ (y : Expr). static_type (g.D.Declares.declarations c.args.m.now.declared.now) c.args.m.now.place (g.S.InScope.scope c.args.scope.now).locals (java_view y)) (c.deref-in-MethodCall-2.ensures ∙ sym c.deref-in-Unknown.ensures)) c.method_called.ensures c.in-Unknown.is
    c.null-in-Unknown.ensures

pub code_of-returns-in-Nothing-method_called-clause-value : goal.code_of-returns-in-Nothing-method_called-clause-value
code_of-returns-in-Nothing-method_called-clause-value g t c = λ q h.
    called_told (g.D.Declares.declarations c.args.m.now.declared.now) c.args.m.now.place (g.S.InScope.scope c.args.scope.now).locals (λ m. GivesExpr c.null-in-Nothing-method_called.result m.1) (java_view c.args.e.now) (java_view c.in-MethodCall.o.value) (java_exprs (map java_view c.in-MethodCall.es.items)) c.args.e.now.at (identifier_view c.in-MethodCall.name) c.deref-in-MethodCall-3.result.now c.class_before-class-in-MethodCall.result c.static_type-t-in-MethodCall.result c.method_called.result calls.Nothing q
    (call_is c.args.e.now c.in-MethodCall.o.value c.in-MethodCall.name c.in-MethodCall.es.items c.in-MethodCall.o c.in-MethodCall.es c.in-MethodCall.is refl refl) c.deref-in-MethodCall-3.ensures.value
    (c.class_before-class-in-MethodCall.ensures ∙ ap (λ (y : Expr). class_before (g.D.Declares.declarations c.args.m.now.declared.now) c.args.m.now.place (g.S.InScope.scope c.args.scope.now).locals (java_view y)) (c.deref-in-MethodCall.ensures))
    (c.static_type-t-in-MethodCall.ensures ∙ ap (λ (y : Expr). static_type (g.D.Declares.declarations c.args.m.now.declared.now) c.args.m.now.place (g.S.InScope.scope c.args.scope.now).locals (java_view y)) (c.deref-in-MethodCall-2.ensures)) c.method_called.ensures c.in-Nothing-method_called.is
    c.null-in-Nothing-method_called.ensures

pub code_of-returns-in-Conditional-clause-progress : goal.code_of-returns-in-Conditional-clause-progress
code_of-returns-in-Conditional-clause-progress g t c = λ q h.
    conditional_told (g.D.Declares.declarations c.args.m.now.declared.now) c.args.m.now.place (g.S.InScope.scope c.args.scope.now).locals (λ m. Holds c.code_of-second.new.p m.0) (java_view c.args.e.now) (java_view c.deref-in-Conditional.result.now) (java_view c.deref-in-Conditional-2.result.now) (java_view c.deref-in-Conditional-3.result.now) c.args.e.now.at q
    (conditional_is c.args.e.now c.deref-in-Conditional.result.now c.deref-in-Conditional-2.result.now c.deref-in-Conditional-3.result.now c.in-Conditional.c c.in-Conditional.a c.in-Conditional.b c.in-Conditional.is c.deref-in-Conditional.ensures c.deref-in-Conditional-2.ensures c.deref-in-Conditional-3.ensures)
    (c.code_of-second.ensures.progress (plain.code_of (g.D.Declares.declarations c.args.m.now.declared.now) c.args.m.now.place (g.S.InScope.scope c.args.scope.now).locals (java_view c.deref-in-Conditional-2.result.now) (plain.code_of (g.D.Declares.declarations c.args.m.now.declared.now) c.args.m.now.place (g.S.InScope.scope c.args.scope.now).locals (java_view c.deref-in-Conditional.result.now) q).0).0 (c.code_of-first-in-Conditional.ensures.progress (plain.code_of (g.D.Declares.declarations c.args.m.now.declared.now) c.args.m.now.place (g.S.InScope.scope c.args.scope.now).locals (java_view c.deref-in-Conditional.result.now) q).0 (c.code_of-condition.ensures.progress q h)))
