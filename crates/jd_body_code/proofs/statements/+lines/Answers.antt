use Rattle.std.proofs.Common.{List, [], ◌∷◌, ◌++◌, map, option_map, refl, sym, ap, subst, ◌∙◌, arith}
use Rattle.std.specs.Option.{option_copied}
use Rattle.jd_syntax.specs.JavaTrees.{declarator_view, for_start_view, java_handlers, java_stmt_view, java_stmts, java_view}
use Rattle.jd_syntax.specs.JavaTypes.{identifier_view, written_view}
use Rattle.jd_syntax.specs.declared.java.Handler.{out-Handler}
use Rattle.jd_syntax.specs.declared.java.Stmt.{Stmt}
use Rattle.jd_jcalls.specs.Handlers.{java_handler_view}
use Rattle.jd_bodies.specs.Bodies.{Lines, block_lines, class_number, condition_code, declaration, effects_lines, label_if, lines, loop_lines, start}
use Rattle.jd_bodies.specs.Codes.{code_of}
use Rattle.jd_bodies.specs.Types.{throwable}
use Rattle.jd_bodies.specs.Variables.{Progress, local_name, temporary, with_local}
use Rattle.jd_bodies.specs.declared.value.ValueType.TheVariants as types
use Rattle.jd_code_makers.specs.Makers.{GivesStmts}
use Rattle.jd_effect_code.specs.Asking.{label_texts}
use Rattle.jd_statement_parts.specs.Catching.{GivesPart, GivesParts, PlainPart}
use Rattle.jd_statement_parts.specs.Leaving.{exits_view}
use Rattle.jd_statement_parts.specs.Standing.{Stands, local_of}
use Rattle.jd_statement_parts.specs.Turning.{GivesNumbers, head_of, numbers_view}
use Rattle.jd_statement_parts.proofs.Sequences.{declaration_within, start_within}
use Rattle.jd_statement_parts.proofs.Standing.{left, moves_on, there}
use Rattle.jd_body_code.specs.Parted.{handler_parts, loop_of, part_of, tried_lines}
use Rattle.jd_body_code.proofs.Blocks.{block_begin, block_end, line_within, next_part, next_stmt, parts_begin, parts_end, within_both}
use Rattle.jd_body_code.proofs.Sizes.{block_falls, else_falls, finally_falls, for_falls, handler_falls, if_falls, label_falls, last_falls, other_falls, try_falls, while_falls}
use Rattle.jd_body_code.proofs.Staying.{stays}
use Rattle.jd_body_code.proofs.Told.{handler_told, label_told, some_there, told, tried_told, turns_told}
use Rattle.jd_body_code.proofs.Views.{block_is, break_is, continue_is, else_is, empty_is, evaluate_is, finally_is, for_is, if_is, is_handler, label_is, local_is, return_is, super_is, throw_is, try_is, while_is}
use Rattle.jd_body_code.proofs.statements.+lines.Goals as goal

pub lines-returns-in-Block-clause-stands : goal.lines-returns-in-Block-clause-stands
lines-returns-in-Block-clause-stands g t c = λ q ls h.
    told (g.D.Declares.declarations c.args.m.now.declared.now) c.args.m.now.place (λ (r : Lines). Stands c.block.new.p (g.S.InScope.scope c.block.new.scope).locals r.0 ls) (java_stmt_view c.args.s.now) _ (label_texts c.args.labels.now) (exits_view c.args.x.now) ls q (block_is c.args.s.now c.deref.result.now c.in-Block.ss c.in-Block.is c.deref.ensures.value) (c.block.ensures.stands q ls h)

pub lines-returns-in-Block-clause-stmts : goal.lines-returns-in-Block-clause-stmts
lines-returns-in-Block-clause-stmts g t c = λ q ls h.
    told (g.D.Declares.declarations c.args.m.now.declared.now) c.args.m.now.place (λ (r : Lines). GivesStmts c.block.result r.1) (java_stmt_view c.args.s.now) _ (label_texts c.args.labels.now) (exits_view c.args.x.now) ls q (block_is c.args.s.now c.deref.result.now c.in-Block.ss c.in-Block.is c.deref.ensures.value) (c.block.ensures.stmts q ls h)

pub lines-returns-in-Empty-clause-stands : goal.lines-returns-in-Empty-clause-stands
lines-returns-in-Empty-clause-stands g t c = λ q ls h.
    told (g.D.Declares.declarations c.args.m.now.declared.now) c.args.m.now.place (λ (r : Lines). Stands c.args.p.now (g.S.InScope.scope c.args.scope.now).locals r.0 ls) (java_stmt_view c.args.s.now) _ (label_texts c.args.labels.now) (exits_view c.args.x.now) ls q (empty_is c.args.s.now c.in-Empty.is) h

pub lines-returns-in-Empty-clause-stmts : goal.lines-returns-in-Empty-clause-stmts
lines-returns-in-Empty-clause-stmts g t c = λ q ls h.
    told (g.D.Declares.declarations c.args.m.now.declared.now) c.args.m.now.place (λ (r : Lines). GivesStmts c.no_stmts.result r.1) (java_stmt_view c.args.s.now) _ (label_texts c.args.labels.now) (exits_view c.args.x.now) ls q (empty_is c.args.s.now c.in-Empty.is) c.no_stmts.ensures

pub lines-returns-in-Local-clause-stands : goal.lines-returns-in-Local-clause-stands
lines-returns-in-Local-clause-stands g t c = λ q ls h.
    told (g.D.Declares.declarations c.args.m.now.declared.now) c.args.m.now.place (λ (r : Lines). Stands c.declared-made.new.p (g.S.InScope.scope c.leave.new.self).locals r.0 ls) (java_stmt_view c.args.s.now) _ (label_texts c.args.labels.now) (exits_view c.args.x.now) ls q (local_is c.args.s.now c.deref-in-Local.result.now c.in-Local.w c.in-Local.xs c.in-Local.is c.deref-in-Local.ensures.value) (left c.args.p.now c.declared-made.new.p (g.S.InScope.scope c.args.scope.now) (g.S.InScope.scope c.declared-made.new.scope) (g.S.InScope.scope c.leave.new.self) ls (declaration (g.D.Declares.declarations c.args.m.now.declared.now) c.args.m.now.place (written_view c.in-Local.w) (map declarator_view c.deref-in-Local.result.now) ls q).locals q (declaration (g.D.Declares.declarations c.args.m.now.declared.now) c.args.m.now.place (written_view c.in-Local.w) (map declarator_view c.deref-in-Local.result.now) ls q).lines.0 c.mark-mark.result c.declared-made.ensures.works h (c.declared-made.ensures.stands q ls h) (declaration_within (g.D.Declares.declarations c.args.m.now.declared.now) c.args.m.now.place (written_view c.in-Local.w) (map declarator_view c.deref-in-Local.result.now) ls q) c.mark-mark.ensures c.leave.ensures)

pub lines-returns-in-Local-clause-stmts : goal.lines-returns-in-Local-clause-stmts
lines-returns-in-Local-clause-stmts g t c = λ q ls h.
    told (g.D.Declares.declarations c.args.m.now.declared.now) c.args.m.now.place (λ (r : Lines). GivesStmts c.declared-made.result r.1) (java_stmt_view c.args.s.now) _ (label_texts c.args.labels.now) (exits_view c.args.x.now) ls q (local_is c.args.s.now c.deref-in-Local.result.now c.in-Local.w c.in-Local.xs c.in-Local.is c.deref-in-Local.ensures.value) (c.declared-made.ensures.stmts q ls h)

pub lines-returns-in-Evaluate-clause-stands : goal.lines-returns-in-Evaluate-clause-stands
lines-returns-in-Evaluate-clause-stands g t c = λ q ls h.
    told (g.D.Declares.declarations c.args.m.now.declared.now) c.args.m.now.place (λ (r : Lines). Stands c.effect_code.new.p (g.S.InScope.scope c.args.scope.now).locals r.0 ls) (java_stmt_view c.args.s.now) _ (label_texts c.args.labels.now) (exits_view c.args.x.now) ls q (evaluate_is c.args.s.now c.in-Evaluate.e c.in-Evaluate.is) (c.effect_code.ensures.stands q ls h)

pub lines-returns-in-Evaluate-clause-stmts : goal.lines-returns-in-Evaluate-clause-stmts
lines-returns-in-Evaluate-clause-stmts g t c = λ q ls h.
    told (g.D.Declares.declarations c.args.m.now.declared.now) c.args.m.now.place (λ (r : Lines). GivesStmts c.effect_code.result r.1) (java_stmt_view c.args.s.now) _ (label_texts c.args.labels.now) (exits_view c.args.x.now) ls q (evaluate_is c.args.s.now c.in-Evaluate.e c.in-Evaluate.is) (c.effect_code.ensures.stmts q ls h)

pub lines-returns-in-Ok-clause-stands : goal.lines-returns-in-Ok-clause-stands
lines-returns-in-Ok-clause-stands g t c = λ q ls h.
    label_told (g.D.Declares.declarations c.args.m.now.declared.now) c.args.m.now.place (λ (r : Lines). Stands c.lines-made.new.p (g.S.InScope.scope c.lines-made.new.scope).locals r.0 ls) (java_stmt_view c.args.s.now) (java_stmt_view c.deref-inner.result.now) c.args.s.now.at _ c.deref-l.result.now (label_texts c.args.labels.now) (label_texts c.with_label-behind.result) (exits_view c.args.x.now) (exits_view c.in_label-y.result) ls q c.leaves_label-wanted.result c.in-Ok.number (label_is c.args.s.now c.deref-l.result.now c.deref-inner.result.now c.in-Label.field-0 c.in-Label.l c.in-Label.inner c.in-Label.is c.deref-l.ensures.value c.deref-inner.ensures) c.leaves_label-wanted.ensures (c.in-Ok.ensures.number q (there c.args.p.now (g.S.InScope.scope c.args.scope.now).locals ls q h)) c.in_label-y.ensures c.with_label-behind.ensures
    (c.lines-made.ensures.stands (label_if c.leaves_label-wanted.result q) ls (moves_on c.args.p.now c.label_if.new.p (g.S.InScope.scope c.args.scope.now).locals ls q (label_if c.leaves_label-wanted.result q) c.label_if.ensures.works h (c.label_if.ensures.progress q)))

pub lines-returns-in-Ok-clause-stmts : goal.lines-returns-in-Ok-clause-stmts
lines-returns-in-Ok-clause-stmts g t c = λ q ls h.
    label_told (g.D.Declares.declarations c.args.m.now.declared.now) c.args.m.now.place (λ (r : Lines). GivesStmts c.block_if.result r.1) (java_stmt_view c.args.s.now) (java_stmt_view c.deref-inner.result.now) c.args.s.now.at _ c.deref-l.result.now (label_texts c.args.labels.now) (label_texts c.with_label-behind.result) (exits_view c.args.x.now) (exits_view c.in_label-y.result) ls q c.leaves_label-wanted.result c.in-Ok.number (label_is c.args.s.now c.deref-l.result.now c.deref-inner.result.now c.in-Label.field-0 c.in-Label.l c.in-Label.inner c.in-Label.is c.deref-l.ensures.value c.deref-inner.ensures) c.leaves_label-wanted.ensures (c.in-Ok.ensures.number q (there c.args.p.now (g.S.InScope.scope c.args.scope.now).locals ls q h)) c.in_label-y.ensures c.with_label-behind.ensures
    (c.block_if.ensures _ (c.lines-made.ensures.stmts (label_if c.leaves_label-wanted.result q) ls (moves_on c.args.p.now c.label_if.new.p (g.S.InScope.scope c.args.scope.now).locals ls q (label_if c.leaves_label-wanted.result q) c.label_if.ensures.works h (c.label_if.ensures.progress q))))

pub lines-returns-in-If-clause-stands : goal.lines-returns-in-If-clause-stands
lines-returns-in-If-clause-stands g t c = λ q ls h.
    told (g.D.Declares.declarations c.args.m.now.declared.now) c.args.m.now.place (λ (r : Lines). Stands c.bare-first.new.p (g.S.InScope.scope c.bare-first.new.scope).locals r.0 ls) (java_stmt_view c.args.s.now) _ (label_texts c.args.labels.now) (exits_view c.args.x.now) ls q (if_is c.args.s.now c.deref-in-If.result.now c.in-If.c c.in-If.inner c.in-If.is c.deref-in-If.ensures) (c.bare-first.ensures.stands (code_of (g.D.Declares.declarations c.args.m.now.declared.now) c.args.m.now.place ls (java_view c.in-If.c) q).0 ls (c.expr_code-condition.ensures.stands q ls h))

pub lines-returns-in-If-clause-stmts : goal.lines-returns-in-If-clause-stmts
lines-returns-in-If-clause-stmts g t c = λ q ls h.
    told (g.D.Declares.declarations c.args.m.now.declared.now) c.args.m.now.place (λ (r : Lines). GivesStmts c.one_stmt.result r.1) (java_stmt_view c.args.s.now) _ (label_texts c.args.labels.now) (exits_view c.args.x.now) ls q (if_is c.args.s.now c.deref-in-If.result.now c.in-If.c c.in-If.inner c.in-If.is c.deref-in-If.ensures) (c.one_stmt.ensures _ (c.choice.ensures (code_of (g.D.Declares.declarations c.args.m.now.declared.now) c.args.m.now.place ls (java_view c.in-If.c) q).1 (lines (g.D.Declares.declarations c.args.m.now.declared.now) c.args.m.now.place (java_stmt_view c.deref-in-If.result.now) [] (exits_view c.args.x.now) ls (code_of (g.D.Declares.declarations c.args.m.now.declared.now) c.args.m.now.place ls (java_view c.in-If.c) q).0).lines.1 [] (c.expr_code-condition.ensures.value q ls h) (c.bare-first.ensures.stmts (code_of (g.D.Declares.declarations c.args.m.now.declared.now) c.args.m.now.place ls (java_view c.in-If.c) q).0 ls (c.expr_code-condition.ensures.stands q ls h)) c.no_stmts-in-If.ensures))

pub lines-returns-in-IfElse-clause-stands : goal.lines-returns-in-IfElse-clause-stands
lines-returns-in-IfElse-clause-stands g t c = λ q ls h.
    told (g.D.Declares.declarations c.args.m.now.declared.now) c.args.m.now.place (λ (r : Lines). Stands c.bare-second.new.p (g.S.InScope.scope c.bare-second.new.scope).locals r.0 ls) (java_stmt_view c.args.s.now) _ (label_texts c.args.labels.now) (exits_view c.args.x.now) ls q (else_is c.args.s.now c.deref-in-IfElse.result.now c.deref-in-IfElse-2.result.now c.in-IfElse.c c.in-IfElse.inner c.in-IfElse.other c.in-IfElse.is c.deref-in-IfElse.ensures c.deref-in-IfElse-2.ensures) (c.bare-second.ensures.stands (lines (g.D.Declares.declarations c.args.m.now.declared.now) c.args.m.now.place (java_stmt_view c.deref-in-IfElse.result.now) [] (exits_view c.args.x.now) ls (code_of (g.D.Declares.declarations c.args.m.now.declared.now) c.args.m.now.place ls (java_view c.in-IfElse.c) q).0).lines.0 ls (c.bare-first-in-IfElse.ensures.stands (code_of (g.D.Declares.declarations c.args.m.now.declared.now) c.args.m.now.place ls (java_view c.in-IfElse.c) q).0 ls (c.expr_code-condition-in-IfElse.ensures.stands q ls h)))

pub lines-returns-in-IfElse-clause-stmts : goal.lines-returns-in-IfElse-clause-stmts
lines-returns-in-IfElse-clause-stmts g t c = λ q ls h.
    told (g.D.Declares.declarations c.args.m.now.declared.now) c.args.m.now.place (λ (r : Lines). GivesStmts c.one_stmt-in-IfElse.result r.1) (java_stmt_view c.args.s.now) _ (label_texts c.args.labels.now) (exits_view c.args.x.now) ls q (else_is c.args.s.now c.deref-in-IfElse.result.now c.deref-in-IfElse-2.result.now c.in-IfElse.c c.in-IfElse.inner c.in-IfElse.other c.in-IfElse.is c.deref-in-IfElse.ensures c.deref-in-IfElse-2.ensures) (c.one_stmt-in-IfElse.ensures _ (c.choice-in-IfElse.ensures (code_of (g.D.Declares.declarations c.args.m.now.declared.now) c.args.m.now.place ls (java_view c.in-IfElse.c) q).1 (lines (g.D.Declares.declarations c.args.m.now.declared.now) c.args.m.now.place (java_stmt_view c.deref-in-IfElse.result.now) [] (exits_view c.args.x.now) ls (code_of (g.D.Declares.declarations c.args.m.now.declared.now) c.args.m.now.place ls (java_view c.in-IfElse.c) q).0).lines.1 (lines (g.D.Declares.declarations c.args.m.now.declared.now) c.args.m.now.place (java_stmt_view c.deref-in-IfElse-2.result.now) [] (exits_view c.args.x.now) ls (lines (g.D.Declares.declarations c.args.m.now.declared.now) c.args.m.now.place (java_stmt_view c.deref-in-IfElse.result.now) [] (exits_view c.args.x.now) ls (code_of (g.D.Declares.declarations c.args.m.now.declared.now) c.args.m.now.place ls (java_view c.in-IfElse.c) q).0).lines.0).lines.1 (c.expr_code-condition-in-IfElse.ensures.value q ls h) (c.bare-first-in-IfElse.ensures.stmts (code_of (g.D.Declares.declarations c.args.m.now.declared.now) c.args.m.now.place ls (java_view c.in-IfElse.c) q).0 ls (c.expr_code-condition-in-IfElse.ensures.stands q ls h)) (c.bare-second.ensures.stmts (lines (g.D.Declares.declarations c.args.m.now.declared.now) c.args.m.now.place (java_stmt_view c.deref-in-IfElse.result.now) [] (exits_view c.args.x.now) ls (code_of (g.D.Declares.declarations c.args.m.now.declared.now) c.args.m.now.place ls (java_view c.in-IfElse.c) q).0).lines.0 ls (c.bare-first-in-IfElse.ensures.stands (code_of (g.D.Declares.declarations c.args.m.now.declared.now) c.args.m.now.place ls (java_view c.in-IfElse.c) q).0 ls (c.expr_code-condition-in-IfElse.ensures.stands q ls h)))))

pub lines-returns-in-While-clause-stands : goal.lines-returns-in-While-clause-stands
lines-returns-in-While-clause-stands g t c = λ q ls h.
    told (g.D.Declares.declarations c.args.m.now.declared.now) c.args.m.now.place (λ (r : Lines). Stands c.turns.new.p (g.S.InScope.scope c.turns.new.scope).locals r.0 ls) (java_stmt_view c.args.s.now) _ (label_texts c.args.labels.now) (exits_view c.args.x.now) ls q (while_is c.args.s.now c.deref-in-While.result.now c.in-While.field-0 c.in-While.c c.in-While.body c.in-While.is c.deref-in-While.ensures) (c.turns.ensures.stands q ls h)

pub lines-returns-in-While-clause-stmts : goal.lines-returns-in-While-clause-stmts
lines-returns-in-While-clause-stmts g t c = λ q ls h.
    told (g.D.Declares.declarations c.args.m.now.declared.now) c.args.m.now.place (λ (r : Lines). GivesStmts c.turns.result r.1) (java_stmt_view c.args.s.now) _ (label_texts c.args.labels.now) (exits_view c.args.x.now) ls q (while_is c.args.s.now c.deref-in-While.result.now c.in-While.field-0 c.in-While.c c.in-While.body c.in-While.is c.deref-in-While.ensures) (c.turns.ensures.stmts q ls h)

pub lines-returns-in-For-clause-stands : goal.lines-returns-in-For-clause-stands
lines-returns-in-For-clause-stands g t c = λ q ls h.
    told (g.D.Declares.declarations c.args.m.now.declared.now) c.args.m.now.place (λ (r : Lines). Stands c.turns-rest.new.p (g.S.InScope.scope c.leave-in-For.new.self).locals r.0 ls) (java_stmt_view c.args.s.now) _ (label_texts c.args.labels.now) (exits_view c.args.x.now) ls q (for_is c.args.s.now (option_copied c.as_ref.result) c.deref-in-For.result.now c.deref-in-For-2.result.now c.in-For.field-0 c.in-For.start c.in-For.c c.in-For.update c.in-For.body c.in-For.is c.as_ref.ensures.value c.deref-in-For.ensures.value c.deref-in-For-2.ensures) (left c.args.p.now c.turns-rest.new.p (g.S.InScope.scope c.args.scope.now) (g.S.InScope.scope c.turns-rest.new.scope) (g.S.InScope.scope c.leave-in-For.new.self) ls (start (g.D.Declares.declarations c.args.m.now.declared.now) c.args.m.now.place (for_start_view c.in-For.start) ls q).locals q (loop_lines (loop_of (g.D.Declares.declarations c.args.m.now.declared.now) c.args.m.now.place (label_texts c.args.labels.now) (start (g.D.Declares.declarations c.args.m.now.declared.now) c.args.m.now.place (for_start_view c.in-For.start) ls q).locals (option_map java_view (option_copied c.as_ref.result)) (map java_view c.deref-in-For.result.now) (java_stmt_view c.deref-in-For-2.result.now)) (exits_view c.args.x.now) (start (g.D.Declares.declarations c.args.m.now.declared.now) c.args.m.now.place (for_start_view c.in-For.start) ls q).lines.0).0 c.mark-mark-in-For.result (λ w. c.started-first.ensures.works (c.turns-rest.ensures.works w)) h (c.turns-rest.ensures.stands (start (g.D.Declares.declarations c.args.m.now.declared.now) c.args.m.now.place (for_start_view c.in-For.start) ls q).lines.0 (start (g.D.Declares.declarations c.args.m.now.declared.now) c.args.m.now.place (for_start_view c.in-For.start) ls q).locals (c.started-first.ensures.stands q ls h)) (start_within (g.D.Declares.declarations c.args.m.now.declared.now) c.args.m.now.place (for_start_view c.in-For.start) ls q) c.mark-mark-in-For.ensures c.leave-in-For.ensures)

pub lines-returns-in-For-clause-stmts : goal.lines-returns-in-For-clause-stmts
lines-returns-in-For-clause-stmts g t c = λ q ls h.
    told (g.D.Declares.declarations c.args.m.now.declared.now) c.args.m.now.place (λ (r : Lines). GivesStmts c.appended_stmts.result r.1) (java_stmt_view c.args.s.now) _ (label_texts c.args.labels.now) (exits_view c.args.x.now) ls q (for_is c.args.s.now (option_copied c.as_ref.result) c.deref-in-For.result.now c.deref-in-For-2.result.now c.in-For.field-0 c.in-For.start c.in-For.c c.in-For.update c.in-For.body c.in-For.is c.as_ref.ensures.value c.deref-in-For.ensures.value c.deref-in-For-2.ensures) (c.appended_stmts.ensures (start (g.D.Declares.declarations c.args.m.now.declared.now) c.args.m.now.place (for_start_view c.in-For.start) ls q).lines.1 (loop_lines (loop_of (g.D.Declares.declarations c.args.m.now.declared.now) c.args.m.now.place (label_texts c.args.labels.now) (start (g.D.Declares.declarations c.args.m.now.declared.now) c.args.m.now.place (for_start_view c.in-For.start) ls q).locals (option_map java_view (option_copied c.as_ref.result)) (map java_view c.deref-in-For.result.now) (java_stmt_view c.deref-in-For-2.result.now)) (exits_view c.args.x.now) (start (g.D.Declares.declarations c.args.m.now.declared.now) c.args.m.now.place (for_start_view c.in-For.start) ls q).lines.0).1 (c.started-first.ensures.stmts q ls h) (c.turns-rest.ensures.stmts (start (g.D.Declares.declarations c.args.m.now.declared.now) c.args.m.now.place (for_start_view c.in-For.start) ls q).lines.0 (start (g.D.Declares.declarations c.args.m.now.declared.now) c.args.m.now.place (for_start_view c.in-For.start) ls q).locals (c.started-first.ensures.stands q ls h)))

pub lines-returns-in-Break-clause-stands : goal.lines-returns-in-Break-clause-stands
lines-returns-in-Break-clause-stands g t c = λ q ls h.
    told (g.D.Declares.declarations c.args.m.now.declared.now) c.args.m.now.place (λ (r : Lines). Stands c.args.p.now (g.S.InScope.scope c.args.scope.now).locals r.0 ls) (java_stmt_view c.args.s.now) _ (label_texts c.args.labels.now) (exits_view c.args.x.now) ls q (break_is c.args.s.now c.in-Break.l c.in-Break.is) h

pub lines-returns-in-Break-clause-stmts : goal.lines-returns-in-Break-clause-stmts
lines-returns-in-Break-clause-stmts g t c = λ q ls h.
    told (g.D.Declares.declarations c.args.m.now.declared.now) c.args.m.now.place (λ (r : Lines). GivesStmts c.one_stmt-in-Break.result r.1) (java_stmt_view c.args.s.now) _ (label_texts c.args.labels.now) (exits_view c.args.x.now) ls q (break_is c.args.s.now c.in-Break.l c.in-Break.is) (c.one_stmt-in-Break.ensures _ (c.break_to.ensures _ c.break_exit.ensures))

pub lines-returns-in-Continue-clause-stands : goal.lines-returns-in-Continue-clause-stands
lines-returns-in-Continue-clause-stands g t c = λ q ls h.
    told (g.D.Declares.declarations c.args.m.now.declared.now) c.args.m.now.place (λ (r : Lines). Stands c.args.p.now (g.S.InScope.scope c.args.scope.now).locals r.0 ls) (java_stmt_view c.args.s.now) _ (label_texts c.args.labels.now) (exits_view c.args.x.now) ls q (continue_is c.args.s.now c.in-Continue.l c.in-Continue.is) h

pub lines-returns-in-Continue-clause-stmts : goal.lines-returns-in-Continue-clause-stmts
lines-returns-in-Continue-clause-stmts g t c = λ q ls h.
    told (g.D.Declares.declarations c.args.m.now.declared.now) c.args.m.now.place (λ (r : Lines). GivesStmts c.one_stmt-in-Continue.result r.1) (java_stmt_view c.args.s.now) _ (label_texts c.args.labels.now) (exits_view c.args.x.now) ls q (continue_is c.args.s.now c.in-Continue.l c.in-Continue.is) (c.one_stmt-in-Continue.ensures _ (c.break_to-in-Continue.ensures _ c.continue_exit.ensures))

pub lines-returns-in-Return-clause-stands : goal.lines-returns-in-Return-clause-stands
lines-returns-in-Return-clause-stands g t c = λ q ls h.
    told (g.D.Declares.declarations c.args.m.now.declared.now) c.args.m.now.place (λ (r : Lines). Stands c.returned_code.new.p (g.S.InScope.scope c.args.scope.now).locals r.0 ls) (java_stmt_view c.args.s.now) _ (label_texts c.args.labels.now) (exits_view c.args.x.now) ls q (return_is c.args.s.now c.in-Return.e c.in-Return.is) (c.returned_code.ensures.stands q ls h)

pub lines-returns-in-Return-clause-stmts : goal.lines-returns-in-Return-clause-stmts
lines-returns-in-Return-clause-stmts g t c = λ q ls h.
    told (g.D.Declares.declarations c.args.m.now.declared.now) c.args.m.now.place (λ (r : Lines). GivesStmts c.returned_code.result r.1) (java_stmt_view c.args.s.now) _ (label_texts c.args.labels.now) (exits_view c.args.x.now) ls q (return_is c.args.s.now c.in-Return.e c.in-Return.is) (c.returned_code.ensures.stmts q ls h)

pub lines-returns-in-Throw-clause-stands : goal.lines-returns-in-Throw-clause-stands
lines-returns-in-Throw-clause-stands g t c = λ q ls h.
    told (g.D.Declares.declarations c.args.m.now.declared.now) c.args.m.now.place (λ (r : Lines). Stands c.expr_code.new.p (g.S.InScope.scope c.args.scope.now).locals r.0 ls) (java_stmt_view c.args.s.now) _ (label_texts c.args.labels.now) (exits_view c.args.x.now) ls q (throw_is c.args.s.now c.in-Throw.e c.in-Throw.is) (c.expr_code.ensures.stands q ls h)

pub lines-returns-in-Throw-clause-stmts : goal.lines-returns-in-Throw-clause-stmts
lines-returns-in-Throw-clause-stmts g t c = λ q ls h.
    told (g.D.Declares.declarations c.args.m.now.declared.now) c.args.m.now.place (λ (r : Lines). GivesStmts c.one_stmt-in-Throw.result r.1) (java_stmt_view c.args.s.now) _ (label_texts c.args.labels.now) (exits_view c.args.x.now) ls q (throw_is c.args.s.now c.in-Throw.e c.in-Throw.is) (c.one_stmt-in-Throw.ensures _ (c.thrown.ensures _ (c.expr_code.ensures.value q ls h)))

pub lines-returns-in-Try-clause-stands : goal.lines-returns-in-Try-clause-stands
lines-returns-in-Try-clause-stands g t c = λ q ls h.
    told (g.D.Declares.declarations c.args.m.now.declared.now) c.args.m.now.place (λ (r : Lines). Stands c.tried.new.p (g.S.InScope.scope c.tried.new.scope).locals r.0 ls) (java_stmt_view c.args.s.now) _ (label_texts c.args.labels.now) (exits_view c.args.x.now) ls q (try_is c.args.s.now c.deref-in-Try.result.now c.deref-in-Try-2.result.now c.in-Try.ss c.in-Try.hs c.in-Try.is c.deref-in-Try.ensures.value c.deref-in-Try-2.ensures.value) (c.tried.ensures.stands q ls h)

pub lines-returns-in-Try-clause-stmts : goal.lines-returns-in-Try-clause-stmts
lines-returns-in-Try-clause-stmts g t c = λ q ls h.
    told (g.D.Declares.declarations c.args.m.now.declared.now) c.args.m.now.place (λ (r : Lines). GivesStmts c.tried.result r.1) (java_stmt_view c.args.s.now) _ (label_texts c.args.labels.now) (exits_view c.args.x.now) ls q (try_is c.args.s.now c.deref-in-Try.result.now c.deref-in-Try-2.result.now c.in-Try.ss c.in-Try.hs c.in-Try.is c.deref-in-Try.ensures.value c.deref-in-Try-2.ensures.value) (c.tried.ensures.stmts q ls h)

pub lines-returns-in-TryFinally-clause-stands : goal.lines-returns-in-TryFinally-clause-stands
lines-returns-in-TryFinally-clause-stands g t c = λ q ls h.
    told (g.D.Declares.declarations c.args.m.now.declared.now) c.args.m.now.place (λ (r : Lines). Stands c.block-last.new.p (g.S.InScope.scope c.block-last.new.scope).locals r.0 ls) (java_stmt_view c.args.s.now) _ (label_texts c.args.labels.now) (exits_view c.args.x.now) ls q (finally_is c.args.s.now c.deref-in-TryFinally.result.now c.deref-in-TryFinally-2.result.now c.deref-in-TryFinally-3.result.now c.in-TryFinally.ss c.in-TryFinally.hs c.in-TryFinally.fs c.in-TryFinally.is c.deref-in-TryFinally.ensures.value c.deref-in-TryFinally-2.ensures.value c.deref-in-TryFinally-3.ensures.value) (c.block-last.ensures.stands (tried_lines (g.D.Declares.declarations c.args.m.now.declared.now) c.args.m.now.place (java_stmts (map java_stmt_view c.deref-in-TryFinally.result.now)) (java_handlers (map java_handler_view c.deref-in-TryFinally-2.result.now)) (exits_view c.args.x.now) ls q).0 ls (c.tried-made.ensures.stands q ls h))

pub lines-returns-in-TryFinally-clause-stmts : goal.lines-returns-in-TryFinally-clause-stmts
lines-returns-in-TryFinally-clause-stmts g t c = λ q ls h.
    told (g.D.Declares.declarations c.args.m.now.declared.now) c.args.m.now.place (λ (r : Lines). GivesStmts c.one_stmt-in-TryFinally.result r.1) (java_stmt_view c.args.s.now) _ (label_texts c.args.labels.now) (exits_view c.args.x.now) ls q (finally_is c.args.s.now c.deref-in-TryFinally.result.now c.deref-in-TryFinally-2.result.now c.deref-in-TryFinally-3.result.now c.in-TryFinally.ss c.in-TryFinally.hs c.in-TryFinally.fs c.in-TryFinally.is c.deref-in-TryFinally.ensures.value c.deref-in-TryFinally-2.ensures.value c.deref-in-TryFinally-3.ensures.value) (c.one_stmt-in-TryFinally.ensures _ (c.finally.ensures (tried_lines (g.D.Declares.declarations c.args.m.now.declared.now) c.args.m.now.place (java_stmts (map java_stmt_view c.deref-in-TryFinally.result.now)) (java_handlers (map java_handler_view c.deref-in-TryFinally-2.result.now)) (exits_view c.args.x.now) ls q).1 (block_lines (g.D.Declares.declarations c.args.m.now.declared.now) c.args.m.now.place (java_stmts (map java_stmt_view c.deref-in-TryFinally-3.result.now)) (exits_view c.args.x.now) ls (tried_lines (g.D.Declares.declarations c.args.m.now.declared.now) c.args.m.now.place (java_stmts (map java_stmt_view c.deref-in-TryFinally.result.now)) (java_handlers (map java_handler_view c.deref-in-TryFinally-2.result.now)) (exits_view c.args.x.now) ls q).0).1 (c.tried-made.ensures.stmts q ls h) (c.block-last.ensures.stmts (tried_lines (g.D.Declares.declarations c.args.m.now.declared.now) c.args.m.now.place (java_stmts (map java_stmt_view c.deref-in-TryFinally.result.now)) (java_handlers (map java_handler_view c.deref-in-TryFinally-2.result.now)) (exits_view c.args.x.now) ls q).0 ls (c.tried-made.ensures.stands q ls h))))

pub lines-returns-in-Super-clause-stands : goal.lines-returns-in-Super-clause-stands
lines-returns-in-Super-clause-stands g t c = λ q ls h.
    told (g.D.Declares.declarations c.args.m.now.declared.now) c.args.m.now.place (λ (r : Lines). Stands c.above.new.p (g.S.InScope.scope c.args.scope.now).locals r.0 ls) (java_stmt_view c.args.s.now) _ (label_texts c.args.labels.now) (exits_view c.args.x.now) ls q (super_is c.args.s.now c.deref-in-Super.result.now c.in-Super.es c.in-Super.is c.deref-in-Super.ensures.value) (c.above.ensures.stands q ls h)

pub lines-returns-in-Super-clause-stmts : goal.lines-returns-in-Super-clause-stmts
lines-returns-in-Super-clause-stmts g t c = λ q ls h.
    told (g.D.Declares.declarations c.args.m.now.declared.now) c.args.m.now.place (λ (r : Lines). GivesStmts c.above.result r.1) (java_stmt_view c.args.s.now) _ (label_texts c.args.labels.now) (exits_view c.args.x.now) ls q (super_is c.args.s.now c.deref-in-Super.result.now c.in-Super.es c.in-Super.is c.deref-in-Super.ensures.value) (c.above.ensures.stmts q ls h)

pub bare-returns-clause-stands : goal.bare-returns-clause-stands
bare-returns-clause-stands g t c = λ q ls h. subst (λ l. Stands c.lines.new.p (g.S.InScope.scope c.lines.new.scope).locals (lines (g.D.Declares.declarations c.args.m.now.declared.now) c.args.m.now.place (java_stmt_view c.args.s.now) l (exits_view c.args.x.now) ls q).lines.0 ls) c.no_labels.ensures (c.lines.ensures.stands q ls h)

pub bare-returns-clause-stmts : goal.bare-returns-clause-stmts
bare-returns-clause-stmts g t c = λ q ls h. subst (λ l. GivesStmts c.lines.result (lines (g.D.Declares.declarations c.args.m.now.declared.now) c.args.m.now.place (java_stmt_view c.args.s.now) l (exits_view c.args.x.now) ls q).lines.1) c.no_labels.ensures (c.lines.ensures.stmts q ls h)

pub step-returns-else-is_declaration-clause-stands : goal.step-returns-else-is_declaration-clause-stands
step-returns-else-is_declaration-clause-stands g t c = λ q ls h. subst (λ l. Stands c.bare.new.p (g.S.InScope.scope c.bare.new.scope).locals (lines (g.D.Declares.declarations c.args.m.now.declared.now) c.args.m.now.place (java_stmt_view c.args.s.now) [] (exits_view c.args.x.now) ls q).lines.0 l) (sym (stays (g.D.Declares.declarations c.args.m.now.declared.now) c.args.m.now.place (java_stmt_view c.args.s.now) [] (exits_view c.args.x.now) ls q (sym c.is_declaration.ensures ∙ c.if-is_declaration.false))) (c.bare.ensures.stands q ls h)

pub block-loop-s-init : goal.block-loop-s-init
block-loop-s-init g t c = (λ q ls h. ([], q, ls, h, c.no_stmts-made.ensures, ([], refl), block_begin (g.D.Declares.declarations c.args.m.now.declared.now) c.args.m.now.place (java_stmts (map java_stmt_view c.args.ss.now)) (exits_view c.args.x.now) ls q), (λ w. w), c.mark-mark.ensures)

pub block-loop-s-preserved : goal.block-loop-s-preserved
block-loop-s-preserved g t c = (
  λ q ls h.
      let i = c.loop-s.invariant.0 q ls h in (
        i.0 ++ (lines (g.D.Declares.declarations c.args.m.now.declared.now) c.args.m.now.place (java_stmt_view c.s-item.result) [] (exits_view c.args.x.now) i.2 i.1).lines.1,
        (lines (g.D.Declares.declarations c.args.m.now.declared.now) c.args.m.now.place (java_stmt_view c.s-item.result) [] (exits_view c.args.x.now) i.2 i.1).lines.0,
        (lines (g.D.Declares.declarations c.args.m.now.declared.now) c.args.m.now.place (java_stmt_view c.s-item.result) [] (exits_view c.args.x.now) i.2 i.1).locals,
        c.step.ensures.stands i.1 i.2 i.3,
        c.appended_stmts-made.ensures i.0 (lines (g.D.Declares.declarations c.args.m.now.declared.now) c.args.m.now.place (java_stmt_view c.s-item.result) [] (exits_view c.args.x.now) i.2 i.1).lines.1 i.4 (c.step.ensures.stmts i.1 i.2 i.3),
        within_both (g.D.Declares.declarations c.args.m.now.declared.now) c.args.m.now.place (lines (g.D.Declares.declarations c.args.m.now.declared.now) c.args.m.now.place (java_stmt_view c.s-item.result) [] (exits_view c.args.x.now) i.2 i.1).locals i.2 ls (line_within (g.D.Declares.declarations c.args.m.now.declared.now) c.args.m.now.place (java_stmt_view c.s-item.result) [] (exits_view c.args.x.now) i.2 i.1) i.5,
        next_stmt (g.D.Declares.declarations c.args.m.now.declared.now) c.args.m.now.place c.args.ss.now c.loop-s.s-index c.s-item.result i.0 (exits_view c.args.x.now) i.2 i.1 (block_lines (g.D.Declares.declarations c.args.m.now.declared.now) c.args.m.now.place (java_stmts (map java_stmt_view c.args.ss.now)) (exits_view c.args.x.now) ls q) c.loop-s-test.true c.s-item.is i.6,
      ),
  (λ w. c.loop-s.invariant.1 (c.step.ensures.works w)),
  c.loop-s.invariant.2,
)

pub block-returns-clause-stands : goal.block-returns-clause-stands
block-returns-clause-stands g t c = λ q ls h.
    let i = c.loop-s.invariant.0 q ls h in
    let all = block_end (g.D.Declares.declarations c.args.m.now.declared.now) c.args.m.now.place c.args.ss.now c.loop-s.s-index i.0 (exits_view c.args.x.now) i.2 i.1 (block_lines (g.D.Declares.declarations c.args.m.now.declared.now) c.args.m.now.place (java_stmts (map java_stmt_view c.args.ss.now)) (exits_view c.args.x.now) ls q) (omega (arith, c.loop-s-test.false)) i.6 in
    left c.args.p.now c.loop-s.p (g.S.InScope.scope c.args.scope.now) (g.S.InScope.scope c.loop-s.scope) (g.S.InScope.scope c.leave.new.self) ls i.2 q (block_lines (g.D.Declares.declarations c.args.m.now.declared.now) c.args.m.now.place (java_stmts (map java_stmt_view c.args.ss.now)) (exits_view c.args.x.now) ls q).0 c.mark-mark.result c.loop-s.invariant.1 h (subst (λ (r : Lines). Stands c.loop-s.p (g.S.InScope.scope c.loop-s.scope).locals r.0 i.2) all i.3) i.5 c.mark-mark.ensures c.leave.ensures

pub block-returns-clause-stmts : goal.block-returns-clause-stmts
block-returns-clause-stmts g t c = λ q ls h.
    let i = c.loop-s.invariant.0 q ls h in
    subst (λ (r : Lines). GivesStmts c.loop-s.made r.1) (block_end (g.D.Declares.declarations c.args.m.now.declared.now) c.args.m.now.place c.args.ss.now c.loop-s.s-index i.0 (exits_view c.args.x.now) i.2 i.1 (block_lines (g.D.Declares.declarations c.args.m.now.declared.now) c.args.m.now.place (java_stmts (map java_stmt_view c.args.ss.now)) (exits_view c.args.x.now) ls q) (omega (arith, c.loop-s-test.false)) i.6) i.4

pub handlers-loop-h-init : goal.handlers-loop-h-init
handlers-loop-h-init g t c = (λ q ls h. ([], q, h, c.no_parts-parts.ensures, parts_begin (g.D.Declares.declarations c.args.m.now.declared.now) c.args.m.now.place (java_handlers (map java_handler_view c.args.hs.now)) (exits_view c.args.x.now) ls q), λ w. w)

pub handlers-loop-h-preserved : goal.handlers-loop-h-preserved
handlers-loop-h-preserved g t c = (
  λ q ls h.
      let i = c.loop-h.invariant.0 q ls h in (
        i.0 ++ (part_of (g.D.Declares.declarations c.args.m.now.declared.now) c.args.m.now.place (java_handler_view c.h-item.result) (exits_view c.args.x.now) ls i.1).1 ∷ [],
        (part_of (g.D.Declares.declarations c.args.m.now.declared.now) c.args.m.now.place (java_handler_view c.h-item.result) (exits_view c.args.x.now) ls i.1).0,
        c.handler.ensures.stands i.1 ls i.2,
        c.with_part-parts.ensures i.0 (part_of (g.D.Declares.declarations c.args.m.now.declared.now) c.args.m.now.place (java_handler_view c.h-item.result) (exits_view c.args.x.now) ls i.1).1 i.3 (c.handler.ensures.part i.1 ls i.2),
        next_part (g.D.Declares.declarations c.args.m.now.declared.now) c.args.m.now.place c.args.hs.now c.loop-h.h-index c.h-item.result i.0 (exits_view c.args.x.now) ls i.1 (handler_parts (g.D.Declares.declarations c.args.m.now.declared.now) c.args.m.now.place (java_handlers (map java_handler_view c.args.hs.now)) (exits_view c.args.x.now) ls q) c.loop-h-test.true c.h-item.is i.4,
      ),
  λ w. c.loop-h.invariant.1 (c.handler.ensures.works w),
)

pub handler-returns-clause-stands : goal.handler-returns-clause-stands
handler-returns-clause-stands g t c = λ q ls h.
    handler_told (g.D.Declares.declarations c.args.m.now.declared.now) c.args.m.now.place (λ (r : Progress × PlainPart). Stands c.block-made.new.p (g.S.InScope.scope c.leave.new.self).locals r.0 ls) (java_handler_view c.args.h.now) (out-Handler c.args.h.now).at (identifier_view (out-Handler c.args.h.now).class) (identifier_view (out-Handler c.args.h.now).name) (java_stmts (map java_stmt_view (out-Handler c.args.h.now).body.items)) c.one_class-class.result c.deref-name.result.now (java_stmts (map java_stmt_view c.deref-2.result.now)) (exits_view c.args.x.now) ls q (is_handler c.args.h.now)
    (c.one_class-class.ensures ∙ ap (λ n. class_number ((g.D.Declares.declarations c.args.m.now.declared.now).class_named n)) c.deref.ensures.value) c.deref-name.ensures.value (ap (λ (l : List Stmt). java_stmts (map java_stmt_view l)) c.deref-2.ensures.value)
    (left c.args.p.now c.block-made.new.p (g.S.InScope.scope c.args.scope.now) (g.S.InScope.scope c.block-made.new.scope) (g.S.InScope.scope c.leave.new.self) ls (local_of c.deref-name.result.now (types.Class c.one_class-class.result) ∷ ls) q (block_lines (g.D.Declares.declarations c.args.m.now.declared.now) c.args.m.now.place (java_stmts (map java_stmt_view c.deref-2.result.now)) (exits_view c.args.x.now) (local_of c.deref-name.result.now (types.Class c.one_class-class.result) ∷ ls) (with_local c.deref-name.result.now (types.Class c.one_class-class.result) q)).0 c.mark-mark.result (λ w. c.enter.ensures.works (c.block-made.ensures.works w)) h (c.block-made.ensures.stands (with_local c.deref-name.result.now (types.Class c.one_class-class.result) q) (local_of c.deref-name.result.now (types.Class c.one_class-class.result) ∷ ls) (c.enter.ensures.stands q ls h)) (local_of c.deref-name.result.now (types.Class c.one_class-class.result) ∷ [], refl) c.mark-mark.ensures c.leave.ensures)

pub handler-returns-clause-part : goal.handler-returns-clause-part
handler-returns-clause-part g t c = λ q ls h.
    handler_told (g.D.Declares.declarations c.args.m.now.declared.now) c.args.m.now.place (λ (r : Progress × PlainPart). GivesPart c.handler_part.result r.1) (java_handler_view c.args.h.now) (out-Handler c.args.h.now).at (identifier_view (out-Handler c.args.h.now).class) (identifier_view (out-Handler c.args.h.now).name) (java_stmts (map java_stmt_view (out-Handler c.args.h.now).body.items)) c.one_class-class.result c.deref-name.result.now (java_stmts (map java_stmt_view c.deref-2.result.now)) (exits_view c.args.x.now) ls q (is_handler c.args.h.now)
    (c.one_class-class.ensures ∙ ap (λ n. class_number ((g.D.Declares.declarations c.args.m.now.declared.now).class_named n)) c.deref.ensures.value) c.deref-name.ensures.value (ap (λ (l : List Stmt). java_stmts (map java_stmt_view l)) c.deref-2.ensures.value)
    (c.handler_part.ensures (local_name (with_local c.deref-name.result.now (types.Class c.one_class-class.result) q).names c.deref-name.result.now (types.Class c.one_class-class.result)) (block_lines (g.D.Declares.declarations c.args.m.now.declared.now) c.args.m.now.place (java_stmts (map java_stmt_view c.deref-2.result.now)) (exits_view c.args.x.now) (local_of c.deref-name.result.now (types.Class c.one_class-class.result) ∷ ls) (with_local c.deref-name.result.now (types.Class c.one_class-class.result) q)).1 (c.local-local.ensures (with_local c.deref-name.result.now (types.Class c.one_class-class.result) q) (there c.enter.new.p (g.S.InScope.scope c.enter.new.scope).locals (local_of c.deref-name.result.now (types.Class c.one_class-class.result) ∷ ls) (with_local c.deref-name.result.now (types.Class c.one_class-class.result) q) (c.enter.ensures.stands q ls h))) (c.block-made.ensures.stmts (with_local c.deref-name.result.now (types.Class c.one_class-class.result) q) (local_of c.deref-name.result.now (types.Class c.one_class-class.result) ∷ ls) (c.enter.ensures.stands q ls h)))

pub turns-returns-in-Ok-clause-stands : goal.turns-returns-in-Ok-clause-stands
turns-returns-in-Ok-clause-stands g t c = λ q ls h.
    turns_told (g.D.Declares.declarations c.args.m.now.declared.now) c.args.m.now.place (λ (r : Lines). Stands c.effects-last.new.p (g.S.InScope.scope c.bare-made.new.scope).locals r.0 ls) (label_texts c.args.labels.now) (option_map java_view (option_copied c.args.t.condition)) (map java_view c.args.t.update.now) (java_stmt_view c.args.t.body.now) (exits_view c.args.x.now) (exits_view c.in_loop-y.result) ls q c.leaves_loop-leaves.result c.repeats_loop-repeats.result (numbers_view c.in-Ok.n) c.leaves_loop-leaves.ensures c.repeats_loop-repeats.ensures
    (subst (λ r. GivesNumbers r (head_of c.leaves_loop-leaves.result c.repeats_loop-repeats.result ls (condition_code (code_of (g.D.Declares.declarations c.args.m.now.declared.now) c.args.m.now.place ls) (option_map java_view (option_copied c.args.t.condition))) q).numbers) c.in-Ok.is (c.loop_head-numbers.ensures.numbers q ls h)) c.in_loop-y.ensures
    (c.effects-last.ensures.stands (lines (g.D.Declares.declarations c.args.m.now.declared.now) c.args.m.now.place (java_stmt_view c.args.t.body.now) [] (exits_view c.in_loop-y.result) ls (head_of c.leaves_loop-leaves.result c.repeats_loop-repeats.result ls (condition_code (code_of (g.D.Declares.declarations c.args.m.now.declared.now) c.args.m.now.place ls) (option_map java_view (option_copied c.args.t.condition))) q).progress).lines.0 ls (c.bare-made.ensures.stands (head_of c.leaves_loop-leaves.result c.repeats_loop-repeats.result ls (condition_code (code_of (g.D.Declares.declarations c.args.m.now.declared.now) c.args.m.now.place ls) (option_map java_view (option_copied c.args.t.condition))) q).progress ls (c.loop_head-numbers.ensures.stands q ls h)))

pub turns-returns-in-Ok-clause-stmts : goal.turns-returns-in-Ok-clause-stmts
turns-returns-in-Ok-clause-stmts g t c = λ q ls h.
    turns_told (g.D.Declares.declarations c.args.m.now.declared.now) c.args.m.now.place (λ (r : Lines). GivesStmts c.looped.result r.1) (label_texts c.args.labels.now) (option_map java_view (option_copied c.args.t.condition)) (map java_view c.args.t.update.now) (java_stmt_view c.args.t.body.now) (exits_view c.args.x.now) (exits_view c.in_loop-y.result) ls q c.leaves_loop-leaves.result c.repeats_loop-repeats.result (numbers_view c.in-Ok.n) c.leaves_loop-leaves.ensures c.repeats_loop-repeats.ensures
    (subst (λ r. GivesNumbers r (head_of c.leaves_loop-leaves.result c.repeats_loop-repeats.result ls (condition_code (code_of (g.D.Declares.declarations c.args.m.now.declared.now) c.args.m.now.place ls) (option_map java_view (option_copied c.args.t.condition))) q).numbers) c.in-Ok.is (c.loop_head-numbers.ensures.numbers q ls h)) c.in_loop-y.ensures
    (c.looped.ensures (head_of c.leaves_loop-leaves.result c.repeats_loop-repeats.result ls (condition_code (code_of (g.D.Declares.declarations c.args.m.now.declared.now) c.args.m.now.place ls) (option_map java_view (option_copied c.args.t.condition))) q).condition (lines (g.D.Declares.declarations c.args.m.now.declared.now) c.args.m.now.place (java_stmt_view c.args.t.body.now) [] (exits_view c.in_loop-y.result) ls (head_of c.leaves_loop-leaves.result c.repeats_loop-repeats.result ls (condition_code (code_of (g.D.Declares.declarations c.args.m.now.declared.now) c.args.m.now.place ls) (option_map java_view (option_copied c.args.t.condition))) q).progress).lines.1 (effects_lines (g.D.Declares.declarations c.args.m.now.declared.now) c.args.m.now.place ls (map java_view c.args.t.update.now) (lines (g.D.Declares.declarations c.args.m.now.declared.now) c.args.m.now.place (java_stmt_view c.args.t.body.now) [] (exits_view c.in_loop-y.result) ls (head_of c.leaves_loop-leaves.result c.repeats_loop-repeats.result ls (condition_code (code_of (g.D.Declares.declarations c.args.m.now.declared.now) c.args.m.now.place ls) (option_map java_view (option_copied c.args.t.condition))) q).progress).lines.0).1 (c.loop_head-numbers.ensures.condition q ls h) (c.bare-made.ensures.stmts (head_of c.leaves_loop-leaves.result c.repeats_loop-repeats.result ls (condition_code (code_of (g.D.Declares.declarations c.args.m.now.declared.now) c.args.m.now.place ls) (option_map java_view (option_copied c.args.t.condition))) q).progress ls (c.loop_head-numbers.ensures.stands q ls h)) (c.effects-last.ensures.stmts (lines (g.D.Declares.declarations c.args.m.now.declared.now) c.args.m.now.place (java_stmt_view c.args.t.body.now) [] (exits_view c.in_loop-y.result) ls (head_of c.leaves_loop-leaves.result c.repeats_loop-repeats.result ls (condition_code (code_of (g.D.Declares.declarations c.args.m.now.declared.now) c.args.m.now.place ls) (option_map java_view (option_copied c.args.t.condition))) q).progress).lines.0 ls (c.bare-made.ensures.stands (head_of c.leaves_loop-leaves.result c.repeats_loop-repeats.result ls (condition_code (code_of (g.D.Declares.declarations c.args.m.now.declared.now) c.args.m.now.place ls) (option_map java_view (option_copied c.args.t.condition))) q).progress ls (c.loop_head-numbers.ensures.stands q ls h))))

pub lines-block-requires : goal.lines-block-requires
lines-block-requires g t c κs within = (block_falls c.args.s.now c.in-Block.ss c.deref.result.now t c.in-Block.is c.deref.ensures.value c.decreases, within)

pub lines-turns-requires : goal.lines-turns-requires
lines-turns-requires g t c κs within = (while_falls c.args.s.now c.in-While.field-0 c.in-While.c c.in-While.body c.deref-in-While.result.now t c.in-While.is c.deref-in-While.ensures c.decreases, within)

pub lines-turns-rest-requires : goal.lines-turns-rest-requires
lines-turns-rest-requires g t c κs within = (for_falls c.args.s.now c.in-For.field-0 c.in-For.start c.in-For.c c.in-For.update c.in-For.body c.deref-in-For-2.result.now t c.in-For.is c.deref-in-For-2.ensures c.decreases, within)

pub lines-tried-requires : goal.lines-tried-requires
lines-tried-requires g t c κs within = (try_falls c.args.s.now c.in-Try.ss c.in-Try.hs c.deref-in-Try.result.now c.deref-in-Try-2.result.now t c.in-Try.is c.deref-in-Try.ensures.value c.deref-in-Try-2.ensures.value c.decreases, within)

pub lines-tried-made-requires : goal.lines-tried-made-requires
lines-tried-made-requires g t c κs within = (finally_falls c.args.s.now c.in-TryFinally.ss c.in-TryFinally.hs c.in-TryFinally.fs c.deref-in-TryFinally.result.now c.deref-in-TryFinally-2.result.now t c.in-TryFinally.is c.deref-in-TryFinally.ensures.value c.deref-in-TryFinally-2.ensures.value c.decreases, within)

pub lines-block-last-requires : goal.lines-block-last-requires
lines-block-last-requires g t c κs within = (last_falls c.args.s.now c.in-TryFinally.ss c.in-TryFinally.hs c.in-TryFinally.fs c.deref-in-TryFinally-3.result.now t c.in-TryFinally.is c.deref-in-TryFinally-3.ensures.value c.decreases, within)

pub handler-block-made-requires : goal.handler-block-made-requires
handler-block-made-requires g t c κs within = (handler_falls c.args.h.now c.deref-2.result.now t c.deref-2.ensures.value c.decreases, within)

pub handlers-returns-clause-stands : goal.handlers-returns-clause-stands
handlers-returns-clause-stands g t c = λ q ls h.
    let i = c.loop-h.invariant.0 q ls h in
    subst (λ (r : Progress × List PlainPart). Stands c.loop-h.p (g.S.InScope.scope c.loop-h.scope).locals r.0 ls) (parts_end (g.D.Declares.declarations c.args.m.now.declared.now) c.args.m.now.place c.args.hs.now c.loop-h.h-index i.0 (exits_view c.args.x.now) ls i.1 (handler_parts (g.D.Declares.declarations c.args.m.now.declared.now) c.args.m.now.place (java_handlers (map java_handler_view c.args.hs.now)) (exits_view c.args.x.now) ls q) (omega (arith, c.loop-h-test.false)) i.4) i.2

pub handlers-returns-clause-parts : goal.handlers-returns-clause-parts
handlers-returns-clause-parts g t c = λ q ls h.
    let i = c.loop-h.invariant.0 q ls h in
    subst (λ (r : Progress × List PlainPart). GivesParts c.loop-h.parts r.1) (parts_end (g.D.Declares.declarations c.args.m.now.declared.now) c.args.m.now.place c.args.hs.now c.loop-h.h-index i.0 (exits_view c.args.x.now) ls i.1 (handler_parts (g.D.Declares.declarations c.args.m.now.declared.now) c.args.m.now.place (java_handlers (map java_handler_view c.args.hs.now)) (exits_view c.args.x.now) ls q) (omega (arith, c.loop-h-test.false)) i.4) i.3

pub lines-lines-made-requires : goal.lines-lines-made-requires
lines-lines-made-requires g t c κs within = (label_falls c.args.s.now c.in-Label.field-0 c.in-Label.l c.in-Label.inner c.deref-inner.result.now t c.in-Label.is c.deref-inner.ensures c.decreases, within)

pub lines-bare-first-requires : goal.lines-bare-first-requires
lines-bare-first-requires g t c κs within = (if_falls c.args.s.now c.in-If.c c.in-If.inner c.deref-in-If.result.now t c.in-If.is c.deref-in-If.ensures c.decreases, within)

pub lines-bare-first-requires-in-IfElse : goal.lines-bare-first-requires-in-IfElse
lines-bare-first-requires-in-IfElse g t c κs within = (else_falls c.args.s.now c.in-IfElse.c c.in-IfElse.inner c.in-IfElse.other c.deref-in-IfElse.result.now t c.in-IfElse.is c.deref-in-IfElse.ensures c.decreases, within)

pub lines-bare-second-requires : goal.lines-bare-second-requires
lines-bare-second-requires g t c κs within = (other_falls c.args.s.now c.in-IfElse.c c.in-IfElse.inner c.in-IfElse.other c.deref-in-IfElse-2.result.now t c.in-IfElse.is c.deref-in-IfElse-2.ensures c.decreases, within)

pub step-returns-then-is_declaration-clause-stands : goal.step-returns-then-is_declaration-clause-stands
step-returns-then-is_declaration-clause-stands g t c = λ q ls h. c.declaration.ensures.stands [] (exits_view c.args.x.now) q ls h

pub step-returns-then-is_declaration-clause-stmts : goal.step-returns-then-is_declaration-clause-stmts
step-returns-then-is_declaration-clause-stmts g t c = λ q ls h. c.declaration.ensures.stmts [] (exits_view c.args.x.now) q ls h

pub tried-returns-in-len1-up-clause-stands : goal.tried-returns-in-len1-up-clause-stands
tried-returns-in-len1-up-clause-stands g t c = λ q ls h.
    tried_told (g.D.Declares.declarations c.args.m.now.declared.now) c.args.m.now.place (λ (r : Lines). Stands c.handlers-parts.new.p (g.S.InScope.scope c.handlers-parts.new.scope).locals r.0 ls) (java_stmts (map java_stmt_view c.args.ss.now)) (java_handlers (map java_handler_view c.args.hs.now)) (exits_view c.args.x.now) ls q (some_there c.args.hs.now (omega (arith, c.in-len1-up.len_at_least)))
    (c.handlers-parts.ensures.stands (temporary throwable (block_lines (g.D.Declares.declarations c.args.m.now.declared.now) c.args.m.now.place (java_stmts (map java_stmt_view c.args.ss.now)) (exits_view c.args.x.now) ls q).0).0 ls (moves_on c.block-made.new.p c.temporary-thrown_object.new.self (g.S.InScope.scope c.block-made.new.scope).locals ls (block_lines (g.D.Declares.declarations c.args.m.now.declared.now) c.args.m.now.place (java_stmts (map java_stmt_view c.args.ss.now)) (exits_view c.args.x.now) ls q).0 (temporary throwable (block_lines (g.D.Declares.declarations c.args.m.now.declared.now) c.args.m.now.place (java_stmts (map java_stmt_view c.args.ss.now)) (exits_view c.args.x.now) ls q).0).0 c.temporary-thrown_object.ensures.works (c.block-made.ensures.stands q ls h) (c.temporary-thrown_object.ensures.progress (block_lines (g.D.Declares.declarations c.args.m.now.declared.now) c.args.m.now.place (java_stmts (map java_stmt_view c.args.ss.now)) (exits_view c.args.x.now) ls q).0)))

pub tried-returns-in-len1-up-clause-stmts : goal.tried-returns-in-len1-up-clause-stmts
tried-returns-in-len1-up-clause-stmts g t c = λ q ls h.
    tried_told (g.D.Declares.declarations c.args.m.now.declared.now) c.args.m.now.place (λ (r : Lines). GivesStmts c.caught_by_parts.result r.1) (java_stmts (map java_stmt_view c.args.ss.now)) (java_handlers (map java_handler_view c.args.hs.now)) (exits_view c.args.x.now) ls q (some_there c.args.hs.now (omega (arith, c.in-len1-up.len_at_least)))
    (c.caught_by_parts.ensures (block_lines (g.D.Declares.declarations c.args.m.now.declared.now) c.args.m.now.place (java_stmts (map java_stmt_view c.args.ss.now)) (exits_view c.args.x.now) ls q).1 (temporary throwable (block_lines (g.D.Declares.declarations c.args.m.now.declared.now) c.args.m.now.place (java_stmts (map java_stmt_view c.args.ss.now)) (exits_view c.args.x.now) ls q).0).1 (handler_parts (g.D.Declares.declarations c.args.m.now.declared.now) c.args.m.now.place (java_handlers (map java_handler_view c.args.hs.now)) (exits_view c.args.x.now) ls (temporary throwable (block_lines (g.D.Declares.declarations c.args.m.now.declared.now) c.args.m.now.place (java_stmts (map java_stmt_view c.args.ss.now)) (exits_view c.args.x.now) ls q).0).0).1 (c.block-made.ensures.stmts q ls h) (c.temporary-thrown_object.ensures.name (block_lines (g.D.Declares.declarations c.args.m.now.declared.now) c.args.m.now.place (java_stmts (map java_stmt_view c.args.ss.now)) (exits_view c.args.x.now) ls q).0 (there c.block-made.new.p (g.S.InScope.scope c.block-made.new.scope).locals ls (block_lines (g.D.Declares.declarations c.args.m.now.declared.now) c.args.m.now.place (java_stmts (map java_stmt_view c.args.ss.now)) (exits_view c.args.x.now) ls q).0 (c.block-made.ensures.stands q ls h))) (c.handlers-parts.ensures.parts (temporary throwable (block_lines (g.D.Declares.declarations c.args.m.now.declared.now) c.args.m.now.place (java_stmts (map java_stmt_view c.args.ss.now)) (exits_view c.args.x.now) ls q).0).0 ls (moves_on c.block-made.new.p c.temporary-thrown_object.new.self (g.S.InScope.scope c.block-made.new.scope).locals ls (block_lines (g.D.Declares.declarations c.args.m.now.declared.now) c.args.m.now.place (java_stmts (map java_stmt_view c.args.ss.now)) (exits_view c.args.x.now) ls q).0 (temporary throwable (block_lines (g.D.Declares.declarations c.args.m.now.declared.now) c.args.m.now.place (java_stmts (map java_stmt_view c.args.ss.now)) (exits_view c.args.x.now) ls q).0).0 c.temporary-thrown_object.ensures.works (c.block-made.ensures.stands q ls h) (c.temporary-thrown_object.ensures.progress (block_lines (g.D.Declares.declarations c.args.m.now.declared.now) c.args.m.now.place (java_stmts (map java_stmt_view c.args.ss.now)) (exits_view c.args.x.now) ls q).0))))
