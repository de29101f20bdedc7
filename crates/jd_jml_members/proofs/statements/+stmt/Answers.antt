use Rattle.std.proofs.Common.{List, map, option_map, refl, sym, ap, subst, ◌∙◌}
use Rattle.jd_syntax.specs.declared.java.Handler.{Handler}
use Rattle.jd_syntax.specs.declared.java.Stmt.{Stmt}
use Rattle.jd_syntax.specs.JavaTrees.{java_handlers, java_stmt_view, java_stmts}
use Rattle.jd_syntax.specs.SpecTrees.{spec_block_view}
use Rattle.jd_jcalls.specs.Handlers.{java_handler_view}
use Rattle.jd_specifications.specs.Refused.{stmt, stmts, handlers}
use Rattle.jd_jml_judging.specs.Contexts.{sofar_view}
use Rattle.jd_jml_judging.specs.Visible.{locals_of}
use Rattle.jd_statements.proofs.Sizes.{finally_handlers, finally_last, finally_stmts, try_handlers, try_stmts}
use Rattle.jd_statements.proofs.Taken.{is_block, is_else, is_for, is_if, is_label, is_try, is_tryfinally, is_while}
use Rattle.jd_jml_members.specs.Judged.{IsStop}
use Rattle.jd_jml_members.specs.declared.stop.Stop.{Stop}
use Rattle.jd_jml_members.proofs.Taken.{block_taken, else_refused, else_taken, finally_refused, finally_taken, for_taken, handler_taken, handlers_refused, if_taken, label_refused, label_taken, passed_on, try_refused, try_taken, while_taken}
use Rattle.jd_jml_members.proofs.statements.+stmt.Goals as goal

pub handlers-loop-handler-preserved : goal.handlers-loop-handler-preserved
handlers-loop-handler-preserved g t c =
    handler_taken (g.D.Declares.declarations c.args.m.now.declared.now) c.args.m.now.place c.args.hs.now c.loop-handler.handler-index c.handler-item.result _ _ _ _ c.mark-mark.result _ _ c.loop-handler-test.true c.handler-item.is c.loop-handler.invariant c.in_ok-enter_caught.ensures (ap (λ (l : List Stmt). java_stmts (map java_stmt_view l)) c.deref.ensures.value) c.in_ok-stmts.ensures.ok c.leave.ensures

pub stmt-stmts-requires-in-Try : goal.stmt-stmts-requires-in-Try
stmt-stmts-requires-in-Try g t c κs within =
    (try_stmts c.args.s.now _ _ c.deref-in-Try.result.now t c.in-Try.is c.deref-in-Try.ensures.value c.decreases, within)

pub stmt-handlers-requires : goal.stmt-handlers-requires
stmt-handlers-requires g t c κs within =
    (try_handlers c.args.s.now _ _ c.deref-in-Try-2.result.now t c.in-Try.is c.deref-in-Try-2.ensures.value c.decreases, within)

pub stmt-stmts-requires-in-TryFinally : goal.stmt-stmts-requires-in-TryFinally
stmt-stmts-requires-in-TryFinally g t c κs within =
    (finally_stmts c.args.s.now _ _ _ c.deref-in-TryFinally.result.now t c.in-TryFinally.is c.deref-in-TryFinally.ensures.value c.decreases, within)

pub stmt-handlers-requires-in-TryFinally : goal.stmt-handlers-requires-in-TryFinally
stmt-handlers-requires-in-TryFinally g t c κs within =
    (finally_handlers c.args.s.now _ _ _ c.deref-in-TryFinally-2.result.now t c.in-TryFinally.is c.deref-in-TryFinally-2.ensures.value c.decreases, within)

pub stmt-stmts-requires-in-TryFinally-2 : goal.stmt-stmts-requires-in-TryFinally-2
stmt-stmts-requires-in-TryFinally-2 g t c κs within =
    (finally_last c.args.s.now _ _ _ c.deref-in-TryFinally-3.result.now t c.in-TryFinally.is c.deref-in-TryFinally-3.ensures.value c.decreases, within)

pub stmt-returns-in_ok-stmts-in-Block-clause-ok : goal.stmt-returns-in_ok-stmts-in-Block-clause-ok
stmt-returns-in_ok-stmts-in-Block-clause-ok g t c =
    block_taken (g.D.Declares.declarations c.args.m.now.declared.now) c.args.m.now.place (sofar_view c.args.sofar) _ _ _ _ _ _ _ _ (is_block _ _ c.in-Block.is) (ap (λ (l : List Stmt). java_stmts (map java_stmt_view l)) c.deref.ensures.value) c.in_ok-stmts-in-Block.ensures.ok c.mark-mark.ensures c.leave.ensures

pub stmt-returns-in_ok-stmt-in-Label-clause-ok : goal.stmt-returns-in_ok-stmt-in-Label-clause-ok
stmt-returns-in_ok-stmt-in-Label-clause-ok g t c =
    label_taken (g.D.Declares.declarations c.args.m.now.declared.now) c.args.m.now.place (sofar_view c.args.sofar) _ _ _ _ _ _ _ _ _ _ _ _ _ _ _ (is_label _ _ _ _ c.in-Label.is) (ap (option_map spec_block_view) c.as_ref.ensures.value) (ap java_stmt_view c.deref-in-Label-2.ensures) (ap java_stmt_view (c.deref-in-Label.ensures ∙ sym c.deref-in-Label-2.ensures)) c.in_ok-enter_loop-in-Label.ensures c.in_ok-behind-in-Label.ensures c.mark-mark-in-Label.ensures c.leave-in-Label.ensures c.in_ok-stmt-in-Label.ensures.ok c.leave-in-Label-2.ensures

pub stmt-returns-in_err-stmt-in-Label-clause-err : goal.stmt-returns-in_err-stmt-in-Label-clause-err
stmt-returns-in_err-stmt-in-Label-clause-err g t c =
    passed_on _ _ _ c.from_residual-in_err-stmt-in-Label.ensures.1 (λ e same. label_refused (g.D.Declares.declarations c.args.m.now.declared.now) c.args.m.now.place (sofar_view c.args.sofar) _ _ _ _ _ _ _ _ _ _ _ _ _ e (is_label _ _ _ _ c.in-Label.is) (ap (option_map spec_block_view) c.as_ref.ensures.value) (ap java_stmt_view c.deref-in-Label-2.ensures) (ap java_stmt_view (c.deref-in-Label.ensures ∙ sym c.deref-in-Label-2.ensures)) c.in_ok-enter_loop-in-Label.ensures c.in_ok-behind-in-Label.ensures c.mark-mark-in-Label.ensures c.leave-in-Label.ensures (subst (λ (y : Stop). IsStop (stmt (g.D.Declares.declarations c.args.m.now.declared.now) c.args.m.now.place (sofar_view c.in_ok-behind-in-Label.behind) (java_stmt_view c.deref-in-Label-2.result.now) (locals_of c.leave-in-Label.new.self)) y) (sym same) c.in_err-stmt-in-Label.ensures.err))

pub stmt-returns-in_ok-stmt-in-If-clause-ok : goal.stmt-returns-in_ok-stmt-in-If-clause-ok
stmt-returns-in_ok-stmt-in-If-clause-ok g t c =
    if_taken (g.D.Declares.declarations c.args.m.now.declared.now) c.args.m.now.place (sofar_view c.args.sofar) _ _ _ _ _ _ _ _ _ _ (is_if _ _ _ c.in-If.is) (ap java_stmt_view c.deref-in-If.ensures) c.at_first.ensures c.in_ok-stmt-in-If.ensures.ok c.mark-mark-in-If.ensures c.leave-in-If.ensures

pub stmt-returns-in_ok-stmt-in-IfElse-2-clause-ok : goal.stmt-returns-in_ok-stmt-in-IfElse-2-clause-ok
stmt-returns-in_ok-stmt-in-IfElse-2-clause-ok g t c =
    else_taken (g.D.Declares.declarations c.args.m.now.declared.now) c.args.m.now.place (sofar_view c.args.sofar) _ _ _ _ _ _ _ _ _ _ _ _ _ _ _ (is_else _ _ _ _ c.in-IfElse.is) (ap java_stmt_view c.deref-in-IfElse.ensures) (ap java_stmt_view c.deref-in-IfElse-2.ensures) c.at_first-in-IfElse.ensures c.at_first-in-IfElse-2.ensures c.in_ok-stmt-in-IfElse.ensures.ok c.mark-mark-in-IfElse.ensures c.leave-in-IfElse.ensures c.in_ok-stmt-in-IfElse-2.ensures.ok c.leave-in-IfElse-2.ensures

pub stmt-returns-in_err-stmt-in-IfElse-2-clause-err : goal.stmt-returns-in_err-stmt-in-IfElse-2-clause-err
stmt-returns-in_err-stmt-in-IfElse-2-clause-err g t c =
    passed_on _ _ _ c.from_residual-in_err-stmt-in-IfElse-2.ensures.1 (λ e same. else_refused (g.D.Declares.declarations c.args.m.now.declared.now) c.args.m.now.place (sofar_view c.args.sofar) _ _ _ _ _ _ _ _ _ _ _ _ _ e (is_else _ _ _ _ c.in-IfElse.is) (ap java_stmt_view c.deref-in-IfElse.ensures) (ap java_stmt_view c.deref-in-IfElse-2.ensures) c.at_first-in-IfElse.ensures c.at_first-in-IfElse-2.ensures c.in_ok-stmt-in-IfElse.ensures.ok c.mark-mark-in-IfElse.ensures c.leave-in-IfElse.ensures (subst (λ (y : Stop). IsStop (stmt (g.D.Declares.declarations c.args.m.now.declared.now) c.args.m.now.place (sofar_view c.at_first-in-IfElse-2.result) (java_stmt_view c.deref-in-IfElse-2.result.now) (locals_of c.leave-in-IfElse.new.self)) y) (sym same) c.in_err-stmt-in-IfElse-2.ensures.err))

pub stmt-returns-in_ok-stmt-in-While-clause-ok : goal.stmt-returns-in_ok-stmt-in-While-clause-ok
stmt-returns-in_ok-stmt-in-While-clause-ok g t c =
    while_taken (g.D.Declares.declarations c.args.m.now.declared.now) c.args.m.now.place (sofar_view c.args.sofar) _ _ _ _ _ _ _ _ _ _ _ _ _ (is_while _ _ _ _ c.in-While.is) (ap (option_map spec_block_view) c.as_ref-in-While.ensures.value) (ap java_stmt_view c.deref-in-While.ensures) c.at_first-in-While.ensures c.in_ok-loop_clauses-in-While.ensures c.in_ok-stmt-in-While.ensures.ok c.mark-mark-in-While.ensures c.leave-in-While.ensures

pub stmt-returns-in_ok-stmt-in-For-clause-ok : goal.stmt-returns-in_ok-stmt-in-For-clause-ok
stmt-returns-in_ok-stmt-in-For-clause-ok g t c =
    for_taken (g.D.Declares.declarations c.args.m.now.declared.now) c.args.m.now.place (sofar_view c.args.sofar) _ _ _ _ _ _ _ _ _ _ _ _ _ _ _ _ (is_for _ _ _ _ _ _ c.in-For.is) (ap (option_map spec_block_view) c.as_ref-in-For.ensures.value) (ap java_stmt_view c.deref-in-For.ensures) c.at_first-in-For.ensures c.in_ok-enter_for-in-For.ensures c.in_ok-loop_clauses-in-For.ensures c.in_ok-stmt-in-For.ensures.ok c.mark-mark-in-For.ensures c.leave-in-For.ensures

pub stmt-returns-in_ok-handlers-in-Try-clause-ok : goal.stmt-returns-in_ok-handlers-in-Try-clause-ok
stmt-returns-in_ok-handlers-in-Try-clause-ok g t c =
    try_taken (g.D.Declares.declarations c.args.m.now.declared.now) c.args.m.now.place (sofar_view c.args.sofar) _ _ _ _ _ _ _ _ _ _ _ (is_try _ _ _ c.in-Try.is) (ap (λ (l : List Stmt). java_stmts (map java_stmt_view l)) c.deref-in-Try.ensures.value) (ap (λ (l : List Handler). java_handlers (map java_handler_view l)) c.deref-in-Try-2.ensures.value) c.in_ok-stmts-in-Try.ensures.ok c.mark-mark-in-Try.ensures c.leave-in-Try.ensures c.in_ok-handlers-in-Try.ensures.ok

pub stmt-returns-in_err-handlers-in-Try-clause-err : goal.stmt-returns-in_err-handlers-in-Try-clause-err
stmt-returns-in_err-handlers-in-Try-clause-err g t c =
    passed_on _ _ _ c.from_residual-in_err-handlers-in-Try.ensures.1 (λ e same. try_refused (g.D.Declares.declarations c.args.m.now.declared.now) c.args.m.now.place (sofar_view c.args.sofar) _ _ _ _ _ _ _ _ _ _ e (is_try _ _ _ c.in-Try.is) (ap (λ (l : List Stmt). java_stmts (map java_stmt_view l)) c.deref-in-Try.ensures.value) (ap (λ (l : List Handler). java_handlers (map java_handler_view l)) c.deref-in-Try-2.ensures.value) c.in_ok-stmts-in-Try.ensures.ok c.mark-mark-in-Try.ensures c.leave-in-Try.ensures (subst (λ (y : Stop). IsStop (handlers (g.D.Declares.declarations c.args.m.now.declared.now) c.args.m.now.place (java_handlers (map java_handler_view c.deref-in-Try-2.result.now)) (locals_of c.leave-in-Try.new.self)) y) (sym same) c.in_err-handlers-in-Try.ensures.err))

pub stmt-returns-in_ok-stmts-in-TryFinally-2-clause-ok : goal.stmt-returns-in_ok-stmts-in-TryFinally-2-clause-ok
stmt-returns-in_ok-stmts-in-TryFinally-2-clause-ok g t c =
    finally_taken (g.D.Declares.declarations c.args.m.now.declared.now) c.args.m.now.place (sofar_view c.args.sofar) _ _ _ _ _ _ _ _ _ _ _ _ _ _ _ (is_tryfinally _ _ _ _ c.in-TryFinally.is) (ap (λ (l : List Stmt). java_stmts (map java_stmt_view l)) c.deref-in-TryFinally.ensures.value) (ap (λ (l : List Handler). java_handlers (map java_handler_view l)) c.deref-in-TryFinally-2.ensures.value) (ap (λ (l : List Stmt). java_stmts (map java_stmt_view l)) c.deref-in-TryFinally-3.ensures.value) c.in_ok-stmts-in-TryFinally.ensures.ok c.mark-mark-in-TryFinally.ensures c.leave-in-TryFinally.ensures c.in_ok-handlers-in-TryFinally.ensures.ok c.in_ok-stmts-in-TryFinally-2.ensures.ok c.leave-in-TryFinally-2.ensures

pub stmt-returns-in_err-handlers-in-TryFinally-clause-err : goal.stmt-returns-in_err-handlers-in-TryFinally-clause-err
stmt-returns-in_err-handlers-in-TryFinally-clause-err g t c =
    passed_on _ _ _ c.from_residual-in_err-handlers-in-TryFinally.ensures.1 (λ e same. handlers_refused (g.D.Declares.declarations c.args.m.now.declared.now) c.args.m.now.place (sofar_view c.args.sofar) _ _ _ _ _ _ (java_stmts (map java_stmt_view c.in-TryFinally.fs.items)) (java_stmts (map java_stmt_view c.in-TryFinally.fs.items)) _ _ _ _ e (is_tryfinally _ _ _ _ c.in-TryFinally.is) (ap (λ (l : List Stmt). java_stmts (map java_stmt_view l)) c.deref-in-TryFinally.ensures.value) (ap (λ (l : List Handler). java_handlers (map java_handler_view l)) c.deref-in-TryFinally-2.ensures.value) refl c.in_ok-stmts-in-TryFinally.ensures.ok c.mark-mark-in-TryFinally.ensures c.leave-in-TryFinally.ensures (subst (λ (y : Stop). IsStop (handlers (g.D.Declares.declarations c.args.m.now.declared.now) c.args.m.now.place (java_handlers (map java_handler_view c.deref-in-TryFinally-2.result.now)) (locals_of c.leave-in-TryFinally.new.self)) y) (sym same) c.in_err-handlers-in-TryFinally.ensures.err))

pub stmt-returns-in_err-stmts-in-TryFinally-2-clause-err : goal.stmt-returns-in_err-stmts-in-TryFinally-2-clause-err
stmt-returns-in_err-stmts-in-TryFinally-2-clause-err g t c =
    passed_on _ _ _ c.from_residual-in_err-stmts-in-TryFinally-2.ensures.1 (λ e same. finally_refused (g.D.Declares.declarations c.args.m.now.declared.now) c.args.m.now.place (sofar_view c.args.sofar) _ _ _ _ _ _ _ _ _ _ _ _ _ e (is_tryfinally _ _ _ _ c.in-TryFinally.is) (ap (λ (l : List Stmt). java_stmts (map java_stmt_view l)) c.deref-in-TryFinally.ensures.value) (ap (λ (l : List Handler). java_handlers (map java_handler_view l)) c.deref-in-TryFinally-2.ensures.value) (ap (λ (l : List Stmt). java_stmts (map java_stmt_view l)) c.deref-in-TryFinally-3.ensures.value) c.in_ok-stmts-in-TryFinally.ensures.ok c.mark-mark-in-TryFinally.ensures c.leave-in-TryFinally.ensures c.in_ok-handlers-in-TryFinally.ensures.ok (subst (λ (y : Stop). IsStop (stmts (g.D.Declares.declarations c.args.m.now.declared.now) c.args.m.now.place (java_stmts (map java_stmt_view c.deref-in-TryFinally-3.result.now)) (locals_of c.handlers-in-TryFinally.new.names)) y) (sym same) c.in_err-stmts-in-TryFinally-2.ensures.err))
