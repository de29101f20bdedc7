use Rattle.std.proofs.Common.{◌<◌, option_map, map, refl, sym, ap, subst, ◌∙◌}
use Rattle.jd_syntax.specs.JavaTrees.{HandlerThen, StmtThen, for_start_view, java_handlers, java_stmt_view, java_stmts, java_view}
use Rattle.jd_syntax.specs.JavaTrees as trees
use Rattle.jd_jcalls.specs.Handlers.{java_handler_view}
use Rattle.jd_jmlparse.specs.Filled.{bare_handler, bare_handlers, bare_stmt, bare_stmts, handler_blocks, handlers_blocks, stmt_blocks, stmts_blocks}
use Rattle.jd_jmlparse.proofs.Going.{goes_on}
use Rattle.jd_jmlparse.proofs.Loops.{goes_more, set_same, unvisited_more}
use Rattle.jd_jmlparse.proofs.Statements.{goes_form, goes_items, is_block, is_for, is_if, is_ifelse, is_label, is_try, is_tryfinally, is_while, same_form, same_items, three, two}
use Rattle.jd_jmlparse.proofs.fill.statements.+filling.Goals as goal

pub filled_form-returns-in-Block-clause-same : goal.filled_form-returns-in-Block-clause-same
filled_form-returns-in-Block-clause-same t c = λ at. same_form at _ _ _ _ _ c.in-Block.is (is_block at _) (is_block at _) (ap (trees.Block at) (same_items (λ xs. bare_stmts (java_stmts (map java_stmt_view xs))) c.in-Block.stmts c.fill_stmts-first.new.stmts c.deref_mut.result.now c.fill_stmts-first.auto.stmts c.deref_mut.ensures.len c.deref_mut.ensures.value c.fill_stmts-first.ensures.same))

pub filled_form-returns-in-Block-clause-goes : goal.filled_form-returns-in-Block-clause-goes
filled_form-returns-in-Block-clause-goes t c = λ at. goes_form _ _ _ at _ _ (is_block at _) (goes_items (λ xs. stmts_blocks (java_stmts (map java_stmt_view xs))) c.in-Block.stmts c.fill_stmts-first.new.stmts c.deref_mut.result.now _ _ _ c.fill_stmts-first.auto.stmts c.deref_mut.ensures.len c.fill_stmts-first.ensures.goes)

pub filled_form-returns-in-If-clause-same : goal.filled_form-returns-in-If-clause-same
filled_form-returns-in-If-clause-same t c = λ at. same_form at _ _ _ _ _ c.in-If.is (is_if at _ _) (is_if at _ _) (ap (trees.If at (java_view c.in-If.condition)) (c.fill_stmt-first.ensures.same ∙ ap (λ x. bare_stmt (java_stmt_view x)) c.deref_mut-in-If.ensures.value))

pub filled_form-returns-in-If-clause-goes : goal.filled_form-returns-in-If-clause-goes
filled_form-returns-in-If-clause-goes t c = λ at. goes_form _ _ _ at _ _ (is_if at _ _) c.fill_stmt-first.ensures.goes

pub filled_form-returns-in-Label-clause-same : goal.filled_form-returns-in-Label-clause-same
filled_form-returns-in-Label-clause-same t c = λ at. same_form at _ _ _ _ _ c.in-Label.is (is_label at _ _ _) (is_label at _ _ _) (two (λ j s. trees.Label at j c.in-Label.name.items s) _ _ _ _ c.fill_optional-first.ensures.same (c.fill_stmt-first-in-Label.ensures.same ∙ ap (λ x. bare_stmt (java_stmt_view x)) c.deref_mut-in-Label.ensures.value))

pub filled_form-returns-in-Label-clause-goes : goal.filled_form-returns-in-Label-clause-goes
filled_form-returns-in-Label-clause-goes t c = λ at. goes_form _ _ _ at _ _ (is_label at _ _ _) (goes_on _ _ _ _ _ _ c.fill_optional-first.ensures.goes c.fill_stmt-first-in-Label.ensures.goes)

pub filled_form-returns-in-While-clause-same : goal.filled_form-returns-in-While-clause-same
filled_form-returns-in-While-clause-same t c = λ at. same_form at _ _ _ _ _ c.in-While.is (is_while at _ _ _) (is_while at _ _ _) (two (λ j s. trees.While at j (java_view c.in-While.condition) s) _ _ _ _ c.fill_optional-first-in-While.ensures.same (c.fill_stmt-first-in-While.ensures.same ∙ ap (λ x. bare_stmt (java_stmt_view x)) c.deref_mut-in-While.ensures.value))

pub filled_form-returns-in-While-clause-goes : goal.filled_form-returns-in-While-clause-goes
filled_form-returns-in-While-clause-goes t c = λ at. goes_form _ _ _ at _ _ (is_while at _ _ _) (goes_on _ _ _ _ _ _ c.fill_optional-first-in-While.ensures.goes c.fill_stmt-first-in-While.ensures.goes)

pub filled_form-returns-in-For-clause-same : goal.filled_form-returns-in-For-clause-same
filled_form-returns-in-For-clause-same t c = λ at. same_form at _ _ _ _ _ c.in-For.is (is_for at _ _ _ _ _) (is_for at _ _ _ _ _) (two (λ j s. trees.For at j (for_start_view c.in-For.start) (option_map java_view c.in-For.condition) (map java_view c.in-For.update.items) s) _ _ _ _ c.fill_optional-first-in-For.ensures.same (c.fill_stmt-first-in-For.ensures.same ∙ ap (λ x. bare_stmt (java_stmt_view x)) c.deref_mut-in-For.ensures.value))

pub filled_form-returns-in-For-clause-goes : goal.filled_form-returns-in-For-clause-goes
filled_form-returns-in-For-clause-goes t c = λ at. goes_form _ _ _ at _ _ (is_for at _ _ _ _ _) (goes_on _ _ _ _ _ _ c.fill_optional-first-in-For.ensures.goes c.fill_stmt-first-in-For.ensures.goes)

pub filled_form-returns-in-IfElse-clause-same : goal.filled_form-returns-in-IfElse-clause-same
filled_form-returns-in-IfElse-clause-same t c = λ at. same_form at _ _ _ _ _ c.in-IfElse.is (is_ifelse at _ _ _) (is_ifelse at _ _ _) (two (trees.IfElse at (java_view c.in-IfElse.condition)) _ _ _ _ (c.fill_stmt-first-in-IfElse.ensures.same ∙ ap (λ x. bare_stmt (java_stmt_view x)) c.deref_mut-in-IfElse.ensures.value) (c.fill_stmt-first-in-IfElse-2.ensures.same ∙ ap (λ x. bare_stmt (java_stmt_view x)) c.deref_mut-in-IfElse-2.ensures.value))

pub filled_form-returns-in-IfElse-clause-goes : goal.filled_form-returns-in-IfElse-clause-goes
filled_form-returns-in-IfElse-clause-goes t c = λ at. goes_form _ _ _ at _ _ (is_ifelse at _ _ _) (goes_on _ _ _ _ _ _ c.fill_stmt-first-in-IfElse.ensures.goes c.fill_stmt-first-in-IfElse-2.ensures.goes)

pub filled_form-returns-in-Try-clause-same : goal.filled_form-returns-in-Try-clause-same
filled_form-returns-in-Try-clause-same t c = λ at. same_form at _ _ _ _ _ c.in-Try.is (is_try at _ _) (is_try at _ _) (two (trees.Try at) _ _ _ _ (same_items (λ xs. bare_stmts (java_stmts (map java_stmt_view xs))) c.in-Try.stmts c.fill_stmts-first-in-Try.new.stmts c.deref_mut-in-Try.result.now c.fill_stmts-first-in-Try.auto.stmts c.deref_mut-in-Try.ensures.len c.deref_mut-in-Try.ensures.value c.fill_stmts-first-in-Try.ensures.same) (same_items (λ xs. bare_handlers (java_handlers (map java_handler_view xs))) c.in-Try.handlers c.fill_handlers-first.new.handlers c.deref_mut-in-Try-2.result.now c.fill_handlers-first.auto.handlers c.deref_mut-in-Try-2.ensures.len c.deref_mut-in-Try-2.ensures.value c.fill_handlers-first.ensures.same))

pub filled_form-returns-in-Try-clause-goes : goal.filled_form-returns-in-Try-clause-goes
filled_form-returns-in-Try-clause-goes t c = λ at. goes_form _ _ _ at _ _ (is_try at _ _) (goes_on _ _ _ _ _ _ (goes_items (λ xs. stmts_blocks (java_stmts (map java_stmt_view xs))) c.in-Try.stmts c.fill_stmts-first-in-Try.new.stmts c.deref_mut-in-Try.result.now _ _ _ c.fill_stmts-first-in-Try.auto.stmts c.deref_mut-in-Try.ensures.len c.fill_stmts-first-in-Try.ensures.goes) (goes_items (λ xs. handlers_blocks (java_handlers (map java_handler_view xs))) c.in-Try.handlers c.fill_handlers-first.new.handlers c.deref_mut-in-Try-2.result.now _ _ _ c.fill_handlers-first.auto.handlers c.deref_mut-in-Try-2.ensures.len c.fill_handlers-first.ensures.goes))

pub filled_form-returns-in-TryFinally-clause-same : goal.filled_form-returns-in-TryFinally-clause-same
filled_form-returns-in-TryFinally-clause-same t c = λ at. same_form at _ _ _ _ _ c.in-TryFinally.is (is_tryfinally at _ _ _) (is_tryfinally at _ _ _) (three (trees.TryFinally at) _ _ _ _ _ _ (same_items (λ xs. bare_stmts (java_stmts (map java_stmt_view xs))) c.in-TryFinally.stmts c.fill_stmts-first-in-TryFinally.new.stmts c.deref_mut-in-TryFinally.result.now c.fill_stmts-first-in-TryFinally.auto.stmts c.deref_mut-in-TryFinally.ensures.len c.deref_mut-in-TryFinally.ensures.value c.fill_stmts-first-in-TryFinally.ensures.same) (same_items (λ xs. bare_handlers (java_handlers (map java_handler_view xs))) c.in-TryFinally.handlers c.fill_handlers-first-in-TryFinally.new.handlers c.deref_mut-in-TryFinally-2.result.now c.fill_handlers-first-in-TryFinally.auto.handlers c.deref_mut-in-TryFinally-2.ensures.len c.deref_mut-in-TryFinally-2.ensures.value c.fill_handlers-first-in-TryFinally.ensures.same) (same_items (λ xs. bare_stmts (java_stmts (map java_stmt_view xs))) c.in-TryFinally.last c.fill_stmts-first-in-TryFinally-2.new.stmts c.deref_mut-in-TryFinally-3.result.now c.fill_stmts-first-in-TryFinally-2.auto.stmts c.deref_mut-in-TryFinally-3.ensures.len c.deref_mut-in-TryFinally-3.ensures.value c.fill_stmts-first-in-TryFinally-2.ensures.same))

pub filled_form-returns-in-TryFinally-clause-goes : goal.filled_form-returns-in-TryFinally-clause-goes
filled_form-returns-in-TryFinally-clause-goes t c = λ at. goes_form _ _ _ at _ _ (is_tryfinally at _ _ _) (goes_on _ _ _ _ _ _ (goes_on _ _ _ _ _ _ (goes_items (λ xs. stmts_blocks (java_stmts (map java_stmt_view xs))) c.in-TryFinally.stmts c.fill_stmts-first-in-TryFinally.new.stmts c.deref_mut-in-TryFinally.result.now _ _ _ c.fill_stmts-first-in-TryFinally.auto.stmts c.deref_mut-in-TryFinally.ensures.len c.fill_stmts-first-in-TryFinally.ensures.goes) (goes_items (λ xs. handlers_blocks (java_handlers (map java_handler_view xs))) c.in-TryFinally.handlers c.fill_handlers-first-in-TryFinally.new.handlers c.deref_mut-in-TryFinally-2.result.now _ _ _ c.fill_handlers-first-in-TryFinally.auto.handlers c.deref_mut-in-TryFinally-2.ensures.len c.fill_handlers-first-in-TryFinally.ensures.goes)) (goes_items (λ xs. stmts_blocks (java_stmts (map java_stmt_view xs))) c.in-TryFinally.last c.fill_stmts-first-in-TryFinally-2.new.stmts c.deref_mut-in-TryFinally-3.result.now _ _ _ c.fill_stmts-first-in-TryFinally-2.auto.stmts c.deref_mut-in-TryFinally-3.ensures.len c.fill_stmts-first-in-TryFinally-2.ensures.goes))

pub fill_stmts-loop-i-preserved : goal.fill_stmts-loop-i-preserved
fill_stmts-loop-i-preserved t c =
    let inv = c.loop-i.invariant in (
      unvisited_more c.loop-i.stmts c.args.stmts.now c.loop-i.i c.fill_stmt-first.new.s inv.0,
      set_same (λ xs. bare_stmts (java_stmts (map java_stmt_view xs))) StmtThen (λ x. bare_stmt (java_stmt_view x)) (λ x xs. refl) c.loop-i.stmts c.loop-i.i c.fill_stmt-first.new.s c.index-stmts-i.result c.fill_stmt-first.ensures.same ∙ inv.1,
      goes_more (λ xs. stmts_blocks (java_stmts (map java_stmt_view xs))) (λ x. stmt_blocks (java_stmt_view x)) refl (λ x xs. refl) _ _ _ _ c.loop-i.stmts c.loop-i.i c.fill_stmt-first.new.s (subst (λ n. c.loop-i.i < n) (sym inv.0.0) c.loop-i-test.true) inv.2 c.fill_stmt-first.ensures.goes,
    )

pub fill_handlers-loop-i-preserved : goal.fill_handlers-loop-i-preserved
fill_handlers-loop-i-preserved t c =
    let inv = c.loop-i.invariant in (
      unvisited_more c.loop-i.handlers c.args.handlers.now c.loop-i.i c.fill_handler-first.new.handler inv.0,
      set_same (λ xs. bare_handlers (java_handlers (map java_handler_view xs))) HandlerThen (λ x. bare_handler (java_handler_view x)) (λ x xs. refl) c.loop-i.handlers c.loop-i.i c.fill_handler-first.new.handler c.index-handlers-i.result c.fill_handler-first.ensures.same ∙ inv.1,
      goes_more (λ xs. handlers_blocks (java_handlers (map java_handler_view xs))) (λ x. handler_blocks (java_handler_view x)) refl (λ x xs. refl) _ _ _ _ c.loop-i.handlers c.loop-i.i c.fill_handler-first.new.handler (subst (λ n. c.loop-i.i < n) (sym inv.0.0) c.loop-i-test.true) inv.2 c.fill_handler-first.ensures.goes,
    )
