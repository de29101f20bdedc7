use Rattle.std.proofs.Common.{map}
use Rattle.jd_syntax.specs.SpecTrees.{spec_block_view}
use Rattle.jd_syntax.specs.JavaTrees.{MethodMember, java_stmt_view, java_stmts, method_view, parameter_view}
use Rattle.jd_jmlparse.specs.Filled.{bare_block, bare_parameter, bare_stmts}
use Rattle.jd_jmlparse.proofs.Bare.{same_list}
use Rattle.jd_jmlparse.proofs.Statements.{same_items, three}
use Rattle.jd_jmlparse.proofs.fill.members.fill_method.Goals as goal

pub returns-clause-same : goal.returns-clause-same
returns-clause-same c =
    let m = c.args.method.now in
    three (λ s p b. MethodMember (record (method_view m) { specs = s; parameters = p; body = b })) _ _ _ _ _ _
    (same_items (λ xs. map bare_block (map spec_block_view xs)) m.specs c.fill_blocks-first.new.blocks c.deref_mut.result.now c.fill_blocks-first.auto.blocks c.deref_mut.ensures.len c.deref_mut.ensures.value c.fill_blocks-first.ensures.same)
    (same_items (λ xs. map bare_parameter (map parameter_view xs)) m.parameters c.fill_parameters-first.new.parameters c.deref_mut-2.result.now c.fill_parameters-first.auto.parameters c.deref_mut-2.ensures.len c.deref_mut-2.ensures.value c.fill_parameters-first.ensures.same)
    (same_list _ _ (same_items (λ xs. bare_stmts (java_stmts (map java_stmt_view xs))) m.body c.fill_stmts.new.stmts c.deref_mut-3.result.now c.fill_stmts.auto.stmts c.deref_mut-3.ensures.len c.deref_mut-3.ensures.value c.fill_stmts.ensures.same))
