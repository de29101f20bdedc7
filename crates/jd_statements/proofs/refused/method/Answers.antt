use Rattle.std.proofs.Common.{◌≡◌, IfErr, List, Ok, OnOk, Result, map, sym, ap, subst}
use Rattle.jd_syntax.specs.declared.java.Parameter.{Parameter}
use Rattle.jd_syntax.specs.declared.java.Stmt.{Stmt}
use Rattle.jd_syntax.specs.JavaTrees.{java_stmt_view, java_stmts, method_view, parameter_view}
use Rattle.jd_bodies.specs.declared.fault.Fault.{Fault}
use Rattle.jd_bodies.specs.Scopes.{Scope}
use Rattle.jd_statements.specs.Judged.{IsStop}
use Rattle.jd_statements.proofs.Members.{whole_method}
use Rattle.jd_statements.proofs.refused.method.Goals as goal

pub returns-clause-ok : goal.returns-clause-ok
returns-clause-ok g c =
    subst (λ (w : Result Scope Fault). OnOk c.stmts.result (w ≡ Ok (g.S.InScope.scope c.stmts.new.scope)))
    (sym (whole_method (g.D.Declares.declarations c.args.d.now) c.args.class (method_view c.args.m.now) (map parameter_view c.deref.result.now) _ _ _ _
    (c.in_ok-result_known.ensures _) (c.in_ok-runs_above.ensures _) (ap (λ (l : List Parameter). map parameter_view l) c.deref.ensures.value) c.in_ok-with_parameters.ensures.ok
    c.returns_of.ensures (ap (λ (l : List Stmt). java_stmts (map java_stmt_view l)) c.deref-2.ensures.value)))
    c.stmts.ensures.ok

pub returns-clause-err : goal.returns-clause-err
returns-clause-err g c =
    subst (λ (w : Result Scope Fault). IfErr c.stmts.result (IsStop w))
    (sym (whole_method (g.D.Declares.declarations c.args.d.now) c.args.class (method_view c.args.m.now) (map parameter_view c.deref.result.now) _ _ _ _
    (c.in_ok-result_known.ensures _) (c.in_ok-runs_above.ensures _) (ap (λ (l : List Parameter). map parameter_view l) c.deref.ensures.value) c.in_ok-with_parameters.ensures.ok
    c.returns_of.ensures (ap (λ (l : List Stmt). java_stmts (map java_stmt_view l)) c.deref-2.ensures.value)))
    c.stmts.ensures.err
