-- What a pattern looks for, as a test.
use Rattle.std.proofs.Common.{◌≡◌, List, Option, map, option_map, refl, sym, ap, ◌∙◌}
use Rattle.jd_syntax.specs.declared.code.Code.{Code}
use Rattle.jd_syntax.specs.declared.code.CodeStmt.{CodeStmt}
use Rattle.jd_syntax.specs.Codes.{Stmt, stmts_of}
use Rattle.jd_syntax.specs.CodeViews.{code_view, stmt_view}
use Rattle.jd_syntax.proofs.CodeLemmas.{code_of}
use Rattle.jd_schema_matching.specs.declared.contexts.FocusTest.{FocusTest}
use Rattle.jd_patterns.specs.Patterns as pattern
use Rattle.jd_patterns.specs.Patterns.{StmtPattern}
use Rattle.jd_patterns.specs.Bindings.{TheContext}
use Rattle.jd_patterns.specs.Foci.{first_in, sought}
use Rattle.jd_schema_matching.specs.Foci.{context_at, test_of}
use Rattle.jd_formula_matching.specs.Sought.{sought_test}

pub sought_as : (p : StmtPattern) → test_of (sought_test p) ≡ sought p
sought_as (pattern.ReturnVar n) = refl
sought_as (pattern.Set x e) = refl
sought_as (pattern.WriteField e n f) = refl
sought_as (pattern.WriteElement e f g) = refl
sought_as (pattern.Evaluate e) = refl
sought_as (pattern.If e c d) = refl
sought_as (pattern.Block l pattern.Done) = refl
sought_as (pattern.Block l (pattern.Then s c)) = refl
sought_as (pattern.Block l (pattern.CodeThen n c)) = refl
sought_as (pattern.BlockPast l k c) = refl
sought_as (pattern.Break l) = refl
sought_as (pattern.Catch pattern.Done x d) = refl
sought_as (pattern.Catch (pattern.Then s c) x d) = refl
sought_as (pattern.Catch (pattern.CodeThen n c) x d) = refl
sought_as (pattern.Finally pattern.Done d) = refl
sought_as (pattern.Finally (pattern.Then s c) d) = refl
sought_as (pattern.Finally (pattern.CodeThen n c) d) = refl
sought_as (pattern.Throw e) = refl
sought_as (pattern.ThrowUnchecked e) = refl
sought_as (pattern.Return e) = refl
sought_as pattern.ReturnVoid = refl
sought_as (pattern.Frame r pattern.Done) = refl
sought_as (pattern.Frame r (pattern.Then s c)) = refl
sought_as (pattern.Frame r (pattern.CodeThen n c)) = refl
sought_as (pattern.Raise c) = refl
sought_as (pattern.AllocObject x c) = refl
sought_as (pattern.AllocArray x e) = refl
sought_as (pattern.NewArray x e) = refl
sought_as pattern.Stop = refl

-- the focus that the test finds in the statements of a code
pub focus_as : {A : Type 0} (v : A → Stmt) (p : StmtPattern) (t : FocusTest) (c : Code) (ss : List CodeStmt) (o : Option A) → t ≡ sought_test p → ss ≡ c.stmts.items → option_map (λ x. (context_at t (stmts_of (map stmt_view ss)), v x)) o ≡ first_in (test_of t) (stmts_of (map stmt_view ss)) → option_map (λ x. (context_at (sought_test p) (code_view c), v x)) o ≡ first_in (sought p) (code_view c)
focus_as {A} v p t c ss o e d h =
    let whole : stmts_of (map stmt_view ss) ≡ code_view c = ap (λ l. stmts_of (map stmt_view l)) d ∙ sym (code_of c) in
    let k = stmts_of (map stmt_view ss) in
    sym (ap (λ l. option_map (λ (x : A). (context_at (sought_test p) l, v x)) o) whole) ∙ sym (ap (λ u. option_map (λ (x : A). (context_at u k, v x)) o) e) ∙ h ∙ ap (λ u. first_in (test_of u) k) e ∙ ap (λ f. first_in f k) (sought_as p) ∙ ap (first_in (sought p)) whole

pub around_as : (p : StmtPattern) (t : FocusTest) (c : Code) (ss : List CodeStmt) → t ≡ sought_test p → ss ≡ c.stmts.items → TheContext (context_at t (stmts_of (map stmt_view ss))) ≡ TheContext (context_at (sought_test p) (code_view c))
around_as p t c ss e d = ap (λ u. TheContext (context_at u (stmts_of (map stmt_view ss)))) e ∙ ap (λ l. TheContext (context_at (sought_test p) (stmts_of (map stmt_view l)))) d ∙ ap (λ k. TheContext (context_at (sought_test p) k)) (sym (code_of c))
