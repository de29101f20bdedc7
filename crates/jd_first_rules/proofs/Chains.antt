-- One code after another, over lists of statements.
use Rattle.std.proofs.Common.{◌≡◌, List, [], ◌∷◌, ◌++◌, map, drop, refl, sym, ap, ◌∙◌}
use Rattle.jd_syntax.specs.declared.code.Code.{Code}
use Rattle.jd_syntax.specs.declared.code.CodeStmt.{CodeStmt}
use Rattle.jd_syntax.specs.Codes.{Stmt, Then, stmts_of}
use Rattle.jd_syntax.specs.CodeViews.{stmt_view, code_view}
use Rattle.jd_syntax.proofs.CodeLemmas.{code_of}
use Rattle.jd_model.specs.Contexts.{chain}
use Rattle.jd_first_rules.specs.Focus.{behind_first}

stmts-append : (xs ys : List Stmt) → stmts_of (xs ++ ys) ≡ chain (stmts_of xs) (stmts_of ys)
stmts-append [] ys = refl
stmts-append (x ∷ xs) ys = ap (Then x) (stmts-append xs ys)

behind : (xs : List CodeStmt) → behind_first (stmts_of (map stmt_view xs)) ≡ stmts_of (map stmt_view (drop 1 xs))
behind [] = refl
behind (x ∷ xs) = refl

pub chained_view : (made code whole : Code) (items : List CodeStmt) → items ≡ whole.stmts.items → map stmt_view made.stmts.items ≡ map stmt_view code.stmts.items ++ map stmt_view (drop 1 items) → code_view made ≡ chain (code_view code) (behind_first (code_view whole))
chained_view made code whole items same e =
    code_of made
    ∙ ap stmts_of e
    ∙ stmts-append (map stmt_view code.stmts.items) (map stmt_view (drop 1 items))
    ∙ ap (λ c. chain c (stmts_of (map stmt_view (drop 1 items)))) (sym (code_of code))
    ∙ ap (λ l. chain (code_view code) (stmts_of (map stmt_view (drop 1 l)))) same
    ∙ ap (chain (code_view code)) (sym (ap behind_first (code_of whole) ∙ behind whole.stmts.items))
