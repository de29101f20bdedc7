-- Codes one after another, as lists.
use Rattle.std.proofs.Common.{◌≡◌, List, [], ◌∷◌, ◌++◌, map, refl, sym, ap, ◌∙◌}
use Rattle.jd_model.specs.Contexts.{chain}
use Rattle.jd_syntax.specs.CodeViews.{code_view, stmt_view}
use Rattle.jd_syntax.specs.Codes.{Stmt, Then, stmts_of}
use Rattle.jd_syntax.specs.declared.code.Code.{Code}
use Rattle.jd_syntax.proofs.CodeLemmas.{code_of}

pub chain_lists : (ss ts : List Stmt) → stmts_of (ss ++ ts) ≡ chain (stmts_of ss) (stmts_of ts)
chain_lists [] ts = refl
chain_lists (s ∷ ss) ts = ap (Then s) (chain_lists ss ts)

-- of two codes
pub chain_codes : (a b : Code) → stmts_of (map stmt_view a.stmts.items ++ map stmt_view b.stmts.items) ≡ chain (code_view a) (code_view b)
chain_codes a b = chain_lists _ _ ∙ ap (λ x. chain x (stmts_of (map stmt_view b.stmts.items))) (sym (code_of a)) ∙ ap (chain (code_view a)) (sym (code_of b))
