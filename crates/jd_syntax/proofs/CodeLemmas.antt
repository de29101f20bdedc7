-- The equations of the view of code where lists stand in it.
use Rattle.jd_syntax.specs.CodeNames.{is_empty}
use Rattle.jd_syntax.specs.CodeViews.{code_view, expr_view, stmt_view}
use Rattle.jd_syntax.specs.Codes.{ConstructorCall, Done, Expr, ExprThen, Exprs, NoExprs, PlainCode, StaticCall, Stmt, Then, VirtualCall, exprs_of, stmts_of}
use Rattle.jd_syntax.specs.declared.code.Code.{Code}
use Rattle.jd_syntax.specs.declared.code.CodeExpr.{CodeExpr, the_lemmas}
use Rattle.jd_syntax.specs.declared.code.CodeExpr.TheViews as views
use Rattle.jd_syntax.specs.declared.code.CodeStmt.{CodeStmt}
use Rattle.std.proofs.Common.{◌≡◌, ◌<◌, length, arith, ◌↔◌, Bool, true, false, IsTrue, List, [], ◌∷◌, map, refl, sym, ap, ◌∙◌, rules}

abbrev exprs_list : Exprs → List Expr
exprs_list NoExprs = []
exprs_list (ExprThen e es) = e ∷ exprs_list es

abbrev stmts_list : PlainCode → List Stmt
stmts_list Done = []
stmts_list (Then s c) = s ∷ stmts_list c

exprs_back : (es : List Expr) → exprs_list (exprs_of es) ≡ es
exprs_back [] = refl
exprs_back (e ∷ es) = ap (λ fs. e ∷ fs) (exprs_back es)

stmts_back : (ss : List Stmt) → stmts_list (stmts_of ss) ≡ ss
stmts_back [] = refl
stmts_back (s ∷ ss) = ap (λ ts. s ∷ ts) (stmts_back ss)

-- lists are equal where what they make is
pub exprs_same : (es fs : List Expr) → exprs_of es ≡ exprs_of fs → es ≡ fs
exprs_same es fs e = sym (exprs_back es) ∙ ap exprs_list e ∙ exprs_back fs

pub stmts_same : (ss ts : List Stmt) → stmts_of ss ≡ stmts_of ts → ss ≡ ts
stmts_same ss ts e = sym (stmts_back ss) ∙ ap stmts_list e ∙ stmts_back ts

pub code_of : (c : Code) → code_view c ≡ stmts_of (map stmt_view c.stmts.items)
code_of c = search (rules, the_lemmas)

pub virtual_of : (c : _) (m : _) (a : _) (es : _) → expr_view (views.VirtualCall c m a es) ≡ VirtualCall c.0 m.0 (expr_view a.value) (exprs_of (map expr_view es.items))
virtual_of c m a es = search (rules, the_lemmas)

pub static_of : (m : _) (es : _) → expr_view (views.StaticCall m es) ≡ StaticCall m.0 (exprs_of (map expr_view es.items))
static_of m es = search (rules, the_lemmas)

pub constructor_of : (m : _) (a : _) (es : _) → expr_view (views.ConstructorCall m a es) ≡ ConstructorCall m.0 (expr_view a.value) (exprs_of (map expr_view es.items))
constructor_of m a es = search (rules, the_lemmas)

pub virtual_same : (c d : _) (m n : _) (a b : _) (es fs : _) (x y : CodeExpr) → x ≡ views.VirtualCall c m a es → y ≡ views.VirtualCall d n b fs → c.0 ≡ d.0 → m.0 ≡ n.0 → expr_view a.value ≡ expr_view b.value → (r : Bool) → (IsTrue r ↔ map expr_view es.items ≡ map expr_view fs.items) → IsTrue r ↔ expr_view x ≡ expr_view y
virtual_same c d m n a b es fs x y ex ey cd mn ab r both = (there, back)
  where
    all_same : exprs_of (map expr_view es.items) ≡ exprs_of (map expr_view fs.items) → VirtualCall c.0 m.0 (expr_view a.value) (exprs_of (map expr_view es.items)) ≡ VirtualCall d.0 n.0 (expr_view b.value) (exprs_of (map expr_view fs.items))
    all_same h = cc

    arguments : {i j k l : _} {e f : Expr} {us vs : Exprs} → VirtualCall i j e us ≡ VirtualCall k l f vs → us ≡ vs
    arguments h = cc

    there : IsTrue r → expr_view x ≡ expr_view y
    there t = ap expr_view ex ∙ virtual_of c m a es ∙ all_same (ap exprs_of (both.0 t)) ∙ sym (virtual_of d n b fs) ∙ sym (ap expr_view ey)

    back : expr_view x ≡ expr_view y → IsTrue r
    back e = both.1 (exprs_same _ _ (arguments (sym (virtual_of c m a es) ∙ sym (ap expr_view ex) ∙ e ∙ ap expr_view ey ∙ virtual_of d n b fs)))

pub constructor_same : (m n : _) (a b : _) (es fs : _) (x y : CodeExpr) → x ≡ views.ConstructorCall m a es → y ≡ views.ConstructorCall n b fs → m.0 ≡ n.0 → expr_view a.value ≡ expr_view b.value → (r : Bool) → (IsTrue r ↔ map expr_view es.items ≡ map expr_view fs.items) → IsTrue r ↔ expr_view x ≡ expr_view y
constructor_same m n a b es fs x y ex ey mn ab r both = (there, back)
  where
    all_same : exprs_of (map expr_view es.items) ≡ exprs_of (map expr_view fs.items) → ConstructorCall m.0 (expr_view a.value) (exprs_of (map expr_view es.items)) ≡ ConstructorCall n.0 (expr_view b.value) (exprs_of (map expr_view fs.items))
    all_same h = cc

    arguments : {j l : _} {e f : Expr} {us vs : Exprs} → ConstructorCall j e us ≡ ConstructorCall l f vs → us ≡ vs
    arguments h = cc

    there : IsTrue r → expr_view x ≡ expr_view y
    there t = ap expr_view ex ∙ constructor_of m a es ∙ all_same (ap exprs_of (both.0 t)) ∙ sym (constructor_of n b fs) ∙ sym (ap expr_view ey)

    back : expr_view x ≡ expr_view y → IsTrue r
    back e = both.1 (exprs_same _ _ (arguments (sym (constructor_of m a es) ∙ sym (ap expr_view ex) ∙ e ∙ ap expr_view ey ∙ constructor_of n b fs)))

pub none_empty : (c : Code) → c.stmts.items ≡ [] → is_empty (code_view c) ≡ true
none_empty c e = ap is_empty (code_of c ∙ ap (λ ss. stmts_of (map stmt_view ss)) e)

pub some_not_empty : (c : Code) → 0 < length c.stmts.items → is_empty (code_view c) ≡ false
some_not_empty c some = ap is_empty (code_of c) ∙ by c.stmts.items some
  where
    by : (ss : List CodeStmt) → 0 < length ss → is_empty (stmts_of (map stmt_view ss)) ≡ false
    by [] h = absurd (omega (arith, h))
    by (s ∷ ss) h = refl

pub ruleset empty = (none_empty, some_not_empty)

pub ruleset rows = (stmts_same, code_of)

pub ruleset calls = (exprs_same, virtual_of, static_of, constructor_of)
