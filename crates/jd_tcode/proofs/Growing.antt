-- Lists that are read part by part.
use Rattle.std.proofs.Common.{◌≡◌, ℕ, ◌+◌, ◌<◌, List, [], ◌∷◌, ◌++◌, length, map, drop, get_or, Option, Some, None, option_map, refl, sym, ap, ◌∙◌}
use Rattle.std.proofs.lemmas.List.{drop_more, map-append}
use Rattle.jd_syntax.specs.declared.code.CodeExpr.{CodeExpr}
use Rattle.jd_syntax.specs.declared.code.CodeStmt.{CodeStmt}
use Rattle.jd_syntax.specs.declared.sx.Sx.{Sx}
use Rattle.jd_syntax.specs.CodeViews.{expr_view, stmt_view}
use Rattle.jd_syntax.specs.Codes.{Expr, Exprs, NoExprs, ExprThen, Stmt, PlainCode, Done, Then, exprs_of, stmts_of}
use Rattle.jd_syntax.specs.Sxs.{bracketed_list, sx_view}
use Rattle.jd_tgrammar.specs.NameTables.{NameTable}
use Rattle.jd_tforms.specs.Reading.{Read, both, read, reads, operands, statements}

-- the parts from that number on
abbrev pub rest : NameTable → List Sx → ℕ → List Read
rest names xs i = reads names (bracketed_list (map sx_view (drop i xs)))

pub rest_more : (names : NameTable) (xs : List Sx) (i : ℕ) (x : Sx) → i < length xs → x ≡ get_or xs i x → rest names xs i ≡ read names (sx_view x) ∷ rest names xs (i + 1)
rest_more names xs i x lt is =
    ap (λ (l : List Sx). reads names (bracketed_list (map sx_view l))) (drop_more xs i x lt ∙ ap (λ y. y ∷ drop (i + 1) xs) (sym is))

pub rest_none : (names : NameTable) (xs : List Sx) (i : ℕ) → i ≡ length xs → rest names xs i ≡ []
rest_none names xs i e = ap (λ n. rest names xs n) e ∙ all xs
  where
    all : (ys : List Sx) → rest names ys (length ys) ≡ []
    all [] = refl
    all (y ∷ ys) = all ys

-- ---- operands

abbrev pub after_exprs : List Expr → Exprs → Exprs
after_exprs [] es = es
after_exprs (d ∷ ds) es = ExprThen d (after_exprs ds es)

exprs_step : (ds : List Expr) (e : Expr) (es : Exprs) → after_exprs ds (ExprThen e es) ≡ after_exprs (ds ++ e ∷ []) es
exprs_step [] e es = refl
exprs_step (d ∷ ds) e es = ap (ExprThen d) (exprs_step ds e es)

exprs_end : (ds : List Expr) → after_exprs ds NoExprs ≡ exprs_of ds
exprs_end [] = refl
exprs_end (d ∷ ds) = ap (ExprThen d) (exprs_end ds)

-- what is read so far, and what the rest is
abbrev pub operands_from : NameTable → List Sx → ℕ → List Expr → Option Exprs
operands_from names xs i ds = option_map (after_exprs ds) (operands names (rest names xs i))

pub operands_begin : (names : NameTable) (xs : List Sx) → operands_from names xs 0 [] ≡ operands names (reads names (bracketed_list (map sx_view xs)))
operands_begin names xs = by (operands names (rest names xs 0))
  where
    by : (o : Option Exprs) → option_map (after_exprs []) o ≡ o
    by None = refl
    by (Some es) = refl

pub operands_none : (names : NameTable) (xs : List Sx) (i : ℕ) (ds : List Expr) (x : Sx) → i < length xs → x ≡ get_or xs i x → None ≡ (read names (sx_view x)).expr → None ≡ operands_from names xs i ds
operands_none names xs i ds x lt is none =
    ap (λ (o : Option Expr). option_map (after_exprs ds) (both ExprThen o (operands names (rest names xs (i + 1))))) none
    ∙ ap (λ (rs : List Read). option_map (after_exprs ds) (operands names rs)) (sym (rest_more names xs i x lt is))

pub operands_step : (names : NameTable) (xs : List Sx) (i : ℕ) (ds : List Expr) (x : Sx) (e : Expr) → i < length xs → x ≡ get_or xs i x → Some e ≡ (read names (sx_view x)).expr →
    operands_from names xs i ds ≡ operands_from names xs (i + 1) (ds ++ e ∷ [])
operands_step names xs i ds x e lt is some =
    ap (λ (rs : List Read). option_map (after_exprs ds) (operands names rs)) (rest_more names xs i x lt is)
    ∙ (ap (λ (o : Option Expr). option_map (after_exprs ds) (both ExprThen o (operands names (rest names xs (i + 1))))) (sym some)
    ∙ by (operands names (rest names xs (i + 1))))
  where
    by : (o : Option Exprs) → option_map (after_exprs ds) (option_map (ExprThen e) o) ≡ option_map (after_exprs (ds ++ e ∷ [])) o
    by None = refl
    by (Some es) = ap Some (exprs_step ds e es)

pub operands_end : (names : NameTable) (xs : List Sx) (i : ℕ) (ds : List Expr) → i ≡ length xs → operands_from names xs i ds ≡ Some (exprs_of ds)
operands_end names xs i ds e =
    ap (λ (rs : List Read). option_map (after_exprs ds) (operands names rs)) (rest_none names xs i e) ∙ ap Some (exprs_end ds)

-- one more operand
pub operands_more : (names : NameTable) (xs : List Sx) (i : ℕ) (x : Sx) (done all : List CodeExpr) (e : CodeExpr) (whole : Option Exprs) → whole ≡ operands_from names xs i (map expr_view done) →
    i < length xs → x ≡ get_or xs i x → Some (expr_view e) ≡ (read names (sx_view x)).expr → all ≡ done ++ e ∷ [] → whole ≡ operands_from names xs (i + 1) (map expr_view all)
operands_more names xs i x done all e whole so_far lt is some more =
    so_far ∙ (operands_step names xs i (map expr_view done) x (expr_view e) lt is some
    ∙ ap (operands_from names xs (i + 1)) (sym (ap (map expr_view) more ∙ map-append expr_view done (e ∷ []))))

-- no more operands
pub operands_done : (names : NameTable) (xs : List Sx) (i : ℕ) (ds : List Expr) (whole : Option Exprs) → whole ≡ operands_from names xs i ds → i ≡ length xs → Some (exprs_of ds) ≡ whole
operands_done names xs i ds whole so_far e = sym (so_far ∙ operands_end names xs i ds e)

-- ---- statements

abbrev pub after_stmts : List Stmt → PlainCode → PlainCode
after_stmts [] ss = ss
after_stmts (d ∷ ds) ss = Then d (after_stmts ds ss)

stmts_step : (ds : List Stmt) (s : Stmt) (ss : PlainCode) → after_stmts ds (Then s ss) ≡ after_stmts (ds ++ s ∷ []) ss
stmts_step [] s ss = refl
stmts_step (d ∷ ds) s ss = ap (Then d) (stmts_step ds s ss)

stmts_end : (ds : List Stmt) → after_stmts ds Done ≡ stmts_of ds
stmts_end [] = refl
stmts_end (d ∷ ds) = ap (Then d) (stmts_end ds)

abbrev pub statements_from : NameTable → List Sx → ℕ → List Stmt → Option PlainCode
statements_from names xs i ds = option_map (after_stmts ds) (statements names (rest names xs i))

pub statements_begin : (names : NameTable) (xs : List Sx) → statements_from names xs 0 [] ≡ statements names (reads names (bracketed_list (map sx_view xs)))
statements_begin names xs = by (statements names (rest names xs 0))
  where
    by : (o : Option PlainCode) → option_map (after_stmts []) o ≡ o
    by None = refl
    by (Some ss) = refl

pub statements_none : (names : NameTable) (xs : List Sx) (i : ℕ) (ds : List Stmt) (x : Sx) → i < length xs → x ≡ get_or xs i x → None ≡ (read names (sx_view x)).stmt → None ≡ statements_from names xs i ds
statements_none names xs i ds x lt is none =
    ap (λ (o : Option Stmt). option_map (after_stmts ds) (both Then o (statements names (rest names xs (i + 1))))) none
    ∙ ap (λ (rs : List Read). option_map (after_stmts ds) (statements names rs)) (sym (rest_more names xs i x lt is))

pub statements_step : (names : NameTable) (xs : List Sx) (i : ℕ) (ds : List Stmt) (x : Sx) (s : Stmt) → i < length xs → x ≡ get_or xs i x → Some s ≡ (read names (sx_view x)).stmt →
    statements_from names xs i ds ≡ statements_from names xs (i + 1) (ds ++ s ∷ [])
statements_step names xs i ds x s lt is some =
    ap (λ (rs : List Read). option_map (after_stmts ds) (statements names rs)) (rest_more names xs i x lt is)
    ∙ (ap (λ (o : Option Stmt). option_map (after_stmts ds) (both Then o (statements names (rest names xs (i + 1))))) (sym some)
    ∙ by (statements names (rest names xs (i + 1))))
  where
    by : (o : Option PlainCode) → option_map (after_stmts ds) (option_map (Then s) o) ≡ option_map (after_stmts (ds ++ s ∷ [])) o
    by None = refl
    by (Some ss) = ap Some (stmts_step ds s ss)

pub statements_end : (names : NameTable) (xs : List Sx) (i : ℕ) (ds : List Stmt) → i ≡ length xs → statements_from names xs i ds ≡ Some (stmts_of ds)
statements_end names xs i ds e =
    ap (λ (rs : List Read). option_map (after_stmts ds) (statements names rs)) (rest_none names xs i e) ∙ ap Some (stmts_end ds)

-- one more statement
pub statements_more : (names : NameTable) (xs : List Sx) (i : ℕ) (x : Sx) (done all : List CodeStmt) (s : CodeStmt) (whole : Option PlainCode) → whole ≡ statements_from names xs i (map stmt_view done) →
    i < length xs → x ≡ get_or xs i x → Some (stmt_view s) ≡ (read names (sx_view x)).stmt → all ≡ done ++ s ∷ [] → whole ≡ statements_from names xs (i + 1) (map stmt_view all)
statements_more names xs i x done all s whole so_far lt is some more =
    so_far ∙ (statements_step names xs i (map stmt_view done) x (stmt_view s) lt is some
    ∙ ap (statements_from names xs (i + 1)) (sym (ap (map stmt_view) more ∙ map-append stmt_view done (s ∷ []))))

-- no more statements
pub statements_done : (names : NameTable) (xs : List Sx) (i : ℕ) (ds : List Stmt) (whole : Option PlainCode) → whole ≡ statements_from names xs i ds → i ≡ length xs → Some (stmts_of ds) ≡ whole
statements_done names xs i ds whole so_far e = sym (so_far ∙ statements_end names xs i ds e)
