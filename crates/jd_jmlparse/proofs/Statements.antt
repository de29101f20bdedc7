-- The views of the forms of statements in which blocks stand.
use Rattle.std.proofs.Common.{◌≡◌, ℕ, List, length, vec_len, Option, Box, Global, Vec, option_map, map, sym, ap, subst, ◌∙◌}
use Rattle.std.specs.Vec.{with_items}
use Rattle.std.proofs.lemmas.List.{with_items_is}
use Rattle.jd_syntax.specs.declared.java.Expr.{Expr}
use Rattle.jd_syntax.specs.declared.java.ForStart.{ForStart}
use Rattle.jd_syntax.specs.declared.java.Handler.{Handler}
use Rattle.jd_syntax.specs.declared.java.Stmt.{Stmt}
use Rattle.jd_syntax.specs.declared.java.StmtForm.{StmtForm}
use Rattle.jd_syntax.specs.declared.java.StmtForm.TheFolds.{fold-roll-StmtForm}
use Rattle.jd_syntax.specs.declared.java.StmtForm.TheOpen as layers
use Rattle.jd_syntax.specs.declared.java.StmtForm.TheVariants as forms
use Rattle.jd_syntax.specs.declared.spec.SpecBlock.{SpecBlock}
use Rattle.jd_syntax.specs.JavaTrees.{JavaHandler, JavaHandlers, JavaStmt, JavaStmts, java_handlers, java_stmt_view, java_stmts, java_view, for_start_view, handler_layer, stmt_form_layer, stmt_layer}
use Rattle.jd_syntax.specs.JavaTrees as trees
use Rattle.jd_syntax.specs.SpecTrees.{PlainSpecBlock, spec_block_view}
use Rattle.jd_jcalls.specs.Handlers.{java_handler_view}
use Rattle.jd_lex.specs.Parts as lexed
use Rattle.jd_jmlparse.specs.Filled.{bare_stmt, stmt_blocks}
use Rattle.jd_jmlparse.specs.Filling.{Goes, form_view}
use Rattle.jd_jmlparse.specs.declared.fill.refused.Cause.{Cause}

-- a form's view, from that of its layer
abbrev Viewed : ℕ → StmtForm → JavaStmt → Type 0
Viewed at f x = form_view f at ≡ x

pub is_block : (at : ℕ) (ss : Vec Stmt Global) → Viewed at (forms.Block ss) (trees.Block at (java_stmts (map java_stmt_view ss.items)))
is_block at ss = ap (λ g. form_view g at) (sym (forms.rolls-Block ss)) ∙ ap (λ g. g at) (fold-roll-StmtForm (ℕ → JavaStmt) JavaHandler JavaStmt stmt_form_layer handler_layer stmt_layer (layers.Block ss))

pub is_if : (at : ℕ) (e : Expr) (b : Box Stmt Global) → Viewed at (forms.If e b) (trees.If at (java_view e) (java_stmt_view b.value))
is_if at e b = ap (λ g. form_view g at) (sym (forms.rolls-If e b)) ∙ ap (λ g. g at) (fold-roll-StmtForm (ℕ → JavaStmt) JavaHandler JavaStmt stmt_form_layer handler_layer stmt_layer (layers.If e b))

pub is_label : (at : ℕ) (j : Option SpecBlock) (l : Vec ℕ Global) (b : Box Stmt Global) → Viewed at (forms.Label j l b) (trees.Label at (option_map spec_block_view j) (l.items) (java_stmt_view b.value))
is_label at j l b = ap (λ g. form_view g at) (sym (forms.rolls-Label j l b)) ∙ ap (λ g. g at) (fold-roll-StmtForm (ℕ → JavaStmt) JavaHandler JavaStmt stmt_form_layer handler_layer stmt_layer (layers.Label j l b))

pub is_while : (at : ℕ) (j : Option SpecBlock) (e : Expr) (b : Box Stmt Global) → Viewed at (forms.While j e b) (trees.While at (option_map spec_block_view j) (java_view e) (java_stmt_view b.value))
is_while at j e b = ap (λ g. form_view g at) (sym (forms.rolls-While j e b)) ∙ ap (λ g. g at) (fold-roll-StmtForm (ℕ → JavaStmt) JavaHandler JavaStmt stmt_form_layer handler_layer stmt_layer (layers.While j e b))

pub is_for : (at : ℕ) (j : Option SpecBlock) (f : ForStart) (e : Option Expr) (es : Vec Expr Global) (b : Box Stmt Global) → Viewed at (forms.For j f e es b) (trees.For at (option_map spec_block_view j) (for_start_view f) (option_map java_view e) (map java_view es.items) (java_stmt_view b.value))
is_for at j f e es b = ap (λ g. form_view g at) (sym (forms.rolls-For j f e es b)) ∙ ap (λ g. g at) (fold-roll-StmtForm (ℕ → JavaStmt) JavaHandler JavaStmt stmt_form_layer handler_layer stmt_layer (layers.For j f e es b))

pub is_ifelse : (at : ℕ) (e : Expr) (a : Box Stmt Global) (b : Box Stmt Global) → Viewed at (forms.IfElse e a b) (trees.IfElse at (java_view e) (java_stmt_view a.value) (java_stmt_view b.value))
is_ifelse at e a b = ap (λ g. form_view g at) (sym (forms.rolls-IfElse e a b)) ∙ ap (λ g. g at) (fold-roll-StmtForm (ℕ → JavaStmt) JavaHandler JavaStmt stmt_form_layer handler_layer stmt_layer (layers.IfElse e a b))

pub is_try : (at : ℕ) (ss : Vec Stmt Global) (hs : Vec Handler Global) → Viewed at (forms.Try ss hs) (trees.Try at (java_stmts (map java_stmt_view ss.items)) (java_handlers (map java_handler_view hs.items)))
is_try at ss hs = ap (λ g. form_view g at) (sym (forms.rolls-Try ss hs)) ∙ ap (λ g. g at) (fold-roll-StmtForm (ℕ → JavaStmt) JavaHandler JavaStmt stmt_form_layer handler_layer stmt_layer (layers.Try ss hs))

pub is_tryfinally : (at : ℕ) (ss : Vec Stmt Global) (hs : Vec Handler Global) (ts : Vec Stmt Global) → Viewed at (forms.TryFinally ss hs ts) (trees.TryFinally at (java_stmts (map java_stmt_view ss.items)) (java_handlers (map java_handler_view hs.items)) (java_stmts (map java_stmt_view ts.items)))
is_tryfinally at ss hs ts = ap (λ g. form_view g at) (sym (forms.rolls-TryFinally ss hs ts)) ∙ ap (λ g. g at) (fold-roll-StmtForm (ℕ → JavaStmt) JavaHandler JavaStmt stmt_form_layer handler_layer stmt_layer (layers.TryFinally ss hs ts))

-- the form of before, without its clauses
pub same_form : (at : ℕ) (f g h : StmtForm) (x y : JavaStmt) → h ≡ f → Viewed at g x → Viewed at f y → bare_stmt x ≡ bare_stmt y → bare_stmt (form_view g at) ≡ bare_stmt (form_view h at)
same_form at f g h x y is vg vf e = ap bare_stmt vg ∙ e ∙ sym (ap bare_stmt vf) ∙ ap (λ k. bare_stmt (form_view k at)) (sym is)

pub goes_form : (ts : List lexed.Token) (a b : Option Cause) (at : ℕ) (g : StmtForm) (x : JavaStmt) → Viewed at g x → Goes ts a (stmt_blocks x) b → Goes ts a (stmt_blocks (form_view g at)) b
goes_form ts a b at g x v goes = subst (λ y. Goes ts a (stmt_blocks y) b) (sym v) goes

-- the elements of a vector whose elements were written
pub same_items : {A C : Type 0} (F : List A → C) (v : Vec A Global) (ws n : List A) → length ws ≡ length n → length n ≡ vec_len v → n ≡ v.items → F ws ≡ F n → F (with_items v ws).items ≡ F v.items
same_items F v ws n k l is e = ap F (with_items_is v ws (k ∙ l)) ∙ e ∙ ap F is

pub goes_items : {A : Type 0} (F : List A → List PlainSpecBlock) (v : Vec A Global) (ws n : List A) (ts : List lexed.Token) (a b : Option Cause) → length ws ≡ length n → length n ≡ vec_len v → Goes ts a (F ws) b → Goes ts a (F (with_items v ws).items) b
goes_items F v ws n ts a b k l goes = subst (λ xs. Goes ts a (F xs) b) (sym (with_items_is v ws (k ∙ l))) goes

pub two : {A B C : Type 0} (f : A → B → C) (a c : A) (b d : B) → a ≡ c → b ≡ d → f a b ≡ f c d
two f a c b d p q = ap (λ x. f x b) p ∙ ap (f c) q

pub three : {A B C D : Type 0} (f : A → B → C → D) (a x : A) (b y : B) (c z : C) → a ≡ x → b ≡ y → c ≡ z → f a b c ≡ f x y z
three f a x b y c z p q r = ap (λ u. f u b c) p ∙ ap (λ u. f x u c) q ∙ ap (f x y) r
