-- The views of the forms of statements, with the parts that were reached by references.
use Rattle.std.proofs.Common.{◌≡◌, ℕ, List, map, Option, Box, Global, Vec, option_map, sym, ap, ◌∙◌}
use Rattle.jd_syntax.specs.declared.java.Declarator.{Declarator}
use Rattle.jd_syntax.specs.declared.java.Expr.{Expr}
use Rattle.jd_syntax.specs.declared.java.ForStart.{ForStart}
use Rattle.jd_syntax.specs.declared.java.Handler.{Handler, out-Handler}
use Rattle.jd_syntax.specs.declared.java.Identifier.{Identifier}
use Rattle.jd_syntax.specs.declared.java.Stmt.{Stmt}
use Rattle.jd_syntax.specs.declared.java.StmtForm.{StmtForm}
use Rattle.jd_syntax.specs.declared.java.StmtForm.TheFolds.{fold-StmtForm, fold-roll-StmtForm, fold_out-Handler, fold_out-Stmt}
use Rattle.jd_syntax.specs.declared.java.StmtForm.TheOpen as layers
use Rattle.jd_syntax.specs.declared.java.StmtForm.TheVariants as forms
use Rattle.jd_syntax.specs.declared.java.WrittenType.{WrittenType}
use Rattle.jd_syntax.specs.declared.spec.SpecBlock.{SpecBlock}
use Rattle.jd_syntax.specs.JavaTypes.{identifier_view, written_view}
use Rattle.jd_syntax.specs.JavaTrees.{JavaHandler, JavaStmt, declarator_view, for_start_view, handler_layer, java_handlers, java_stmt_view, java_stmts, java_view, stmt_form_layer, stmt_layer}
use Rattle.jd_syntax.specs.JavaTrees as trees
use Rattle.jd_syntax.specs.SpecTrees.{spec_block_view}
use Rattle.jd_jcalls.specs.Handlers.{java_handler_view}

abbrev form_view : StmtForm → ℕ → JavaStmt
form_view = fold-StmtForm (ℕ → JavaStmt) JavaHandler JavaStmt stmt_form_layer handler_layer stmt_layer

viewed : (s : Stmt) (f : StmtForm) (x : JavaStmt) → s.form ≡ f → form_view f s.at ≡ x → java_stmt_view s ≡ x
viewed s f x is view = fold_out-Stmt (ℕ → JavaStmt) JavaHandler JavaStmt stmt_form_layer handler_layer stmt_layer s ∙ ap (λ g. form_view g s.at) is ∙ view

is_block : (s : Stmt) (ss : Vec Stmt Global) → s.form ≡ forms.Block ss → java_stmt_view s ≡ trees.Block s.at (java_stmts (map java_stmt_view ss.items))
is_block s ss is = viewed s _ _ is (ap (λ g. form_view g s.at) (sym (forms.rolls-Block ss)) ∙ ap (λ g. g s.at) (fold-roll-StmtForm (ℕ → JavaStmt) JavaHandler JavaStmt stmt_form_layer handler_layer stmt_layer (layers.Block ss)))

pub block_is : (s : Stmt) (ss′ : List Stmt) (ss : Vec Stmt Global) → s.form ≡ forms.Block ss → ss′ ≡ ss.items → java_stmt_view s ≡ trees.Block s.at (java_stmts (map java_stmt_view ss′))
block_is s ss′ ss is ss-is = is_block s ss is ∙ ap (λ (z : List Stmt). trees.Block s.at (java_stmts (map java_stmt_view z))) (sym ss-is)

is_empty : (s : Stmt) → s.form ≡ forms.Empty → java_stmt_view s ≡ trees.Empty s.at
is_empty s is = viewed s _ _ is (ap (λ g. form_view g s.at) (sym forms.rolls-Empty) ∙ ap (λ g. g s.at) (fold-roll-StmtForm (ℕ → JavaStmt) JavaHandler JavaStmt stmt_form_layer handler_layer stmt_layer layers.Empty))

pub empty_is : (s : Stmt) → s.form ≡ forms.Empty → java_stmt_view s ≡ trees.Empty s.at
empty_is s is = is_empty s is

is_local : (s : Stmt) (w : WrittenType) (xs : Vec Declarator Global) → s.form ≡ forms.Local w xs → java_stmt_view s ≡ trees.Local s.at (written_view w) (map declarator_view xs.items)
is_local s w xs is = viewed s _ _ is (ap (λ g. form_view g s.at) (sym (forms.rolls-Local w xs)) ∙ ap (λ g. g s.at) (fold-roll-StmtForm (ℕ → JavaStmt) JavaHandler JavaStmt stmt_form_layer handler_layer stmt_layer (layers.Local w xs)))

pub local_is : (s : Stmt) (xs′ : List Declarator) (w : WrittenType) (xs : Vec Declarator Global) → s.form ≡ forms.Local w xs → xs′ ≡ xs.items → java_stmt_view s ≡ trees.Local s.at (written_view w) (map declarator_view xs′)
local_is s xs′ w xs is xs-is = is_local s w xs is ∙ ap (λ (z : List Declarator). trees.Local s.at (written_view w) (map declarator_view z)) (sym xs-is)

is_evaluate : (s : Stmt) (e : Expr) → s.form ≡ forms.Evaluate e → java_stmt_view s ≡ trees.Evaluate s.at (java_view e)
is_evaluate s e is = viewed s _ _ is (ap (λ g. form_view g s.at) (sym (forms.rolls-Evaluate e)) ∙ ap (λ g. g s.at) (fold-roll-StmtForm (ℕ → JavaStmt) JavaHandler JavaStmt stmt_form_layer handler_layer stmt_layer (layers.Evaluate e)))

pub evaluate_is : (s : Stmt) (e : Expr) → s.form ≡ forms.Evaluate e → java_stmt_view s ≡ trees.Evaluate s.at (java_view e)
evaluate_is s e is = is_evaluate s e is

is_label : (s : Stmt) (j : Option SpecBlock) (l : Vec ℕ Global) (b : Box Stmt Global) → s.form ≡ forms.Label j l b → java_stmt_view s ≡ trees.Label s.at (option_map spec_block_view j) l.items (java_stmt_view b.value)
is_label s j l b is = viewed s _ _ is (ap (λ g. form_view g s.at) (sym (forms.rolls-Label j l b)) ∙ ap (λ g. g s.at) (fold-roll-StmtForm (ℕ → JavaStmt) JavaHandler JavaStmt stmt_form_layer handler_layer stmt_layer (layers.Label j l b)))

pub label_is : (s : Stmt) (l′ : List ℕ) (b′ : Stmt) (j : Option SpecBlock) (l : Vec ℕ Global) (b : Box Stmt Global) → s.form ≡ forms.Label j l b → l′ ≡ l.items → b′ ≡ b.value → java_stmt_view s ≡ trees.Label s.at (option_map spec_block_view j) l′ (java_stmt_view b′)
label_is s l′ b′ j l b is l-is b-is = is_label s j l b is ∙ ap (λ (z : List ℕ). trees.Label s.at (option_map spec_block_view j) z (java_stmt_view b.value)) (sym l-is) ∙ ap (λ (z : Stmt). trees.Label s.at (option_map spec_block_view j) l′ (java_stmt_view z)) (sym b-is)

is_if : (s : Stmt) (e : Expr) (b : Box Stmt Global) → s.form ≡ forms.If e b → java_stmt_view s ≡ trees.If s.at (java_view e) (java_stmt_view b.value)
is_if s e b is = viewed s _ _ is (ap (λ g. form_view g s.at) (sym (forms.rolls-If e b)) ∙ ap (λ g. g s.at) (fold-roll-StmtForm (ℕ → JavaStmt) JavaHandler JavaStmt stmt_form_layer handler_layer stmt_layer (layers.If e b)))

pub if_is : (s : Stmt) (b′ : Stmt) (e : Expr) (b : Box Stmt Global) → s.form ≡ forms.If e b → b′ ≡ b.value → java_stmt_view s ≡ trees.If s.at (java_view e) (java_stmt_view b′)
if_is s b′ e b is b-is = is_if s e b is ∙ ap (λ (z : Stmt). trees.If s.at (java_view e) (java_stmt_view z)) (sym b-is)

is_else : (s : Stmt) (e : Expr) (b : Box Stmt Global) (o : Box Stmt Global) → s.form ≡ forms.IfElse e b o → java_stmt_view s ≡ trees.IfElse s.at (java_view e) (java_stmt_view b.value) (java_stmt_view o.value)
is_else s e b o is = viewed s _ _ is (ap (λ g. form_view g s.at) (sym (forms.rolls-IfElse e b o)) ∙ ap (λ g. g s.at) (fold-roll-StmtForm (ℕ → JavaStmt) JavaHandler JavaStmt stmt_form_layer handler_layer stmt_layer (layers.IfElse e b o)))

pub else_is : (s : Stmt) (b′ : Stmt) (o′ : Stmt) (e : Expr) (b : Box Stmt Global) (o : Box Stmt Global) → s.form ≡ forms.IfElse e b o → b′ ≡ b.value → o′ ≡ o.value → java_stmt_view s ≡ trees.IfElse s.at (java_view e) (java_stmt_view b′) (java_stmt_view o′)
else_is s b′ o′ e b o is b-is o-is = is_else s e b o is ∙ ap (λ (z : Stmt). trees.IfElse s.at (java_view e) (java_stmt_view z) (java_stmt_view o.value)) (sym b-is) ∙ ap (λ (z : Stmt). trees.IfElse s.at (java_view e) (java_stmt_view b′) (java_stmt_view z)) (sym o-is)

is_while : (s : Stmt) (j : Option SpecBlock) (e : Expr) (b : Box Stmt Global) → s.form ≡ forms.While j e b → java_stmt_view s ≡ trees.While s.at (option_map spec_block_view j) (java_view e) (java_stmt_view b.value)
is_while s j e b is = viewed s _ _ is (ap (λ g. form_view g s.at) (sym (forms.rolls-While j e b)) ∙ ap (λ g. g s.at) (fold-roll-StmtForm (ℕ → JavaStmt) JavaHandler JavaStmt stmt_form_layer handler_layer stmt_layer (layers.While j e b)))

pub while_is : (s : Stmt) (b′ : Stmt) (j : Option SpecBlock) (e : Expr) (b : Box Stmt Global) → s.form ≡ forms.While j e b → b′ ≡ b.value → java_stmt_view s ≡ trees.While s.at (option_map spec_block_view j) (java_view e) (java_stmt_view b′)
while_is s b′ j e b is b-is = is_while s j e b is ∙ ap (λ (z : Stmt). trees.While s.at (option_map spec_block_view j) (java_view e) (java_stmt_view z)) (sym b-is)

is_for : (s : Stmt) (j : Option SpecBlock) (f : ForStart) (c : Option Expr) (es : Vec Expr Global) (b : Box Stmt Global) → s.form ≡ forms.For j f c es b → java_stmt_view s ≡ trees.For s.at (option_map spec_block_view j) (for_start_view f) (option_map java_view c) (map java_view es.items) (java_stmt_view b.value)
is_for s j f c es b is = viewed s _ _ is (ap (λ g. form_view g s.at) (sym (forms.rolls-For j f c es b)) ∙ ap (λ g. g s.at) (fold-roll-StmtForm (ℕ → JavaStmt) JavaHandler JavaStmt stmt_form_layer handler_layer stmt_layer (layers.For j f c es b)))

pub for_is : (s : Stmt) (c′ : Option Expr) (es′ : List Expr) (b′ : Stmt) (j : Option SpecBlock) (f : ForStart) (c : Option Expr) (es : Vec Expr Global) (b : Box Stmt Global) → s.form ≡ forms.For j f c es b → c′ ≡ c → es′ ≡ es.items → b′ ≡ b.value → java_stmt_view s ≡ trees.For s.at (option_map spec_block_view j) (for_start_view f) (option_map java_view c′) (map java_view es′) (java_stmt_view b′)
for_is s c′ es′ b′ j f c es b is c-is es-is b-is = is_for s j f c es b is ∙ ap (λ (z : Option Expr). trees.For s.at (option_map spec_block_view j) (for_start_view f) (option_map java_view z) (map java_view es.items) (java_stmt_view b.value)) (sym c-is) ∙ ap (λ (z : List Expr). trees.For s.at (option_map spec_block_view j) (for_start_view f) (option_map java_view c′) (map java_view z) (java_stmt_view b.value)) (sym es-is) ∙ ap (λ (z : Stmt). trees.For s.at (option_map spec_block_view j) (for_start_view f) (option_map java_view c′) (map java_view es′) (java_stmt_view z)) (sym b-is)

is_break : (s : Stmt) (l : Option Identifier) → s.form ≡ forms.Break l → java_stmt_view s ≡ trees.Break s.at (option_map identifier_view l)
is_break s l is = viewed s _ _ is (ap (λ g. form_view g s.at) (sym (forms.rolls-Break l)) ∙ ap (λ g. g s.at) (fold-roll-StmtForm (ℕ → JavaStmt) JavaHandler JavaStmt stmt_form_layer handler_layer stmt_layer (layers.Break l)))

pub break_is : (s : Stmt) (l : Option Identifier) → s.form ≡ forms.Break l → java_stmt_view s ≡ trees.Break s.at (option_map identifier_view l)
break_is s l is = is_break s l is

is_continue : (s : Stmt) (l : Option Identifier) → s.form ≡ forms.Continue l → java_stmt_view s ≡ trees.Continue s.at (option_map identifier_view l)
is_continue s l is = viewed s _ _ is (ap (λ g. form_view g s.at) (sym (forms.rolls-Continue l)) ∙ ap (λ g. g s.at) (fold-roll-StmtForm (ℕ → JavaStmt) JavaHandler JavaStmt stmt_form_layer handler_layer stmt_layer (layers.Continue l)))

pub continue_is : (s : Stmt) (l : Option Identifier) → s.form ≡ forms.Continue l → java_stmt_view s ≡ trees.Continue s.at (option_map identifier_view l)
continue_is s l is = is_continue s l is

is_return : (s : Stmt) (e : Option Expr) → s.form ≡ forms.Return e → java_stmt_view s ≡ trees.Return s.at (option_map java_view e)
is_return s e is = viewed s _ _ is (ap (λ g. form_view g s.at) (sym (forms.rolls-Return e)) ∙ ap (λ g. g s.at) (fold-roll-StmtForm (ℕ → JavaStmt) JavaHandler JavaStmt stmt_form_layer handler_layer stmt_layer (layers.Return e)))

pub return_is : (s : Stmt) (e : Option Expr) → s.form ≡ forms.Return e → java_stmt_view s ≡ trees.Return s.at (option_map java_view e)
return_is s e is = is_return s e is

is_throw : (s : Stmt) (e : Expr) → s.form ≡ forms.Throw e → java_stmt_view s ≡ trees.Throw s.at (java_view e)
is_throw s e is = viewed s _ _ is (ap (λ g. form_view g s.at) (sym (forms.rolls-Throw e)) ∙ ap (λ g. g s.at) (fold-roll-StmtForm (ℕ → JavaStmt) JavaHandler JavaStmt stmt_form_layer handler_layer stmt_layer (layers.Throw e)))

pub throw_is : (s : Stmt) (e : Expr) → s.form ≡ forms.Throw e → java_stmt_view s ≡ trees.Throw s.at (java_view e)
throw_is s e is = is_throw s e is

is_try : (s : Stmt) (ss : Vec Stmt Global) (hs : Vec Handler Global) → s.form ≡ forms.Try ss hs → java_stmt_view s ≡ trees.Try s.at (java_stmts (map java_stmt_view ss.items)) (java_handlers (map java_handler_view hs.items))
is_try s ss hs is = viewed s _ _ is (ap (λ g. form_view g s.at) (sym (forms.rolls-Try ss hs)) ∙ ap (λ g. g s.at) (fold-roll-StmtForm (ℕ → JavaStmt) JavaHandler JavaStmt stmt_form_layer handler_layer stmt_layer (layers.Try ss hs)))

pub try_is : (s : Stmt) (ss′ : List Stmt) (hs′ : List Handler) (ss : Vec Stmt Global) (hs : Vec Handler Global) → s.form ≡ forms.Try ss hs → ss′ ≡ ss.items → hs′ ≡ hs.items → java_stmt_view s ≡ trees.Try s.at (java_stmts (map java_stmt_view ss′)) (java_handlers (map java_handler_view hs′))
try_is s ss′ hs′ ss hs is ss-is hs-is = is_try s ss hs is ∙ ap (λ (z : List Stmt). trees.Try s.at (java_stmts (map java_stmt_view z)) (java_handlers (map java_handler_view hs.items))) (sym ss-is) ∙ ap (λ (z : List Handler). trees.Try s.at (java_stmts (map java_stmt_view ss′)) (java_handlers (map java_handler_view z))) (sym hs-is)

is_finally : (s : Stmt) (ss : Vec Stmt Global) (hs : Vec Handler Global) (fs : Vec Stmt Global) → s.form ≡ forms.TryFinally ss hs fs → java_stmt_view s ≡ trees.TryFinally s.at (java_stmts (map java_stmt_view ss.items)) (java_handlers (map java_handler_view hs.items)) (java_stmts (map java_stmt_view fs.items))
is_finally s ss hs fs is = viewed s _ _ is (ap (λ g. form_view g s.at) (sym (forms.rolls-TryFinally ss hs fs)) ∙ ap (λ g. g s.at) (fold-roll-StmtForm (ℕ → JavaStmt) JavaHandler JavaStmt stmt_form_layer handler_layer stmt_layer (layers.TryFinally ss hs fs)))

pub finally_is : (s : Stmt) (ss′ : List Stmt) (hs′ : List Handler) (fs′ : List Stmt) (ss : Vec Stmt Global) (hs : Vec Handler Global) (fs : Vec Stmt Global) → s.form ≡ forms.TryFinally ss hs fs → ss′ ≡ ss.items → hs′ ≡ hs.items → fs′ ≡ fs.items → java_stmt_view s ≡ trees.TryFinally s.at (java_stmts (map java_stmt_view ss′)) (java_handlers (map java_handler_view hs′)) (java_stmts (map java_stmt_view fs′))
finally_is s ss′ hs′ fs′ ss hs fs is ss-is hs-is fs-is = is_finally s ss hs fs is ∙ ap (λ (z : List Stmt). trees.TryFinally s.at (java_stmts (map java_stmt_view z)) (java_handlers (map java_handler_view hs.items)) (java_stmts (map java_stmt_view fs.items))) (sym ss-is) ∙ ap (λ (z : List Handler). trees.TryFinally s.at (java_stmts (map java_stmt_view ss′)) (java_handlers (map java_handler_view z)) (java_stmts (map java_stmt_view fs.items))) (sym hs-is) ∙ ap (λ (z : List Stmt). trees.TryFinally s.at (java_stmts (map java_stmt_view ss′)) (java_handlers (map java_handler_view hs′)) (java_stmts (map java_stmt_view z))) (sym fs-is)

is_super : (s : Stmt) (es : Vec Expr Global) → s.form ≡ forms.Super es → java_stmt_view s ≡ trees.Super s.at (map java_view es.items)
is_super s es is = viewed s _ _ is (ap (λ g. form_view g s.at) (sym (forms.rolls-Super es)) ∙ ap (λ g. g s.at) (fold-roll-StmtForm (ℕ → JavaStmt) JavaHandler JavaStmt stmt_form_layer handler_layer stmt_layer (layers.Super es)))

pub super_is : (s : Stmt) (es′ : List Expr) (es : Vec Expr Global) → s.form ≡ forms.Super es → es′ ≡ es.items → java_stmt_view s ≡ trees.Super s.at (map java_view es′)
super_is s es′ es is es-is = is_super s es is ∙ ap (λ (z : List Expr). trees.Super s.at (map java_view z)) (sym es-is)

pub is_handler : (h : Handler) → java_handler_view h ≡ trees.Catch (out-Handler h).at (identifier_view (out-Handler h).class) (identifier_view (out-Handler h).name) (java_stmts (map java_stmt_view (out-Handler h).body.items))
is_handler h = fold_out-Handler (ℕ → JavaStmt) JavaHandler JavaStmt stmt_form_layer handler_layer stmt_layer h
