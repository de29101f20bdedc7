-- What the forms of statements come to, each from what its parts gave.
use Rattle.std.proofs.Common.{Bool, ◌≡◌, ◌<◌, ◌+◌, ℕ, List, ◌∷◌, drop, get_or, length, map, Option, Box, Global, Vec, option_map, Result, Ok, Err, IfErr, IsErrAnd, sym, ap, subst, ◌∙◌}
use Rattle.std.proofs.lemmas.List.{drop_more}
use Rattle.jd_syntax.specs.declared.java.Expr.{Expr}
use Rattle.jd_syntax.specs.declared.java.ForStart.{ForStart}
use Rattle.jd_syntax.specs.declared.java.Handler.{Handler, out-Handler}
use Rattle.jd_syntax.specs.declared.java.Stmt.{Stmt}
use Rattle.jd_syntax.specs.declared.java.StmtForm.{StmtForm}
use Rattle.jd_syntax.specs.declared.java.StmtForm.TheFolds.{fold-StmtForm, fold-roll-StmtForm, fold_out-Handler, fold_out-Stmt}
use Rattle.jd_syntax.specs.declared.java.StmtForm.TheOpen as layers
use Rattle.jd_syntax.specs.declared.java.StmtForm.TheVariants as forms
use Rattle.jd_syntax.specs.declared.spec.SpecBlock.{SpecBlock}
use Rattle.jd_syntax.specs.JavaTypes.{identifier_view}
use Rattle.jd_syntax.specs.JavaTrees.{JavaExpr, JavaForStart, JavaHandler, JavaHandlers, JavaStmt, JavaStmts, java_handlers, java_stmt_view, java_stmts, java_view, for_start_view, handler_layer, stmt_form_layer, stmt_layer}
use Rattle.jd_syntax.specs.JavaTrees as trees
use Rattle.jd_syntax.specs.SpecTrees.{spec_block_view}
use Rattle.jd_jcalls.specs.Handlers.{java_handler_view}
use Rattle.jd_bodies.specs.declared.fault.Fault.{Fault}
use Rattle.jd_bodies.specs.declared.place.Place.{Place}
use Rattle.jd_bodies.specs.declared.place.Returns.{Returns}
use Rattle.jd_bodies.specs.declared.value.ValueType.TheVariants as types
use Rattle.jd_bodies.specs.Declarations.{Declarations}
use Rattle.jd_bodies.specs.Judgements.{and_then}
use Rattle.jd_bodies.specs.Scopes.{Scope}
use Rattle.jd_bodies.specs.Statements.{out_of, inside_label, is_loop, part, for_head, while_head, caught, stmt, stmts, handlers}
use Rattle.jd_naming.specs.Marks.{left_at, marked}
use Rattle.jd_statements.specs.Judged.{IsStop}
use Rattle.jd_naming.specs.declared.scope.Mark.{Mark}
use Rattle.jd_statements.specs.declared.stop.Stop.{Stop}
use Rattle.jd_statements.specs.declared.stop.Stop.TheVariants.{Refused, NoMemory}
use Rattle.jd_statements.proofs.Growing.{block_left, label_left, if_left, else_left, while_left, for_left, handler_left, finally_left}

-- ---- views of forms

abbrev form_view : StmtForm → ℕ → JavaStmt
form_view = fold-StmtForm (ℕ → JavaStmt) JavaHandler JavaStmt stmt_form_layer handler_layer stmt_layer

viewed : (s : Stmt) (f : StmtForm) (x : JavaStmt) → s.form ≡ f → form_view f s.at ≡ x → java_stmt_view s ≡ x
viewed s f x is view = fold_out-Stmt (ℕ → JavaStmt) JavaHandler JavaStmt stmt_form_layer handler_layer stmt_layer s ∙ ap (λ g. form_view g s.at) is ∙ view

pub is_block : (s : Stmt) (ss : Vec Stmt Global) → s.form ≡ forms.Block ss → java_stmt_view s ≡ trees.Block s.at (java_stmts (map java_stmt_view ss.items))
is_block s ss is = viewed s _ _ is (ap (λ g. form_view g s.at) (sym (forms.rolls-Block ss)) ∙ ap (λ g. g s.at) (fold-roll-StmtForm (ℕ → JavaStmt) JavaHandler JavaStmt stmt_form_layer handler_layer stmt_layer (layers.Block ss)))

pub is_label : (s : Stmt) (j : Option SpecBlock) (l : Vec ℕ Global) (b : Box Stmt Global) → s.form ≡ forms.Label j l b → java_stmt_view s ≡ trees.Label s.at (option_map spec_block_view j) l.items (java_stmt_view b.value)
is_label s j l b is = viewed s _ _ is (ap (λ g. form_view g s.at) (sym (forms.rolls-Label j l b)) ∙ ap (λ g. g s.at) (fold-roll-StmtForm (ℕ → JavaStmt) JavaHandler JavaStmt stmt_form_layer handler_layer stmt_layer (layers.Label j l b)))

pub is_if : (s : Stmt) (e : Expr) (b : Box Stmt Global) → s.form ≡ forms.If e b → java_stmt_view s ≡ trees.If s.at (java_view e) (java_stmt_view b.value)
is_if s e b is = viewed s _ _ is (ap (λ g. form_view g s.at) (sym (forms.rolls-If e b)) ∙ ap (λ g. g s.at) (fold-roll-StmtForm (ℕ → JavaStmt) JavaHandler JavaStmt stmt_form_layer handler_layer stmt_layer (layers.If e b)))

pub is_else : (s : Stmt) (e : Expr) (a b : Box Stmt Global) → s.form ≡ forms.IfElse e a b → java_stmt_view s ≡ trees.IfElse s.at (java_view e) (java_stmt_view a.value) (java_stmt_view b.value)
is_else s e a b is = viewed s _ _ is (ap (λ g. form_view g s.at) (sym (forms.rolls-IfElse e a b)) ∙ ap (λ g. g s.at) (fold-roll-StmtForm (ℕ → JavaStmt) JavaHandler JavaStmt stmt_form_layer handler_layer stmt_layer (layers.IfElse e a b)))

pub is_while : (s : Stmt) (j : Option SpecBlock) (e : Expr) (b : Box Stmt Global) → s.form ≡ forms.While j e b → java_stmt_view s ≡ trees.While s.at (option_map spec_block_view j) (java_view e) (java_stmt_view b.value)
is_while s j e b is = viewed s _ _ is (ap (λ g. form_view g s.at) (sym (forms.rolls-While j e b)) ∙ ap (λ g. g s.at) (fold-roll-StmtForm (ℕ → JavaStmt) JavaHandler JavaStmt stmt_form_layer handler_layer stmt_layer (layers.While j e b)))

pub is_for : (s : Stmt) (j : Option SpecBlock) (f : ForStart) (e : Option Expr) (es : Vec Expr Global) (b : Box Stmt Global) → s.form ≡ forms.For j f e es b → java_stmt_view s ≡ trees.For s.at (option_map spec_block_view j) (for_start_view f) (option_map java_view e) (map java_view es.items) (java_stmt_view b.value)
is_for s j f e es b is = viewed s _ _ is (ap (λ g. form_view g s.at) (sym (forms.rolls-For j f e es b)) ∙ ap (λ g. g s.at) (fold-roll-StmtForm (ℕ → JavaStmt) JavaHandler JavaStmt stmt_form_layer handler_layer stmt_layer (layers.For j f e es b)))

pub is_try : (s : Stmt) (ss : Vec Stmt Global) (hs : Vec Handler Global) → s.form ≡ forms.Try ss hs → java_stmt_view s ≡ trees.Try s.at (java_stmts (map java_stmt_view ss.items)) (java_handlers (map java_handler_view hs.items))
is_try s ss hs is = viewed s _ _ is (ap (λ g. form_view g s.at) (sym (forms.rolls-Try ss hs)) ∙ ap (λ g. g s.at) (fold-roll-StmtForm (ℕ → JavaStmt) JavaHandler JavaStmt stmt_form_layer handler_layer stmt_layer (layers.Try ss hs)))

pub is_tryfinally : (s : Stmt) (ss : Vec Stmt Global) (hs : Vec Handler Global) (fs : Vec Stmt Global) → s.form ≡ forms.TryFinally ss hs fs → java_stmt_view s ≡ trees.TryFinally s.at (java_stmts (map java_stmt_view ss.items)) (java_handlers (map java_handler_view hs.items)) (java_stmts (map java_stmt_view fs.items))
is_tryfinally s ss hs fs is = viewed s _ _ is (ap (λ g. form_view g s.at) (sym (forms.rolls-TryFinally ss hs fs)) ∙ ap (λ g. g s.at) (fold-roll-StmtForm (ℕ → JavaStmt) JavaHandler JavaStmt stmt_form_layer handler_layer stmt_layer (layers.TryFinally ss hs fs)))

pub is_handler : (h : Handler) → java_handler_view h ≡ trees.Catch (out-Handler h).at (identifier_view (out-Handler h).class) (identifier_view (out-Handler h).name) (java_stmts (map java_stmt_view (out-Handler h).body.items))
is_handler h = fold_out-Handler (ℕ → JavaStmt) JavaHandler JavaStmt stmt_form_layer handler_layer stmt_layer h

-- ---- results in a row

abbrev ok : Scope → Result Scope Fault
ok s = Ok s

-- an early way out hands on what it was told
pub passed_on : {A : Type 0} (r : Result A Stop) (P Q : Stop → Type 0) → IsErrAnd r P → ((e : Stop) → P e → Q e) → IfErr r Q
passed_on (Ok a) P Q told each = tt
passed_on (Err e) P Q told each = each e told

-- a scope that is left at its mark
ended : (r : Result Scope Fault) (s t now : Scope) (mark : Mark) → r ≡ Ok t → left_at (marked s) t ≡ s → mark ≡ marked s → now ≡ left_at mark t → out_of s r ≡ Ok now
ended r s t now mark told left marks is = ap (out_of s) told ∙ ap ok (sym (is ∙ ap (λ m. left_at m t) marks ∙ left))

module _ (d : Declarations) (place : Place) (returns : Returns) where
  pub block_taken : (x : JavaStmt) (at : ℕ) (bs cs : JavaStmts) (s t now : Scope) (mark : Mark) → x ≡ trees.Block at bs → cs ≡ bs → stmts d place returns cs s ≡ Ok t → mark ≡ marked s → now ≡ left_at mark t → stmt d place returns x s ≡ Ok now
  block_taken x at bs cs s t now mark view same told marks is =
      let inner = subst (λ c. stmts d place returns c s ≡ ok t) same told in
      ap (λ y. stmt d place returns y s) view ∙ ended (stmts d place returns bs s) s t now mark inner (block_left d place returns bs s t inner) marks is

  pub if_taken : (x : JavaStmt) (at : ℕ) (c : JavaExpr) (b a : JavaStmt) (s t now : Scope) (mark : Mark) → x ≡ trees.If at c b → a ≡ b → part d place types.Boolean c s ≡ Ok s → stmt d place returns a s ≡ Ok t → mark ≡ marked s → now ≡ left_at mark t → stmt d place returns x s ≡ Ok now
  if_taken x at c b a s t now mark view same met told marks is =
      let inner = subst (λ y. stmt d place returns y s ≡ ok t) same told in
      ap (λ y. stmt d place returns y s) view ∙ ended _ s t now mark (ap (and_then (stmt d place returns b)) met ∙ inner) (if_left d place returns c b s s t met inner) marks is

  pub else_taken : (x : JavaStmt) (at : ℕ) (c : JavaExpr) (b a o n : JavaStmt) (s v t now : Scope) (mark : Mark) → x ≡ trees.IfElse at c b o → a ≡ b → n ≡ o → part d place types.Boolean c s ≡ Ok s → stmt d place returns a s ≡ Ok v → stmt d place returns n v ≡ Ok t → mark ≡ marked s → now ≡ left_at mark t → stmt d place returns x s ≡ Ok now
  else_taken x at c b a o n s v t now mark view same like met first second marks is =
      let one = subst (λ y. stmt d place returns y s ≡ ok v) same first in
      let two = subst (λ y. stmt d place returns y v ≡ ok t) like second in
      ap (λ y. stmt d place returns y s) view
      ∙ ended _ s t now mark (ap (λ r. and_then (stmt d place returns o) (and_then (stmt d place returns b) r)) met ∙ ap (and_then (stmt d place returns o)) one ∙ two) (else_left d place returns c b o s s v t met one two) marks is

  pub while_taken : (x : JavaStmt) (at : ℕ) (j : Option _) (c : JavaExpr) (b a : JavaStmt) (s u t now : Scope) (mark : Mark) → x ≡ trees.While at j c b → a ≡ b → while_head d place c s ≡ Ok u → stmt d place returns a u ≡ Ok t → mark ≡ marked s → now ≡ left_at mark t → stmt d place returns x s ≡ Ok now
  while_taken x at j c b a s u t now mark view same met told marks is =
      let inner = subst (λ y. stmt d place returns y u ≡ ok t) same told in
      ap (λ y. stmt d place returns y s) view ∙ ended _ s t now mark (ap (and_then (stmt d place returns b)) met ∙ inner) (while_left d place returns c b s u t met inner) marks is

  pub for_taken : (x : JavaStmt) (at : ℕ) (j : Option _) (start : JavaForStart) (c e : Option JavaExpr) (us vs : List JavaExpr) (b a : JavaStmt) (s u t now : Scope) (mark : Mark) → x ≡ trees.For at j start c us b → a ≡ b → e ≡ c → vs ≡ us → for_head d place start e vs s ≡ Ok u → stmt d place returns a u ≡ Ok t → mark ≡ marked s → now ≡ left_at mark t → stmt d place returns x s ≡ Ok now
  for_taken x at j start c e us vs b a s u t now mark view same alike like met told marks is =
      let inner = subst (λ y. stmt d place returns y u ≡ ok t) same told in
      let head = subst (λ l. for_head d place start c l s ≡ ok u) like (subst (λ o. for_head d place start o vs s ≡ ok u) alike met) in
      ap (λ y. stmt d place returns y s) view ∙ ended _ s t now mark (ap (and_then (stmt d place returns b)) head ∙ inner) (for_left d place returns start c us b s u t head inner) marks is

  pub label_taken : (x : JavaStmt) (at : ℕ) (j : Option _) (l m : List ℕ) (loop : Bool) (b a : JavaStmt) (s u t now : Scope) (mark : Mark) → x ≡ trees.Label at j l b → a ≡ b → m ≡ l → loop ≡ is_loop a → u ≡ inside_label m loop s → stmt d place returns a u ≡ Ok t → mark ≡ marked s → now ≡ left_at mark t → stmt d place returns x s ≡ Ok now
  label_taken x at j l m loop b a s u t now mark view same names loops entered told marks is =
      let inner = subst (λ y. stmt d place returns y u ≡ ok t) same told in
      let entry : u ≡ inside_label l (is_loop b) s = entered ∙ ap (λ k. inside_label k loop s) names ∙ ap (λ k. inside_label l k s) (loops ∙ ap is_loop same) in
      let whole = subst (λ v. stmt d place returns b v ≡ ok t) entry inner in
      ap (λ y. stmt d place returns y s) view ∙ ended _ s t now mark whole (label_left d place returns b l (is_loop b) s t whole) marks is

  -- a `try`: its handlers begin in the scope that its block left
  pub try_whole : (x : JavaStmt) (at : ℕ) (bs cs : JavaStmts) (hs gs : JavaHandlers) (s t now : Scope) (mark : Mark) → x ≡ trees.Try at bs hs → cs ≡ bs → gs ≡ hs → stmts d place returns cs s ≡ Ok t → mark ≡ marked s → now ≡ left_at mark t → stmt d place returns x s ≡ handlers d place returns gs now
  try_whole x at bs cs hs gs s t now mark view same like told marks is =
      let inner = subst (λ c. stmts d place returns c s ≡ ok t) same told in
      ap (λ y. stmt d place returns y s) view
      ∙ ap (and_then (handlers d place returns hs)) (ended (stmts d place returns bs s) s t now mark inner (block_left d place returns bs s t inner) marks is)
      ∙ ap (λ h. handlers d place returns h now) (sym like)

  -- the same with `finally`: up to that, it is what its handlers come to
  pub finally_whole : (x : JavaStmt) (at : ℕ) (bs cs : JavaStmts) (hs gs : JavaHandlers) (fs es : JavaStmts) (s t now : Scope) (mark : Mark) → x ≡ trees.TryFinally at bs hs fs → cs ≡ bs → gs ≡ hs → es ≡ fs → stmts d place returns cs s ≡ Ok t → mark ≡ marked s → now ≡ left_at mark t → stmt d place returns x s ≡ out_of s (and_then (stmts d place returns es) (handlers d place returns gs now))
  finally_whole x at bs cs hs gs fs es s t now mark view same like last told marks is =
      let inner = subst (λ c. stmts d place returns c s ≡ ok t) same told in
      ap (λ y. stmt d place returns y s) view
      ∙ ap (λ r. out_of s (and_then (stmts d place returns fs) (and_then (handlers d place returns hs) r))) (ended (stmts d place returns bs s) s t now mark inner (block_left d place returns bs s t inner) marks is)
      ∙ ap (λ h. out_of s (and_then (stmts d place returns fs) (handlers d place returns h now))) (sym like)
      ∙ ap (λ f. out_of s (and_then (stmts d place returns f) (handlers d place returns gs now))) (sym last)

  -- what was left at the mark is what was in scope there
  left_there : (bs : JavaStmts) (s t now : Scope) (mark : Mark) → stmts d place returns bs s ≡ Ok t → mark ≡ marked s → now ≡ left_at mark t → now ≡ s
  left_there bs s t now mark told marks is = is ∙ ap (λ m. left_at m t) marks ∙ block_left d place returns bs s t told

  pub finally_taken : (x : JavaStmt) (gs : JavaHandlers) (cs es : JavaStmts) (s t now u v last : Scope) (mark : Mark) → stmt d place returns x s ≡ out_of s (and_then (stmts d place returns es) (handlers d place returns gs now)) → stmts d place returns cs s ≡ Ok t → now ≡ left_at mark t → handlers d place returns gs now ≡ Ok u → stmts d place returns es u ≡ Ok v → mark ≡ marked s → last ≡ left_at mark v → stmt d place returns x s ≡ Ok last
  finally_taken x gs cs es s t now u v last mark whole told is caught_ done marks ends =
      let here = left_there cs s t now mark told marks is in
      let from_here = subst (λ w. handlers d place returns gs w ≡ ok u) here caught_ in
      whole ∙ ended _ s v last mark (ap (and_then (stmts d place returns es)) caught_ ∙ done) (finally_left d place returns gs es s u v from_here done) marks ends

  -- where a handler is refused, or what stands behind `finally`
  pub handlers_refused : (x : JavaStmt) (gs : JavaHandlers) (es : JavaStmts) (s now : Scope) (e : Stop) → stmt d place returns x s ≡ out_of s (and_then (stmts d place returns es) (handlers d place returns gs now)) → IsStop (handlers d place returns gs now) e → IsStop (stmt d place returns x s) e
  handlers_refused x gs es s now (Refused f) whole told = whole ∙ ap (λ r. out_of s (and_then (stmts d place returns es) r)) told
  handlers_refused x gs es s now NoMemory whole told = tt

  pub finally_refused : (x : JavaStmt) (gs : JavaHandlers) (es : JavaStmts) (s now u : Scope) (e : Stop) → stmt d place returns x s ≡ out_of s (and_then (stmts d place returns es) (handlers d place returns gs now)) → handlers d place returns gs now ≡ Ok u → IsStop (stmts d place returns es u) e → IsStop (stmt d place returns x s) e
  finally_refused x gs es s now u (Refused f) whole caught_ told = whole ∙ ap (λ r. out_of s (and_then (stmts d place returns es) r)) caught_ ∙ ap (out_of s) told
  finally_refused x gs es s now u NoMemory whole caught_ told = tt

  -- one more handler is taken: what is left decides
  pub handler_taken : (hs : List Handler) (i : ℕ) (h : Handler) (s u v last : Scope) (mark : Mark) (whole : Result Scope Fault) (bs : JavaStmts) → i < length hs → h ≡ get_or hs i h
      → (whole ≡ handlers d place returns (java_handlers (map java_handler_view (drop i hs))) s) × (mark ≡ marked s)
      → caught d (identifier_view (out-Handler h).class) (identifier_view (out-Handler h).name) s ≡ Ok u → bs ≡ java_stmts (map java_stmt_view (out-Handler h).body.items) → stmts d place returns bs u ≡ Ok v → last ≡ left_at mark v
      → (whole ≡ handlers d place returns (java_handlers (map java_handler_view (drop (i + 1) hs))) last) × (mark ≡ marked last)
  handler_taken hs i h s u v last mark whole bs lt is inv met same told ends =
      let body = subst (λ c. stmts d place returns c u ≡ ok v) same told in
      let left = handler_left d place returns (identifier_view (out-Handler h).class) (identifier_view (out-Handler h).name) (java_stmts (map java_stmt_view (out-Handler h).body.items)) s u v met body in
      let back : last ≡ s = ends ∙ ap (λ m. left_at m v) inv.1 ∙ left in
      let rest : JavaHandlers = java_handlers (map java_handler_view (drop (i + 1) hs)) in (
        inv.0
            ∙ ap (λ (l : List Handler). handlers d place returns (java_handlers (map java_handler_view l)) s) (drop_more hs i h lt ∙ ap (λ y. y ∷ drop (i + 1) hs) (sym is))
            ∙ ap (λ y. handlers d place returns (trees.HandlerThen y rest) s) (is_handler h)
            ∙ ap (and_then (handlers d place returns rest)) (ap (λ r. out_of s (and_then (stmts d place returns (java_stmts (map java_stmt_view (out-Handler h).body.items))) r)) met ∙ ap (out_of s) body)
            ∙ ap (handlers d place returns rest) (sym back),
        inv.1 ∙ ap marked (sym back),
      )
