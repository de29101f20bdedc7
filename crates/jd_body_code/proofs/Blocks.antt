-- Statements and handlers one behind the other, from what is made so far.
use Rattle.std.proofs.Common.{◌≡◌, ◌<◌, ◌≤◌, ◌+◌, ℕ, List, [], ◌∷◌, ◌++◌, length, map, drop, get_or, refl, sym, ap, ◌∙◌, append_assoc}
use Rattle.std.proofs.lemmas.List.{append-nil, drop_all, drop_more}
use Rattle.jd_syntax.specs.Codes as code
use Rattle.jd_syntax.specs.Codes.{PlainCode, stmts_of}
use Rattle.jd_syntax.specs.JavaTrees as java
use Rattle.jd_syntax.specs.JavaTrees.{JavaHandlers, JavaStmt, JavaStmts, Catch, NoHandlers, HandlerThen, NoStmts, StmtThen, java_handlers, java_stmt_view, java_stmts}
use Rattle.jd_jcalls.specs.Handlers.{java_handler_view}
use Rattle.jd_syntax.specs.Names.{Name}
use Rattle.jd_syntax.specs.declared.java.Handler.{Handler}
use Rattle.jd_syntax.specs.declared.java.Stmt.{Stmt}
use Rattle.jd_bodies.specs.declared.place.Place.{Place}
use Rattle.jd_bodies.specs.declared.value.ValueType.TheVariants as types
use Rattle.jd_bodies.specs.Bodies.{Exits, Lines, block_lines, class_number, handler_code, handler_lines, in_scope, lines}
use Rattle.jd_bodies.specs.Declarations.{Declarations}
use Rattle.jd_bodies.specs.Scopes.{Local}
use Rattle.jd_bodies.specs.Variables.{Progress, local_name, with_local}
use Rattle.jd_statement_parts.specs.Catching.{PlainPart, chain}
use Rattle.jd_statement_parts.proofs.Sequences.{Within, declaration_within}
use Rattle.jd_body_code.specs.Parted.{handler_parts, part_of}

module _ (d : Declarations) (place : Place) where
  -- ---- statements

  abbrev pub block_from : List code.Stmt → JavaStmts → Exits → List Local → Progress → Lines
  block_from ss NoStmts x ls p = (p, ss)
  block_from ss (StmtThen t ts) x ls p = block_from (ss ++ (lines d place t [] x ls p).lines.1) ts x (lines d place t [] x ls p).locals (lines d place t [] x ls p).lines.0

  block_are : (ss : List code.Stmt) (ts : JavaStmts) (x : Exits) (ls : List Local) (p : Progress) → block_from ss ts x ls p ≡ ((block_lines d place ts x ls p).0, ss ++ (block_lines d place ts x ls p).1)
  block_are ss NoStmts x ls p = ap (λ l. (p, l)) (sym (append-nil ss))
  block_are ss (StmtThen t ts) x ls p =
      let r = lines d place t [] x ls p in
      let rest = block_lines d place ts x r.locals r.lines.0 in
      block_are (ss ++ r.lines.1) ts x r.locals r.lines.0 ∙ ap (λ l. (rest.0, l)) (append_assoc ss r.lines.1 rest.1)

  pub block_begin : (ts : JavaStmts) (x : Exits) (ls : List Local) (p : Progress) → block_from [] ts x ls p ≡ block_lines d place ts x ls p
  block_begin ts x ls p = block_are [] ts x ls p

  pub next_stmt : (ts : List Stmt) (i : ℕ) (t : Stmt) (ss : List code.Stmt) (x : Exits) (ls : List Local) (p : Progress) (whole : Lines) → i < length ts → t ≡ get_or ts i t
      → block_from ss (java_stmts (map java_stmt_view (drop i ts))) x ls p ≡ whole
      → block_from (ss ++ (lines d place (java_stmt_view t) [] x ls p).lines.1) (java_stmts (map java_stmt_view (drop (i + 1) ts))) x (lines d place (java_stmt_view t) [] x ls p).locals (lines d place (java_stmt_view t) [] x ls p).lines.0 ≡ whole
  next_stmt ts i t ss x ls p whole lt is so_far =
      sym (ap (λ (l : List Stmt). block_from ss (java_stmts (map java_stmt_view l)) x ls p) (drop_more ts i t lt ∙ ap (λ y. y ∷ drop (i + 1) ts) (sym is))) ∙ so_far

  pub block_end : (ts : List Stmt) (i : ℕ) (ss : List code.Stmt) (x : Exits) (ls : List Local) (p : Progress) (whole : Lines) → length ts ≤ i → block_from ss (java_stmts (map java_stmt_view (drop i ts))) x ls p ≡ whole → (p, ss) ≡ whole
  block_end ts i ss x ls p whole few so_far = sym (ap (λ (l : List Stmt). block_from ss (java_stmts (map java_stmt_view l)) x ls p) (drop_all i ts few)) ∙ so_far

  -- what a statement leaves in scope is what was there, behind what it declares
  pub line_within : (t : JavaStmt) (ks : List (List ℕ)) (x : Exits) (ls : List Local) (p : Progress) → Within d place (lines d place t ks x ls p).locals ls
  line_within (java.Local at w xs) ks x ls p = declaration_within d place w xs ls p
  line_within (java.Block at ss) ks x ls p = ([], refl)
  line_within (java.Empty at) ks x ls p = ([], refl)
  line_within (java.Evaluate at e) ks x ls p = ([], refl)
  line_within (java.Label at j l s) ks x ls p = ([], refl)
  line_within (java.If at c s) ks x ls p = ([], refl)
  line_within (java.IfElse at c s t) ks x ls p = ([], refl)
  line_within (java.While at j c s) ks x ls p = ([], refl)
  line_within (java.For at j f c u s) ks x ls p = ([], refl)
  line_within (java.Break at l) ks x ls p = ([], refl)
  line_within (java.Continue at l) ks x ls p = ([], refl)
  line_within (java.Return at e) ks x ls p = ([], refl)
  line_within (java.Throw at e) ks x ls p = ([], refl)
  line_within (java.Try at ss hs) ks x ls p = ([], refl)
  line_within (java.TryFinally at ss hs ts) ks x ls p = ([], refl)
  line_within (java.Super at es) ks x ls p = ([], refl)

  pub within_both : (a b c : List Local) → Within d place a b → Within d place b c → Within d place a c
  within_both a b c h k = (h.0 ++ k.0, h.1 ∙ ap (λ l. h.0 ++ l) k.1 ∙ sym (append_assoc h.0 k.0 c))

  -- ---- handlers

  abbrev Handled : Type 0
  Handled = Progress × List PlainPart

  abbrev pub parts_from : List PlainPart → JavaHandlers → Exits → List Local → Progress → Handled
  parts_from ps NoHandlers x ls p = (p, ps)
  parts_from ps (HandlerThen h hs) x ls p = parts_from (ps ++ (part_of d place h x ls p).1 ∷ []) hs x ls (part_of d place h x ls p).0

  parts_are : (ps : List PlainPart) (hs : JavaHandlers) (x : Exits) (ls : List Local) (p : Progress) → parts_from ps hs x ls p ≡ ((handler_parts d place hs x ls p).0, ps ++ (handler_parts d place hs x ls p).1)
  parts_are ps NoHandlers x ls p = ap (λ l. (p, l)) (sym (append-nil ps))
  parts_are ps (HandlerThen h hs) x ls p =
      let r = part_of d place h x ls p in
      let rest = handler_parts d place hs x ls r.0 in
      parts_are (ps ++ r.1 ∷ []) hs x ls r.0 ∙ ap (λ l. (rest.0, l)) (append_assoc ps (r.1 ∷ []) rest.1)

  pub parts_begin : (hs : JavaHandlers) (x : Exits) (ls : List Local) (p : Progress) → parts_from [] hs x ls p ≡ handler_parts d place hs x ls p
  parts_begin hs x ls p = parts_are [] hs x ls p

  pub next_part : (hs : List Handler) (i : ℕ) (h : Handler) (ps : List PlainPart) (x : Exits) (ls : List Local) (p : Progress) (whole : Handled) → i < length hs → h ≡ get_or hs i h
      → parts_from ps (java_handlers (map java_handler_view (drop i hs))) x ls p ≡ whole
      → parts_from (ps ++ (part_of d place (java_handler_view h) x ls p).1 ∷ []) (java_handlers (map java_handler_view (drop (i + 1) hs))) x ls (part_of d place (java_handler_view h) x ls p).0 ≡ whole
  next_part hs i h ps x ls p whole lt is so_far =
      sym (ap (λ (l : List Handler). parts_from ps (java_handlers (map java_handler_view l)) x ls p) (drop_more hs i h lt ∙ ap (λ y. y ∷ drop (i + 1) hs) (sym is))) ∙ so_far

  pub parts_end : (hs : List Handler) (i : ℕ) (ps : List PlainPart) (x : Exits) (ls : List Local) (p : Progress) (whole : Handled) → length hs ≤ i → parts_from ps (java_handlers (map java_handler_view (drop i hs))) x ls p ≡ whole → (p, ps) ≡ whole
  parts_end hs i ps x ls p whole few so_far = sym (ap (λ (l : List Handler). parts_from ps (java_handlers (map java_handler_view l)) x ls p) (drop_all i hs few)) ∙ so_far

  -- the code of handlers is the tests of their parts
  pub handlers_split : (hs : JavaHandlers) (k : Name) (x : Exits) (ls : List Local) (p : Progress) → handler_lines d place hs k x ls p ≡ ((handler_parts d place hs x ls p).0, stmts_of (chain k (handler_parts d place hs x ls p).1))
  handlers_split NoHandlers k x ls p = refl
  handlers_split (HandlerThen (Catch at c y ss) hs) k x ls p =
      let t = types.Class (class_number (d.class_named c.name)) in
      let q = with_local y.name t p in
      let r = block_lines d place ss x (in_scope d place y t ls) q in
      ap (λ (h : Progress × PlainCode). handler_code k (class_number (d.class_named c.name)) (local_name q.names y.name t) r (λ z. h)) (handlers_split hs k x ls r.0)
