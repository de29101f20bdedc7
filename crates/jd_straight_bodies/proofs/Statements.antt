-- Statements of a straight body are known, and what they leave in scope stands.
use Rattle.std.proofs.Common.{List, None, Option, Some, [], Result, Ok, length, refl, sym, ap, arith, subst, Bool, true, false, ◌++◌, ◌+◌, ◌∙◌, ◌∷◌, ◌≡◌, ◌≤◌, ℕ}
use Rattle.std.proofs.lemmas.List.{append-nil, append_assoc, length-append}
use Rattle.std.specs.List.{AllByRecursion}
use Rattle.jd_bodies.specs.declared.fault.Fault.{Fault}
use Rattle.jd_bodies.specs.declared.place.Place.{Place}
use Rattle.jd_bodies.specs.declared.place.Returns.{Returns}
use Rattle.jd_bodies.specs.declared.place.Returns.TheVariants.{Nothing, Value}
use Rattle.jd_bodies.specs.declared.value.ValueType.{ValueType}
use Rattle.jd_bodies.specs.declared.value.ValueType.TheVariants as types
use Rattle.jd_bodies.specs.Bodies.{Exits, Lines, Loop, Scoped, above, above_lines, block_if, block_lines, condition_code, effect_lines, effects_lines, label_if, lines, loop_lines, nothing_done, start, with_exit}
use Rattle.jd_bodies.specs.Codes.{code_of, codes_of}
use Rattle.jd_bodies.specs.Declarations.{Declarations, type_by}
use Rattle.jd_bodies.specs.Expressions.{arguments, at_of, creation_fits, given, known, or_nothing, value, value_of, wanted, written_type}
use Rattle.jd_bodies.specs.Judgements.{and_then}
use Rattle.jd_bodies.specs.Jumps.{leaves_label, leaves_loop, repeats_loop}
use Rattle.jd_bodies.specs.Scopes.{Local, Scope}
use Rattle.jd_bodies.specs.Statements.{declared_names, above_parameters, constructed, handlers, inside_label, is_loop, out_of, returned_value, stmt, stmts}
use Rattle.jd_bodies.specs.Variables.{Progress}
use Rattle.jd_expression_temporaries.specs.Growing.{Grows, IsTemporary}
use Rattle.jd_expression_temporaries.specs.Laws.{ExpressionsAddTemporaries}
use Rattle.jd_local_texts.specs.Laws.{TextsOfLocalsAreApart}
use Rattle.jd_syntax.specs.Codes as code
use Rattle.jd_syntax.specs.Codes.{Expr}
use Rattle.jd_syntax.specs.Names.{Declared}
use Rattle.jd_syntax.specs.JavaTrees as java
use Rattle.jd_syntax.specs.JavaTrees.{JavaExpr, JavaExprs, JavaStmt, JavaStmts, Block, Break, Continue, Empty, Evaluate, For, HandlerThen, If, IfElse, Label, Local as Declaration, NoHandlers, NoStmts, Return, StmtThen, Super, Throw, Try, TryFinally, While, java_exprs}
use Rattle.jd_variable_words.specs.Words.{HasWords, HaveWords}
use Rattle.jd_straight_bodies.proofs.Found.{Stands, grown, limit, still}
use Rattle.jd_straight_bodies.proofs.Lines.{AreStraight, Walks, left_walks, more_walks, none_walk, straight_parts, then_walks}
use Rattle.jd_straight_bodies.proofs.Effects.{declared_walks, effect_walks, return_walks, same_ok, value_of_expr}
use Rattle.jd_straight_bodies.proofs.Simple.{given_of, through}

-- ---- what no straight body has

no_while : (b : Bool) (n m : ℕ) (c : Expr) (body_ : _) → AreStraight (block_if b n (code.While m c body_ ∷ [])) → ⊥
no_while true n m c body_ straight = straight.0
no_while false n m c body_ straight = straight.0

no_loop : (l : Loop) (x : Exits) (p : Progress) → AreStraight (loop_lines l x p).1 → ⊥
no_loop l x p straight = no_while l.leaves _ _ _ _ straight

left_it : (s : Scope) (r : Result Scope Fault) (t : Scope) → out_of s r ≡ Ok t → (u : Scope) × (r ≡ Ok u) × (s ≡ t)
left_it s r t e = let h = through (λ u. Ok s) r t e in (h.0, h.1, same_ok s t h.2)

pub known_type : (d : Declarations) (at : ℕ) (t u : ValueType) → known d at t ≡ Ok u → t ≡ u
known_type d at types.Int u e = cc
known_type d at types.Boolean u e = cc
known_type d at types.Null u e = cc
known_type d at types.IntArray u e = cc
known_type d at (types.Class c) u e = cc
known_type d at types.Missing u e = absurd cc

grown_lines : (p q : Progress) (locals : List Local) → Stands p locals → Grows p q → Walks p q locals locals 0 []
grown_lines p q locals s g = record { behind = grown p q locals 0 s.made g; stands = still p q locals 0 s (grown p q locals 0 s.made g); wider_ = λ x t e. e; known = λ names table. tt }

both_marked : (xs ys : List Declared) → AllByRecursion IsTemporary xs → AllByRecursion IsTemporary ys → AllByRecursion IsTemporary (xs ++ ys)
both_marked [] ys g h = h
both_marked (x ∷ xs) ys g h = (g.0, both_marked xs ys g.1 h)

grows_on : (p q r : Progress) → Grows p q → Grows q r → Grows p r
grows_on p q r g h = record {
  more = g.more ++ h.more;
  is = h.is ∙ ap (λ l. l ++ h.more) g.is ∙ append_assoc p.variables g.more h.more;
  marked = both_marked g.more h.more g.marked h.marked;
  names = h.names ∙ g.names;
}

-- the code of arguments adds temporaries alone
codes_grow : ExpressionsAddTemporaries → (d : Declarations) (place : Place) (locals : List Local) (es : JavaExprs) (p : Progress) → Grows p (codes_of d place locals es p).0
codes_grow adds d place locals java.NoExprs p = record { more = []; is = sym (append-nil p.variables); marked = tt; names = refl }
codes_grow adds d place locals (java.ExprThen e es) p = grows_on p (code_of d place locals e p).0 (codes_of d place locals es (code_of d place locals e p).0).0 (adds d place locals e p) (codes_grow adds d place locals es (code_of d place locals e p).0)

above_walks : (o : Option ℕ) (r : Progress × List Expr) (p : Progress) (locals : List Local) → Stands p locals → Grows p r.0 → AreStraight (above_lines o r).1 → Walks p (above_lines o r).0 locals locals 0 (above_lines o r).1
above_walks None r p locals s g straight = grown_lines p r.0 locals s g
above_walks (Some m) r p locals s g straight = absurd straight.0

-- a label is made only where it is asked for
label_walks : (b : Bool) (p : Progress) (locals : List Local) (f : Progress → Lines) → (AreStraight (f p).1 → length p.names + length (f p).1 ≤ limit → Walks p (f p).0 locals locals (length (f p).1) (f p).1)
    → AreStraight (block_if b (label_if b p).labels (f (label_if b p)).1) → length p.names + length (block_if b (label_if b p).labels (f (label_if b p)).1) ≤ limit
    → Walks p (f (label_if b p)).0 locals locals (length (block_if b (label_if b p).labels (f (label_if b p)).1)) (block_if b (label_if b p).labels (f (label_if b p)).1)
label_walks true p locals f each straight few = absurd straight.0
label_walks false p locals f each straight few = each straight few

module _ (texts : TextsOfLocalsAreApart) (adds : ExpressionsAddTemporaries) (d : Declarations) (place : Place) (static : place.is_static ≡ true) (returns : Returns) where
  abbrev while_loop : List (List ℕ) → JavaExpr → JavaStmt → List Local → Loop
  while_loop ls c b locals = record {
    labels = ls;
    leaves = leaves_loop b;
    repeats = repeats_loop ls b;
    scope = locals;
    condition = code_of d place locals c;
    update = nothing_done;
    body = λ y q. (lines d place b [] y locals q).lines;
  }

  abbrev for_loop : List (List ℕ) → Option JavaExpr → List JavaExpr → JavaStmt → List Local → Loop
  for_loop ls c update b locals = record {
    labels = ls;
    leaves = leaves_loop b;
    repeats = repeats_loop ls b;
    scope = locals;
    condition = condition_code (code_of d place locals) c;
    update = effects_lines d place locals update;
    body = λ y q. (lines d place b [] y locals q).lines;
  }

  returned_stays : (r : Returns) (at first : ℕ) (v : ValueType) (s t : Scope) → returned_value d place at r first v s ≡ Ok t → s ≡ t
  returned_stays Nothing at first v s t e = absurd cc
  returned_stays (Value want) at first v s t e = let h = through (λ u. Ok s) (wanted d want first v) t e in same_ok s t h.2

  constructed_stays : (at : ℕ) (es : List JavaExpr) (s t : Scope) → constructed d place at es s ≡ Ok t → s ≡ t
  constructed_stays at es s t e =
      let h = through (λ a. and_then (λ g. Ok s) (creation_fits at (above_parameters d (d.parent place.class)) (value_of types.Boolean) a)) (arguments d place s.locals (java_exprs es) (or_nothing (above_parameters d (d.parent place.class)))) t e in
      let i = through (λ g. Ok s) (creation_fits at (above_parameters d (d.parent place.class)) (value_of types.Boolean) h.0) t h.2 in
      same_ok s t i.2

  -- what is said of a statement's lines, and that its locals are those that the judgement leaves
  abbrev WalksTo : Progress → List Local → Scope → Scoped → Type 0
  WalksTo p locals t r = Walks p r.lines.0 locals r.locals (length r.lines.1) r.lines.1 × (t.locals ≡ r.locals)

  kept : (s t : Scope) (locals : List Local) → s ≡ t → s.locals ≡ locals → t.locals ≡ locals
  kept s t locals e same = ap (λ v. v.locals) (sym e) ∙ same

  mutual
    pub stmt_walks : (b : JavaStmt) → HasWords b → (s t : Scope) → stmt d place returns b s ≡ Ok t → (ls : List (List ℕ)) (x : Exits) (locals : List Local) → s.locals ≡ locals → (p : Progress) → Stands p locals
        → AreStraight (lines d place b ls x locals p).lines.1 → length p.names + length (lines d place b ls x locals p).lines.1 ≤ limit → WalksTo p locals t (lines d place b ls x locals p)
    stmt_walks (Block at bs) words s t e ls x locals same p stands straight few =
        let h = left_it s (stmts d place returns bs s) t e in
        (stmts_walk bs words s h.0 h.1 x locals same p stands straight few, kept s t locals h.2 same)
    stmt_walks (Empty at) words s t e ls x locals same p stands straight few = (none_walk p locals stands, kept s t locals (same_ok s t e) same)
    stmt_walks (Declaration at w xs) words s t e ls x locals same p stands straight few =
        let h = through (λ u. declared_names d place u xs s) (written_type d w) t e in
        declared_walks texts adds d place static (type_by d.class_named w.written) xs words s t
        (subst (λ u. declared_names d place u xs s ≡ Ok t) (sym (known_type d w.at (type_by d.class_named w.written) h.0 h.1)) h.2) locals same p stands straight few
    stmt_walks (Evaluate at e) words s t is ls x locals same p stands straight few =
        let h = through (λ g. Ok s) (given d place s.locals e) t is in
        let r = effect_lines d place locals e p in (
          more_walks p r.0 locals locals 0 (length r.1) r.1 (omega arith)
              (effect_walks texts adds d place static locals e h.0 p (subst (λ l. given d place l e ≡ Ok h.0) same h.1) (omega (arith, few)) stands straight),
          kept s t locals (same_ok s t h.2) same,
        )
    stmt_walks (Label at j l b) words s t e ls x locals same p stands straight few =
        let h = left_it s (stmt d place returns b (inside_label l (is_loop b) s)) t e in
        let f : Progress → Lines = λ q. (lines d place b (l ∷ ls) (with_exit l q.labels x) locals q).lines in (
          label_walks (leaves_label l b) p locals f
              (λ so most.
              let r = lines d place b (l ∷ ls) (with_exit l p.labels x) locals p in
              left_walks p r.lines.0 locals r.locals (length r.lines.1) r.lines.1 stands (stmt_walks b words (inside_label l (is_loop b) s) h.0 h.1 (l ∷ ls) (with_exit l p.labels x) locals same p stands so most).0)
              straight few,
          kept s t locals h.2 same,
        )
    stmt_walks (If at c b) words s t e ls x locals same p stands straight few = absurd straight.0
    stmt_walks (IfElse at c b f) words s t e ls x locals same p stands straight few = absurd straight.0
    stmt_walks (While at j c b) words s t e ls x locals same p stands straight few = absurd (no_loop (while_loop ls c b locals) x p straight)
    stmt_walks (For at j first c update b) words s t e ls x locals same p stands straight few =
        let r = start d place first locals p in
        let l = for_loop ls c update b r.locals in
        absurd (no_loop l x r.lines.0 (straight_parts r.lines.1 (loop_lines l x r.lines.0).1 straight).1)
    stmt_walks (Break at l) words s t e ls x locals same p stands straight few = absurd straight.0
    stmt_walks (Continue at l) words s t e ls x locals same p stands straight few = absurd straight.0
    stmt_walks (Return at None) words s t e ls x locals same p stands straight few = absurd straight.0
    stmt_walks (Return at (Some e)) words s t is ls x locals same p stands straight few =
        let h = through (λ v. returned_value d place at returns (at_of e) v s) (value d place s.locals e) t is in
        let g = given_of (at_of e) (given d place s.locals e) h.0 h.1 in
        let v = code_of d place locals e in (
          more_walks p (v p).0 locals locals 0 1 (code.Return (v p).1 ∷ []) (omega arith)
              (return_walks p locals v stands (value_of_expr texts adds d place static locals p e g.0 (omega (arith, few)) stands (subst (λ l. given d place l e ≡ Ok g.0) same g.1)) straight),
          kept s t locals (returned_stays returns at (at_of e) h.0 s t h.2) same,
        )
    stmt_walks (Throw at e) words s t is ls x locals same p stands straight few = absurd straight.0
    stmt_walks (Try at bs NoHandlers) words s t e ls x locals same p stands straight few =
        let h = through (handlers d place returns NoHandlers) (out_of s (stmts d place returns bs s)) t e in
        let i = left_it s (stmts d place returns bs s) h.0 h.1 in
        (stmts_walk bs words.0 s i.0 i.1 x locals same p stands straight few, kept s t locals (i.2 ∙ same_ok h.0 t h.2) same)
    stmt_walks (Try at bs (HandlerThen h hs)) words s t e ls x locals same p stands straight few = absurd straight.0
    stmt_walks (TryFinally at bs hs fs) words s t e ls x locals same p stands straight few = absurd straight.0
    stmt_walks (Super at es) words s t e ls x locals same p stands straight few =
        let o = above d (d.parent place.class) in
        let r = codes_of d place locals (java_exprs es) p in (
          more_walks p (above_lines o r).0 locals locals 0 (length (above_lines o r).1) (above_lines o r).1 (omega arith)
              (above_walks o r p locals stands (codes_grow adds d place locals (java_exprs es) p) straight),
          kept s t locals (constructed_stays at es s t e) same,
        )

    pub stmts_walk : (bs : JavaStmts) → HaveWords bs → (s t : Scope) → stmts d place returns bs s ≡ Ok t → (x : Exits) (locals : List Local) → s.locals ≡ locals → (p : Progress) → Stands p locals
        → AreStraight (block_lines d place bs x locals p).1 → length p.names + length (block_lines d place bs x locals p).1 ≤ limit
        → Walks p (block_lines d place bs x locals p).0 locals locals (length (block_lines d place bs x locals p).1) (block_lines d place bs x locals p).1
    stmts_walk NoStmts words s t e x locals same p stands straight few = none_walk p locals stands
    stmts_walk (StmtThen b bs) words s t e x locals same p stands straight few =
        let h = through (stmts d place returns bs) (stmt d place returns b s) t e in
        let r = lines d place b [] x locals p in
        let q = block_lines d place bs x r.locals r.lines.0 in
        let parts = straight_parts r.lines.1 q.1 straight in
        let long : length (r.lines.1 ++ q.1) ≡ length r.lines.1 + length q.1 = length-append r.lines.1 q.1 in
        let first = stmt_walks b words.0 s h.0 h.1 [] x locals same p stands parts.0 (omega (arith, few, long)) in
        let low = first.0.behind.few in
        let rest = stmts_walk bs words.1 h.0 t h.2 x r.locals first.1 r.lines.0 first.0.stands parts.1 (omega (arith, few, long, low)) in
        left_walks p q.0 locals r.locals (length (r.lines.1 ++ q.1)) (r.lines.1 ++ q.1) stands
        (more_walks p q.0 locals r.locals (length r.lines.1 + length q.1) (length (r.lines.1 ++ q.1)) (r.lines.1 ++ q.1) (omega (arith, long))
        (then_walks p r.lines.0 q.0 locals r.locals r.locals (length r.lines.1) (length q.1) r.lines.1 q.1 first.0 rest))
