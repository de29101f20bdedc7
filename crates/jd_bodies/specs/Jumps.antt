-- Which jumps leave a statement for what stands around it (JLS 14.15, 14.16), and which variables an expression names.
use Rattle.std.specs.Prelude.{ℕ, Bool, true, false, not, ◌||◌, ◌&&◌, List, [], ◌∷◌, filter, Option, Some, None}
use Rattle.std.specs.List.{list_any}
use Rattle.std.specs.Str.{bytes_eq}
use Rattle.jd_syntax.specs.JavaTypes.{PlainIdentifier}
use Rattle.jd_syntax.specs.JavaTrees as java
use Rattle.jd_syntax.specs.JavaTrees.{JavaExpr, JavaExprs, JavaStmt, JavaStmts, JavaHandlers, Block, Empty, Local, Evaluate, Label, If, IfElse, While, For, Break, Continue, Return, Throw, Try, TryFinally, Super, NoStmts, StmtThen, Catch, NoHandlers, HandlerThen}

-- ---- jumps

-- which jumps are asked for: `continue`, or else `break`; those without a label, and those with one of these
pub record Asked : Type 0 where
  pub repeats : Bool
  pub plain : Bool
  pub labels : List (List ℕ)

abbrev pub is_asked : Asked → Option PlainIdentifier → Bool
is_asked a None = a.plain
is_asked a (Some l) = list_any (λ x. bytes_eq x l.name) a.labels

-- a loop is the target of the jumps in it that have no label
abbrev pub in_loop : Asked → Asked
in_loop a = record a { plain = false }

-- a label is the target of the jumps in it that have it
abbrev pub in_label : List ℕ → Asked → Asked
in_label l a = record a { labels = filter (λ x. not (bytes_eq x l)) a.labels }

-- whether one stands in a statement, with its target outside
abbrev mutual
  pub jumps : JavaStmt → Asked → Bool
  jumps (Block at ss) a = jumps_in ss a
  jumps (Empty at) a = false
  jumps (Local at w xs) a = false
  jumps (Evaluate at e) a = false
  jumps (Label at j l s) a = jumps s (in_label l a)
  jumps (If at c s) a = jumps s a
  jumps (IfElse at c s t) a = jumps s a || jumps t a
  jumps (While at j c s) a = jumps s (in_loop a)
  jumps (For at j start c update s) a = jumps s (in_loop a)
  jumps (Break at l) a = not a.repeats && is_asked a l
  jumps (Continue at l) a = a.repeats && is_asked a l
  jumps (Return at e) a = false
  jumps (Throw at e) a = false
  jumps (Try at ss hs) a = jumps_in ss a || jumps_in_handlers hs a
  jumps (TryFinally at ss hs ts) a = jumps_in ss a || jumps_in_handlers hs a || jumps_in ts a
  jumps (Super at es) a = false

  pub jumps_in : JavaStmts → Asked → Bool
  jumps_in NoStmts a = false
  jumps_in (StmtThen s ss) a = jumps s a || jumps_in ss a

  pub jumps_in_handlers : JavaHandlers → Asked → Bool
  jumps_in_handlers NoHandlers a = false
  jumps_in_handlers (HandlerThen (Catch at c x ss) hs) a = jumps_in ss a || jumps_in_handlers hs a

-- `break l` leaves the statement that is labelled so
abbrev pub leaves_label : List ℕ → JavaStmt → Bool
leaves_label l s = jumps s (record { repeats = false; plain = false; labels = l ∷ [] })

-- `break` leaves the loop of this body
abbrev pub leaves_loop : JavaStmt → Bool
leaves_loop s = jumps s (record { repeats = false; plain = true; labels = [] })

-- `continue` goes on with the loop of this body, or with that which has one of these labels
abbrev pub repeats_loop : List (List ℕ) → JavaStmt → Bool
repeats_loop labels s = jumps s (record { repeats = true; plain = true; labels = labels })

-- ---- names

-- whether a variable is called by the name
abbrev mutual
  pub names : List ℕ → JavaExpr → Bool
  names x (java.Integer at n) = false
  names x (java.Boolean at b) = false
  names x (java.Null at) = false
  names x (java.This at) = false
  names x (java.Name at y) = bytes_eq y x
  names x (java.Field at e y) = names x e
  names x (java.Parenthesized at e) = names x e
  names x (java.Call at m es) = names_in x es
  names x (java.MethodCall at e m es) = names x e || names_in x es
  names x (java.New at c es) = names_in x es
  names x (java.NewArray at e) = names x e
  names x (java.Index at a i) = names x a || names x i
  names x (java.Prefix at o e) = names x e
  names x (java.Postfix at o e) = names x e
  names x (java.Cast at t e) = names x e
  names x (java.Infix at o a b) = names x a || names x b
  names x (java.InstanceOf at e t) = names x e
  names x (java.Conditional at c a b) = names x c || names x a || names x b
  names x (java.Assign at o a b) = names x a || names x b

  pub names_in : List ℕ → JavaExprs → Bool
  names_in x java.NoExprs = false
  names_in x (java.ExprThen e es) = names x e || names_in x es
