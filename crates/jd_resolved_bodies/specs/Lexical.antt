-- Trees whose names and literals are such as tokens are: no name begins with `@` (JLS 3.8), and each literal is a 32-bit integer, 2147483648
-- directly behind a minus alone (JLS 3.10.1).
use Rattle.std.specs.Prelude.{◌≡◌, ◌≤◌, ℕ, Bool, true, false, cond, List, [], ◌∷◌, Option, Some, None}
use Rattle.jd_syntax.specs.CodeNames.{begins_with_at}
use Rattle.jd_syntax.specs.JavaTrees.{JavaExpr, Integer, Boolean, Null, This, Name, Field, Parenthesized, Call, MethodCall, New, NewArray, Index, Prefix, Postfix, Cast, Infix, InstanceOf, Conditional, Assign, JavaExprs, NoExprs, ExprThen, JavaDeclarator, JavaForStart, Declared, Evaluated, JavaStmt, Block, Empty, Local, Evaluate, Label, If, IfElse, While, For, Break, Continue, Return, Throw, Try, TryFinally, Super, JavaStmts, NoStmts, StmtThen, java_stmts, JavaHandlers, NoHandlers, HandlerThen, Catch, JavaParameter, JavaMethod}
use Rattle.jd_syntax.specs.declared.java.PrefixOperator.{PrefixOperator}
use Rattle.jd_syntax.specs.declared.java.PrefixOperator.TheVariants as prefixes

abbrev pub IsName : List ℕ → Type 0
IsName x = begins_with_at x ≡ false

abbrev pub is_minus : PrefixOperator → Bool
is_minus prefixes.Minus = true
is_minus o = false

abbrev mutual
  -- directly behind a minus, or not
  pub IsLexical : Bool → JavaExpr → Type 0
  IsLexical minus (Integer at n) = n ≤ cond minus 2147483648 2147483647
  IsLexical minus (Boolean at b) = Unit {0}
  IsLexical minus (Null at) = Unit {0}
  IsLexical minus (This at) = Unit {0}
  IsLexical minus (Name at x) = IsName x
  IsLexical minus (Field at e x) = IsLexical false e
  IsLexical minus (Parenthesized at e) = IsLexical false e
  IsLexical minus (Call at m es) = AreLexical es
  IsLexical minus (MethodCall at e m es) = IsLexical false e × AreLexical es
  IsLexical minus (New at c es) = AreLexical es
  IsLexical minus (NewArray at e) = IsLexical false e
  IsLexical minus (Index at a i) = IsLexical false a × IsLexical false i
  IsLexical minus (Prefix at o e) = IsLexical (is_minus o) e
  IsLexical minus (Postfix at c e) = IsLexical false e
  IsLexical minus (Cast at w e) = IsLexical false e
  IsLexical minus (Infix at o a b) = IsLexical false a × IsLexical false b
  IsLexical minus (InstanceOf at e w) = IsLexical false e
  IsLexical minus (Conditional at c a b) = IsLexical false c × IsLexical false a × IsLexical false b
  IsLexical minus (Assign at o e v) = IsLexical false e × IsLexical false v

  pub AreLexical : JavaExprs → Type 0
  AreLexical NoExprs = Unit {0}
  AreLexical (ExprThen e es) = IsLexical false e × AreLexical es

abbrev pub MaybeLexical : Option JavaExpr → Type 0
MaybeLexical None = Unit {0}
MaybeLexical (Some e) = IsLexical false e

abbrev pub EachLexical : List JavaExpr → Type 0
EachLexical [] = Unit {0}
EachLexical (e ∷ es) = IsLexical false e × EachLexical es

abbrev pub AreDeclarators : List JavaDeclarator → Type 0
AreDeclarators [] = Unit {0}
AreDeclarators (x ∷ xs) = IsName x.name.name × MaybeLexical x.value × AreDeclarators xs

abbrev pub IsStart : JavaForStart → Type 0
IsStart (Declared w xs) = AreDeclarators xs
IsStart (Evaluated es) = EachLexical es

abbrev mutual
  pub IsLexicalStmt : JavaStmt → Type 0
  IsLexicalStmt (Block at ss) = AreLexicalStmts ss
  IsLexicalStmt (Empty at) = Unit {0}
  IsLexicalStmt (Local at w xs) = AreDeclarators xs
  IsLexicalStmt (Evaluate at e) = IsLexical false e
  IsLexicalStmt (Label at j l s) = IsLexicalStmt s
  IsLexicalStmt (If at c s) = IsLexical false c × IsLexicalStmt s
  IsLexicalStmt (IfElse at c s t) = IsLexical false c × IsLexicalStmt s × IsLexicalStmt t
  IsLexicalStmt (While at j c s) = IsLexical false c × IsLexicalStmt s
  IsLexicalStmt (For at j start c update s) = IsStart start × MaybeLexical c × EachLexical update × IsLexicalStmt s
  IsLexicalStmt (Break at l) = Unit {0}
  IsLexicalStmt (Continue at l) = Unit {0}
  IsLexicalStmt (Return at e) = MaybeLexical e
  IsLexicalStmt (Throw at e) = IsLexical false e
  IsLexicalStmt (Try at ss hs) = AreLexicalStmts ss × AreLexicalHandlers hs
  IsLexicalStmt (TryFinally at ss hs ts) = AreLexicalStmts ss × AreLexicalHandlers hs × AreLexicalStmts ts
  IsLexicalStmt (Super at es) = EachLexical es

  pub AreLexicalStmts : JavaStmts → Type 0
  AreLexicalStmts NoStmts = Unit {0}
  AreLexicalStmts (StmtThen s ss) = IsLexicalStmt s × AreLexicalStmts ss

  pub AreLexicalHandlers : JavaHandlers → Type 0
  AreLexicalHandlers NoHandlers = Unit {0}
  AreLexicalHandlers (HandlerThen (Catch at c x ss) hs) = IsName x.name × AreLexicalStmts ss × AreLexicalHandlers hs

abbrev pub AreParameters : List JavaParameter → Type 0
AreParameters [] = Unit {0}
AreParameters (x ∷ xs) = IsName x.name.name × AreParameters xs

pub record IsLexicalMethod (m : JavaMethod) : Type 0 where
  pub parameters_ : AreParameters m.parameters
  pub body_ : AreLexicalStmts (java_stmts m.body)
