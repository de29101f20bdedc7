-- How high the expressions and the statements of a file are.
use Rattle.std.specs.Prelude.{ℕ, ◌+◌, max, List, [], ◌∷◌, Option, Some, None}
use Rattle.jd_syntax.specs.JavaTrees as java
use Rattle.jd_syntax.specs.JavaTrees.{JavaExpr, JavaExprs, NoExprs, ExprThen, java_exprs, JavaDeclarator, JavaForStart, JavaStmt, JavaStmts, NoStmts, StmtThen, java_stmts, JavaHandler, JavaHandlers, NoHandlers, HandlerThen, JavaMember, FieldMember, ConstantMember, MethodMember, JavaClass, JavaUnit}

-- ---- expressions: a literal, a name, `this` and `null` have the height 0, any other one more than the highest of those right below it

-- Without arguments a call of the own class's methods and a new object have the height 1.
abbrev mutual
  pub expr_height : JavaExpr → ℕ
  expr_height (java.Integer at n) = 0
  expr_height (java.Boolean at b) = 0
  expr_height (java.Null at) = 0
  expr_height (java.This at) = 0
  expr_height (java.Name at x) = 0
  expr_height (java.Field at e x) = 1 + expr_height e
  expr_height (java.Parenthesized at e) = 1 + expr_height e
  expr_height (java.Call at m es) = 1 + exprs_height es
  expr_height (java.MethodCall at e m es) = 1 + max (expr_height e) (exprs_height es)
  expr_height (java.New at c es) = 1 + exprs_height es
  expr_height (java.NewArray at e) = 1 + expr_height e
  expr_height (java.Index at a i) = 1 + max (expr_height a) (expr_height i)
  expr_height (java.Prefix at o e) = 1 + expr_height e
  expr_height (java.Postfix at o e) = 1 + expr_height e
  expr_height (java.Cast at t e) = 1 + expr_height e
  expr_height (java.Infix at o a b) = 1 + max (expr_height a) (expr_height b)
  expr_height (java.InstanceOf at e t) = 1 + expr_height e
  expr_height (java.Conditional at c a b) = 1 + max (expr_height c) (max (expr_height a) (expr_height b))
  expr_height (java.Assign at o a b) = 1 + max (expr_height a) (expr_height b)

  -- that of the highest, 0 where there is none
  pub exprs_height : JavaExprs → ℕ
  exprs_height NoExprs = 0
  exprs_height (ExprThen e es) = max (expr_height e) (exprs_height es)

abbrev pub some_height : Option JavaExpr → ℕ
some_height None = 0
some_height (Some e) = expr_height e

-- ---- the highest expression in statements

abbrev pub declarators_height : List JavaDeclarator → ℕ
declarators_height [] = 0
declarators_height (d ∷ ds) = max (some_height d.value) (declarators_height ds)

abbrev pub for_start_height : JavaForStart → ℕ
for_start_height (java.Declared t ds) = declarators_height ds
for_start_height (java.Evaluated es) = exprs_height (java_exprs es)

abbrev mutual
  pub highest_in_stmt : JavaStmt → ℕ
  highest_in_stmt (java.Block at ss) = highest_in_stmts ss
  highest_in_stmt (java.Empty at) = 0
  highest_in_stmt (java.Local at t ds) = declarators_height ds
  highest_in_stmt (java.Evaluate at e) = expr_height e
  highest_in_stmt (java.Label at j l s) = highest_in_stmt s
  highest_in_stmt (java.If at c s) = max (expr_height c) (highest_in_stmt s)
  highest_in_stmt (java.IfElse at c s t) = max (expr_height c) (max (highest_in_stmt s) (highest_in_stmt t))
  highest_in_stmt (java.While at j c s) = max (expr_height c) (highest_in_stmt s)
  highest_in_stmt (java.For at j start c update s) =
      max (for_start_height start) (max (some_height c) (max (exprs_height (java_exprs update)) (highest_in_stmt s)))
  highest_in_stmt (java.Break at l) = 0
  highest_in_stmt (java.Continue at l) = 0
  highest_in_stmt (java.Return at e) = some_height e
  highest_in_stmt (java.Throw at e) = expr_height e
  highest_in_stmt (java.Try at ss hs) = max (highest_in_stmts ss) (highest_in_handlers hs)
  highest_in_stmt (java.TryFinally at ss hs ts) = max (highest_in_stmts ss) (max (highest_in_handlers hs) (highest_in_stmts ts))
  highest_in_stmt (java.Super at es) = exprs_height (java_exprs es)

  pub highest_in_stmts : JavaStmts → ℕ
  highest_in_stmts NoStmts = 0
  highest_in_stmts (StmtThen s ss) = max (highest_in_stmt s) (highest_in_stmts ss)

  pub highest_in_handler : JavaHandler → ℕ
  highest_in_handler (java.Catch at c x ss) = highest_in_stmts ss

  pub highest_in_handlers : JavaHandlers → ℕ
  highest_in_handlers NoHandlers = 0
  highest_in_handlers (HandlerThen h hs) = max (highest_in_handler h) (highest_in_handlers hs)

-- ---- statements: one more than the highest of those right below it, 0 where there is none; expressions do not count, and the blocks of a
-- `try` are statements

abbrev mutual
  pub stmt_height : JavaStmt → ℕ
  stmt_height (java.Block at ss) = stmts_height ss
  stmt_height (java.Empty at) = 0
  stmt_height (java.Local at t ds) = 0
  stmt_height (java.Evaluate at e) = 0
  stmt_height (java.Label at j l s) = 1 + stmt_height s
  stmt_height (java.If at c s) = 1 + stmt_height s
  stmt_height (java.IfElse at c s t) = 1 + max (stmt_height s) (stmt_height t)
  stmt_height (java.While at j c s) = 1 + stmt_height s
  stmt_height (java.For at j start c update s) = 1 + stmt_height s
  stmt_height (java.Break at l) = 0
  stmt_height (java.Continue at l) = 0
  stmt_height (java.Return at e) = 0
  stmt_height (java.Throw at e) = 0
  stmt_height (java.Try at ss hs) = 1 + max (stmts_height ss) (handlers_height hs)
  stmt_height (java.TryFinally at ss hs ts) = 1 + max (stmts_height ss) (max (handlers_height hs) (stmts_height ts))
  stmt_height (java.Super at es) = 0

  -- that of a block of these
  pub stmts_height : JavaStmts → ℕ
  stmts_height NoStmts = 0
  stmts_height (StmtThen s ss) = max (1 + stmt_height s) (stmts_height ss)

  pub handler_height : JavaHandler → ℕ
  handler_height (java.Catch at c x ss) = stmts_height ss

  pub handlers_height : JavaHandlers → ℕ
  handlers_height NoHandlers = 0
  handlers_height (HandlerThen h hs) = max (handler_height h) (handlers_height hs)

-- ---- files: that of the highest expression, and of the highest statement or body of a method, which counts as a block

abbrev pub highest_in_member : JavaMember → ℕ
highest_in_member (FieldMember f) = 0
highest_in_member (ConstantMember c) = 0
highest_in_member (MethodMember m) = highest_in_stmts (java_stmts m.body)

abbrev pub member_height : JavaMember → ℕ
member_height (FieldMember f) = 0
member_height (ConstantMember c) = 0
member_height (MethodMember m) = stmts_height (java_stmts m.body)

abbrev pub highest_in_members : List JavaMember → ℕ
highest_in_members [] = 0
highest_in_members (m ∷ ms) = max (highest_in_member m) (highest_in_members ms)

abbrev pub members_height : List JavaMember → ℕ
members_height [] = 0
members_height (m ∷ ms) = max (member_height m) (members_height ms)

abbrev pub highest_in_classes : List JavaClass → ℕ
highest_in_classes [] = 0
highest_in_classes (c ∷ cs) = max (highest_in_members c.members) (highest_in_classes cs)

abbrev pub classes_height : List JavaClass → ℕ
classes_height [] = 0
classes_height (c ∷ cs) = max (members_height c.members) (classes_height cs)

abbrev pub highest_expression : JavaUnit → ℕ
highest_expression u = highest_in_classes u.classes

abbrev pub highest_statement : JavaUnit → ℕ
highest_statement u = classes_height u.classes
