-- The calls in code, each at its place in the order in which they are written.
use Rattle.std.specs.Prelude.{List, [], ◌∷◌, ◌++◌, Option, None, Some}
use Rattle.jd_syntax.specs.JavaTrees.{JavaExpr, Integer, Boolean, Null, This, Name, Field, Parenthesized, Call, MethodCall, New, NewArray, Index, Prefix, Postfix, Cast, Infix, InstanceOf, Conditional, Assign, JavaExprs, NoExprs, ExprThen, java_exprs, JavaDeclarator, JavaForStart, Declared, Evaluated, JavaStmt, Block, Empty, Local, Evaluate, Label, If, IfElse, While, For, Break, Continue, Return, Throw, Try, TryFinally, Super, JavaStmts, NoStmts, StmtThen, java_stmts, Catch, JavaHandlers, NoHandlers, HandlerThen}
use Rattle.jd_jcalls.specs.Called.{PlainCalled, MethodNamed, ConstructorOf, ConstructorAbove}

-- ---- in expressions (JLS 15): a method's object stands before its name, arguments behind it

abbrev mutual
  pub calls_in_expr : JavaExpr → List PlainCalled
  calls_in_expr (Integer at n) = []
  calls_in_expr (Boolean at b) = []
  calls_in_expr (Null at) = []
  calls_in_expr (This at) = []
  calls_in_expr (Name at x) = []
  calls_in_expr (Field at e x) = calls_in_expr e
  calls_in_expr (Parenthesized at e) = calls_in_expr e
  calls_in_expr (Call at m es) = MethodNamed m ∷ calls_in_arguments es
  calls_in_expr (MethodCall at e m es) = calls_in_expr e ++ (MethodNamed m.name ∷ calls_in_arguments es)
  calls_in_expr (New at c es) = ConstructorOf c.name ∷ calls_in_arguments es
  calls_in_expr (NewArray at e) = calls_in_expr e
  calls_in_expr (Index at a i) = calls_in_expr a ++ calls_in_expr i
  calls_in_expr (Prefix at o e) = calls_in_expr e
  calls_in_expr (Postfix at o e) = calls_in_expr e
  calls_in_expr (Cast at t e) = calls_in_expr e
  calls_in_expr (Infix at o a b) = calls_in_expr a ++ calls_in_expr b
  calls_in_expr (InstanceOf at e t) = calls_in_expr e
  calls_in_expr (Conditional at c a b) = calls_in_expr c ++ calls_in_expr a ++ calls_in_expr b
  calls_in_expr (Assign at o a b) = calls_in_expr a ++ calls_in_expr b

  pub calls_in_arguments : JavaExprs → List PlainCalled
  calls_in_arguments NoExprs = []
  calls_in_arguments (ExprThen e es) = calls_in_expr e ++ calls_in_arguments es

abbrev pub calls_in_exprs : List JavaExpr → List PlainCalled
calls_in_exprs es = calls_in_arguments (java_exprs es)

abbrev pub calls_in_optional : Option JavaExpr → List PlainCalled
calls_in_optional None = []
calls_in_optional (Some e) = calls_in_expr e

-- ---- in what is declared

abbrev pub calls_in_declarators : List JavaDeclarator → List PlainCalled
calls_in_declarators [] = []
calls_in_declarators (d ∷ ds) = calls_in_optional d.value ++ calls_in_declarators ds

abbrev pub calls_in_for_start : JavaForStart → List PlainCalled
calls_in_for_start (Declared t ds) = calls_in_declarators ds
calls_in_for_start (Evaluated es) = calls_in_exprs es

-- ---- in statements (JLS 14); JML has none

abbrev mutual
  pub calls_in_stmt : JavaStmt → List PlainCalled
  calls_in_stmt (Block at ss) = calls_in_block ss
  calls_in_stmt (Empty at) = []
  calls_in_stmt (Local at t ds) = calls_in_declarators ds
  calls_in_stmt (Evaluate at e) = calls_in_expr e
  calls_in_stmt (Label at j l s) = calls_in_stmt s
  calls_in_stmt (If at c s) = calls_in_expr c ++ calls_in_stmt s
  calls_in_stmt (IfElse at c s t) = calls_in_expr c ++ calls_in_stmt s ++ calls_in_stmt t
  calls_in_stmt (While at j c s) = calls_in_expr c ++ calls_in_stmt s
  calls_in_stmt (For at j start c update s) = calls_in_for_start start ++ calls_in_optional c ++ calls_in_exprs update ++ calls_in_stmt s
  calls_in_stmt (Break at l) = []
  calls_in_stmt (Continue at l) = []
  calls_in_stmt (Return at e) = calls_in_optional e
  calls_in_stmt (Throw at e) = calls_in_expr e
  calls_in_stmt (Try at ss hs) = calls_in_block ss ++ calls_in_handlers hs
  calls_in_stmt (TryFinally at ss hs ts) = calls_in_block ss ++ calls_in_handlers hs ++ calls_in_block ts
  calls_in_stmt (Super at es) = ConstructorAbove ∷ calls_in_exprs es

  pub calls_in_block : JavaStmts → List PlainCalled
  calls_in_block NoStmts = []
  calls_in_block (StmtThen s ss) = calls_in_stmt s ++ calls_in_block ss

  pub calls_in_handlers : JavaHandlers → List PlainCalled
  calls_in_handlers NoHandlers = []
  calls_in_handlers (HandlerThen (Catch at c x ss) hs) = calls_in_block ss ++ calls_in_handlers hs

abbrev pub calls_in_stmts : List JavaStmt → List PlainCalled
calls_in_stmts ss = calls_in_block (java_stmts ss)
