-- The size and the depth of code.
use Rattle.std.specs.Prelude.{ℕ, ◌+◌, max}
use Rattle.jd_syntax.specs.Codes.{Expr, IntLiteral, BoolLiteral, NullLiteral, Variable, Unary, Binary, AndAlso, OrElse, Conditional, ReadField, ReadElement, LengthOf, Cast, InstanceOf, VirtualCall, StaticCall, ConstructorCall, DoThen, Exprs, NoExprs, ExprThen, Stmt, Set, WriteField, WriteElement, Evaluate, If, While, Block, Break, Catch, Finally, Throw, ThrowUnchecked, Return, ReturnVoid, Frame, Raise, AllocObject, AllocArray, NewArray, Stop, PlainCode, Done, Then}

-- how many statements and expressions there are
abbrev mutual
  pub expr_size : Expr → ℕ
  expr_size (IntLiteral n) = 1
  expr_size (BoolLiteral b) = 1
  expr_size NullLiteral = 1
  expr_size (Variable w) = 1
  expr_size (Unary o a) = 1 + expr_size a
  expr_size (Binary o a b) = 1 + expr_size a + expr_size b
  expr_size (AndAlso a b) = 1 + expr_size a + expr_size b
  expr_size (OrElse a b) = 1 + expr_size a + expr_size b
  expr_size (Conditional a b c) = 1 + expr_size a + expr_size b + expr_size c
  expr_size (ReadField a f) = 1 + expr_size a
  expr_size (ReadElement a b) = 1 + expr_size a + expr_size b
  expr_size (LengthOf a) = 1 + expr_size a
  expr_size (Cast k a) = 1 + expr_size a
  expr_size (InstanceOf k a) = 1 + expr_size a
  expr_size (VirtualCall c m a es) = 1 + expr_size a + exprs_size es
  expr_size (StaticCall m es) = 1 + exprs_size es
  expr_size (ConstructorCall m a es) = 1 + expr_size a + exprs_size es
  expr_size (DoThen c a) = 1 + code_size c + expr_size a

  pub exprs_size : Exprs → ℕ
  exprs_size NoExprs = 0
  exprs_size (ExprThen a es) = expr_size a + exprs_size es

  pub stmt_size : Stmt → ℕ
  stmt_size (Set w a) = 1 + expr_size a
  stmt_size (WriteField a f b) = 1 + expr_size a + expr_size b
  stmt_size (WriteElement a b c) = 1 + expr_size a + expr_size b + expr_size c
  stmt_size (Evaluate a) = 1 + expr_size a
  stmt_size (If a c d) = 1 + expr_size a + code_size c + code_size d
  stmt_size (While k a c) = 1 + expr_size a + code_size c
  stmt_size (Block l c) = 1 + code_size c
  stmt_size (Break l) = 1
  stmt_size (Catch c w d) = 1 + code_size c + code_size d
  stmt_size (Finally c d) = 1 + code_size c + code_size d
  stmt_size (Throw a) = 1 + expr_size a
  stmt_size (ThrowUnchecked a) = 1 + expr_size a
  stmt_size (Return a) = 1 + expr_size a
  stmt_size ReturnVoid = 1
  stmt_size (Frame r c) = 1 + code_size c
  stmt_size (Raise c) = 1
  stmt_size (AllocObject w c) = 1
  stmt_size (AllocArray w a) = 1 + expr_size a
  stmt_size (NewArray w a) = 1 + expr_size a
  stmt_size Stop = 1

  pub code_size : PlainCode → ℕ
  code_size Done = 0
  code_size (Then s c) = stmt_size s + code_size c

-- how deep statements and expressions stand in one another: 1 where there is none inside
abbrev mutual
  pub expr_depth : Expr → ℕ
  expr_depth (IntLiteral n) = 1
  expr_depth (BoolLiteral b) = 1
  expr_depth NullLiteral = 1
  expr_depth (Variable w) = 1
  expr_depth (Unary o a) = 1 + expr_depth a
  expr_depth (Binary o a b) = 1 + max (expr_depth a) (expr_depth b)
  expr_depth (AndAlso a b) = 1 + max (expr_depth a) (expr_depth b)
  expr_depth (OrElse a b) = 1 + max (expr_depth a) (expr_depth b)
  expr_depth (Conditional a b c) = 1 + max (max (expr_depth a) (expr_depth b)) (expr_depth c)
  expr_depth (ReadField a f) = 1 + expr_depth a
  expr_depth (ReadElement a b) = 1 + max (expr_depth a) (expr_depth b)
  expr_depth (LengthOf a) = 1 + expr_depth a
  expr_depth (Cast k a) = 1 + expr_depth a
  expr_depth (InstanceOf k a) = 1 + expr_depth a
  expr_depth (VirtualCall c m a es) = 1 + max (expr_depth a) (exprs_depth es)
  expr_depth (StaticCall m es) = 1 + exprs_depth es
  expr_depth (ConstructorCall m a es) = 1 + max (expr_depth a) (exprs_depth es)
  expr_depth (DoThen c a) = 1 + max (code_depth c) (expr_depth a)

  pub exprs_depth : Exprs → ℕ
  exprs_depth NoExprs = 0
  exprs_depth (ExprThen a es) = max (expr_depth a) (exprs_depth es)

  pub stmt_depth : Stmt → ℕ
  stmt_depth (Set w a) = 1 + expr_depth a
  stmt_depth (WriteField a f b) = 1 + max (expr_depth a) (expr_depth b)
  stmt_depth (WriteElement a b c) = 1 + max (max (expr_depth a) (expr_depth b)) (expr_depth c)
  stmt_depth (Evaluate a) = 1 + expr_depth a
  stmt_depth (If a c d) = 1 + max (max (expr_depth a) (code_depth c)) (code_depth d)
  stmt_depth (While k a c) = 1 + max (expr_depth a) (code_depth c)
  stmt_depth (Block l c) = 1 + code_depth c
  stmt_depth (Break l) = 1
  stmt_depth (Catch c w d) = 1 + max (code_depth c) (code_depth d)
  stmt_depth (Finally c d) = 1 + max (code_depth c) (code_depth d)
  stmt_depth (Throw a) = 1 + expr_depth a
  stmt_depth (ThrowUnchecked a) = 1 + expr_depth a
  stmt_depth (Return a) = 1 + expr_depth a
  stmt_depth ReturnVoid = 1
  stmt_depth (Frame r c) = 1 + code_depth c
  stmt_depth (Raise c) = 1
  stmt_depth (AllocObject w c) = 1
  stmt_depth (AllocArray w a) = 1 + expr_depth a
  stmt_depth (NewArray w a) = 1 + expr_depth a
  stmt_depth Stop = 1

  pub code_depth : PlainCode → ℕ
  code_depth Done = 0
  code_depth (Then s c) = max (stmt_depth s) (code_depth c)
