-- Plain resolved code. Classes, fields, methods, loops and labels are numbers.
use Rattle.std.specs.Prelude.{ℕ, ℤ, Bool, List, [], ◌∷◌, Option}
use Rattle.jd_syntax.specs.declared.code.UnaryOp.{UnaryOp}
use Rattle.jd_syntax.specs.declared.code.BinaryOp.{BinaryOp}
use Rattle.jd_syntax.specs.Names.{Name}

-- a class, or `int[]`
pub data PlainKind : Type 0 where
  OfClass : ℕ → PlainKind
  IntArray : PlainKind

mutual
  pub data Expr : Type 0 where
    IntLiteral : ℤ → Expr
    BoolLiteral : Bool → Expr
    NullLiteral : Expr
    Variable : Name → Expr
    Unary : UnaryOp → Expr → Expr
    Binary : BinaryOp → Expr → Expr → Expr
    AndAlso : Expr → Expr → Expr
    OrElse : Expr → Expr → Expr
    Conditional : Expr → Expr → Expr → Expr
    ReadField : Expr → ℕ → Expr
    ReadElement : Expr → Expr → Expr
    LengthOf : Expr → Expr
    Cast : PlainKind → Expr → Expr
    InstanceOf : PlainKind → Expr → Expr
    VirtualCall : ℕ → ℕ → Expr → Exprs → Expr
    StaticCall : ℕ → Exprs → Expr
    ConstructorCall : ℕ → Expr → Exprs → Expr
    DoThen : PlainCode → Expr → Expr

  pub data Exprs : Type 0 where
    NoExprs : Exprs
    ExprThen : Expr → Exprs → Exprs

  pub data Stmt : Type 0 where
    Set : Name → Expr → Stmt
    WriteField : Expr → ℕ → Expr → Stmt
    WriteElement : Expr → Expr → Expr → Stmt
    Evaluate : Expr → Stmt
    If : Expr → PlainCode → PlainCode → Stmt
    While : ℕ → Expr → PlainCode → Stmt
    Block : ℕ → PlainCode → Stmt
    Break : ℕ → Stmt
    Catch : PlainCode → Name → PlainCode → Stmt
    Finally : PlainCode → PlainCode → Stmt
    Throw : Expr → Stmt
    ThrowUnchecked : Expr → Stmt
    Return : Expr → Stmt
    ReturnVoid : Stmt
    Frame : Option Name → PlainCode → Stmt
    Raise : ℕ → Stmt
    AllocObject : Name → ℕ → Stmt
    AllocArray : Name → Expr → Stmt
    NewArray : Name → Expr → Stmt
    Stop : Stmt

  pub data PlainCode : Type 0 where
    Done : PlainCode
    Then : Stmt → PlainCode → PlainCode

abbrev pub exprs_of : List Expr → Exprs
exprs_of [] = NoExprs
exprs_of (e ∷ es) = ExprThen e (exprs_of es)

abbrev pub stmts_of : List Stmt → PlainCode
stmts_of [] = Done
stmts_of (s ∷ ss) = Then s (stmts_of ss)
