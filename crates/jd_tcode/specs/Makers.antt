-- What heads make of their parts.
use Rattle.std.specs.Prelude.{List, Option, Some, None, map}
use Rattle.std.specs.Global.{Box, Vec}
use Rattle.jd_syntax.specs.Codes as code
use Rattle.jd_syntax.specs.Codes.{Expr, Exprs, PlainKind, Stmt, exprs_of}
use Rattle.jd_syntax.specs.CodeViews.{expr_view}
use Rattle.jd_syntax.specs.Names.{Name}
use Rattle.jd_syntax.specs.declared.code.CodeExpr.{CodeExpr}
use Rattle.jd_tgrammar.specs.NameTables.{NameTable}
use Rattle.jd_tforms.specs.Reading.{Read, expr_of}
use Rattle.jd_tforms.specs.declared.heads.ExprHead.{ExprHead}
use Rattle.jd_tforms.specs.declared.heads.ExprHead.TheVariants as exprs
use Rattle.jd_tforms.specs.declared.heads.StmtHead.{StmtHead}
use Rattle.jd_tforms.specs.declared.heads.StmtHead.TheVariants as stmts

abbrev pub boxed_view : Box CodeExpr → Expr
boxed_view b = expr_view b.value

abbrev pub operands_view : Vec CodeExpr → Exprs
operands_view v = exprs_of (map expr_view v.items)

-- of heads with two expressions
abbrev pub two_exprs : ExprHead → Expr → Expr → Expr
two_exprs exprs.AndAlso a b = code.AndAlso a b
two_exprs exprs.OrElse a b = code.OrElse a b
two_exprs h a b = code.ReadElement a b

-- with a kind and an expression
abbrev pub of_kind : ExprHead → PlainKind → Expr → Expr
of_kind exprs.Cast k a = code.Cast k a
of_kind h k a = code.InstanceOf k a

-- with one expression
abbrev pub one_expr : StmtHead → Expr → Stmt
one_expr stmts.Evaluate a = code.Evaluate a
one_expr stmts.Throw a = code.Throw a
one_expr stmts.ThrowUnchecked a = code.ThrowUnchecked a
one_expr h a = code.Return a

-- with a variable and an expression
abbrev pub assigned : StmtHead → Name → Expr → Stmt
assigned stmts.Set x a = code.Set x a
assigned h x a = code.NewArray x a

-- behind the heads that have one part or two
abbrev pub one_or_two : NameTable → ExprHead → List Read → Option Expr
one_or_two names exprs.Conditional rs = None
one_or_two names exprs.VirtualCall rs = None
one_or_two names exprs.StaticCall rs = None
one_or_two names exprs.ConstructorCall rs = None
one_or_two names h rs = expr_of names (Some h) rs
