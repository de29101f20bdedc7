-- The view of code: its plain tree.
use Rattle.std.specs.Prelude.{option_map}
use Rattle.jd_syntax.specs.declared.code.Kind.{Kind}
use Rattle.jd_syntax.specs.declared.code.Kind.TheVariants as kinds
use Rattle.jd_syntax.specs.declared.code.Code.{Code, Code-F, fold-Code}
use Rattle.jd_syntax.specs.declared.code.CodeExpr.{CodeExpr, CodeExpr-F, fold-CodeExpr}
use Rattle.jd_syntax.specs.declared.code.CodeExpr.TheOpen as layer
use Rattle.jd_syntax.specs.declared.code.CodeStmt.{CodeStmt, CodeStmt-F, fold-CodeStmt}
use Rattle.jd_syntax.specs.Codes.{PlainKind, OfClass, IntArray, Expr, IntLiteral, BoolLiteral, NullLiteral, Variable, Unary, Binary, AndAlso, OrElse, Conditional, ReadField, ReadElement, LengthOf, Cast, InstanceOf, VirtualCall, StaticCall, ConstructorCall, DoThen, Stmt, Set, WriteField, WriteElement, Evaluate, If, While, Block, Break, Catch, Finally, Throw, ThrowUnchecked, Return, ReturnVoid, Frame, Raise, AllocObject, AllocArray, NewArray, Stop, PlainCode, exprs_of, stmts_of}
use Rattle.jd_syntax.specs.Names.{var_view}

abbrev pub kind_view : Kind → PlainKind
kind_view (kinds.Class c) = OfClass c.0
kind_view kinds.IntArray = IntArray

abbrev pub expr_layer : CodeExpr-F Expr Stmt PlainCode → Expr
expr_layer (layer.IntLiteral n) = IntLiteral n
expr_layer (layer.BoolLiteral b) = BoolLiteral b
expr_layer layer.NullLiteral = NullLiteral
expr_layer (layer.Variable v) = Variable (var_view v)
expr_layer (layer.Unary o a) = Unary o a.value
expr_layer (layer.Binary o a b) = Binary o a.value b.value
expr_layer (layer.AndAlso a b) = AndAlso a.value b.value
expr_layer (layer.OrElse a b) = OrElse a.value b.value
expr_layer (layer.Conditional a b c) = Conditional a.value b.value c.value
expr_layer (layer.ReadField a f) = ReadField a.value f.0
expr_layer (layer.ReadElement a b) = ReadElement a.value b.value
expr_layer (layer.LengthOf a) = LengthOf a.value
expr_layer (layer.Cast k a) = Cast (kind_view k) a.value
expr_layer (layer.InstanceOf k a) = InstanceOf (kind_view k) a.value
expr_layer (layer.VirtualCall c m a es) = VirtualCall c.0 m.0 a.value (exprs_of es.items)
expr_layer (layer.StaticCall m es) = StaticCall m.0 (exprs_of es.items)
expr_layer (layer.ConstructorCall m a es) = ConstructorCall m.0 a.value (exprs_of es.items)
expr_layer (layer.DoThen c a) = DoThen c a.value

abbrev pub stmt_layer : CodeStmt-F Expr Stmt PlainCode → Stmt
stmt_layer (layer.Set v a) = Set (var_view v) a
stmt_layer (layer.WriteField a f b) = WriteField a f.0 b
stmt_layer (layer.WriteElement a b c) = WriteElement a b c
stmt_layer (layer.Evaluate a) = Evaluate a
stmt_layer (layer.If a c d) = If a c d
stmt_layer (layer.While k a c) = While k a c
stmt_layer (layer.Block l c) = Block l c
stmt_layer (layer.Break l) = Break l
stmt_layer (layer.Catch c v d) = Catch c (var_view v) d
stmt_layer (layer.Finally c d) = Finally c d
stmt_layer (layer.Throw a) = Throw a
stmt_layer (layer.ThrowUnchecked a) = ThrowUnchecked a
stmt_layer (layer.Return a) = Return a
stmt_layer layer.ReturnVoid = ReturnVoid
stmt_layer (layer.Frame v c) = Frame (option_map var_view v) c
stmt_layer (layer.Raise c) = Raise c.0
stmt_layer (layer.AllocObject v c) = AllocObject (var_view v) c.0
stmt_layer (layer.AllocArray v a) = AllocArray (var_view v) a
stmt_layer (layer.NewArray v a) = NewArray (var_view v) a
stmt_layer layer.Stop = Stop

abbrev pub code_layer : Code-F Expr Stmt PlainCode → PlainCode
code_layer c = stmts_of c.stmts.items

abbrev pub expr_view : CodeExpr → Expr
expr_view = fold-CodeExpr Expr Stmt PlainCode expr_layer stmt_layer code_layer

abbrev pub stmt_view : CodeStmt → Stmt
stmt_view = fold-CodeStmt Expr Stmt PlainCode expr_layer stmt_layer code_layer

abbrev pub code_view : Code → PlainCode
code_view = fold-Code Expr Stmt PlainCode expr_layer stmt_layer code_layer
