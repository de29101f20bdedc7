-- The views of patterns of code.
use Rattle.jd_patterns.specs.Patterns.{ExprPattern, Simple, SimpleAt, Variable, Unary, Binary, ReadField, ReadElement, LengthOf, Cast, InstanceOf, StmtPattern, ReturnVar, Set, WriteField, WriteElement, Evaluate, If, Block, BlockPast, Break, Catch, Finally, Throw, ThrowUnchecked, Return, ReturnVoid, Frame, Raise, AllocObject, AllocArray, NewArray, Stop, CodePattern, Done, Then, CodeThen}
use Rattle.jd_schema_trees.specs.HeadViews.{kind_pattern, name_pattern, result_pattern, class_pattern}
use Rattle.jd_schema_trees.specs.declared.code.SExpr.{SExpr}
use Rattle.jd_schema_trees.specs.declared.code.SExpr.TheVariants as exprs
use Rattle.jd_schema_trees.specs.declared.code.SStmt.{SStmt}
use Rattle.jd_schema_trees.specs.declared.code.SStmt.TheVariants as stmts
use Rattle.jd_schema_trees.specs.declared.code.SCode.{SCode}
use Rattle.jd_schema_trees.specs.declared.code.SCode.TheVariants as codes

abbrev pub expr_pattern : SExpr → ExprPattern
expr_pattern (exprs.Simple n) = Simple n.items
expr_pattern (exprs.SimpleOf s n) = SimpleAt s n.items
expr_pattern (exprs.Variable x) = Variable (name_pattern x)
expr_pattern (exprs.Unary' op p e) = Unary op (expr_pattern e)
expr_pattern (exprs.Binary' op p e q f) = Binary op (expr_pattern e) (expr_pattern f)
expr_pattern (exprs.ReadField' p e n) = ReadField (expr_pattern e) n.items
expr_pattern (exprs.ReadElement' p e q f) = ReadElement (expr_pattern e) (expr_pattern f)
expr_pattern (exprs.LengthOf' p e) = LengthOf (expr_pattern e)
expr_pattern (exprs.Cast' k p e) = Cast (kind_pattern k) (expr_pattern e)
expr_pattern (exprs.InstanceOf' k p e) = InstanceOf (kind_pattern k) (expr_pattern e)

abbrev mutual
  pub stmt_pattern : SStmt → StmtPattern
  stmt_pattern (stmts.AnyReturn n) = ReturnVar n.items
  stmt_pattern (stmts.Set x e) = Set (name_pattern x) (expr_pattern e)
  stmt_pattern (stmts.WriteField e n f) = WriteField (expr_pattern e) n.items (expr_pattern f)
  stmt_pattern (stmts.WriteElement e f g) = WriteElement (expr_pattern e) (expr_pattern f) (expr_pattern g)
  stmt_pattern (stmts.Evaluate e) = Evaluate (expr_pattern e)
  stmt_pattern (stmts.If' e p c q d) = If (expr_pattern e) (code_pattern c) (code_pattern d)
  stmt_pattern (stmts.Block' n p c) = Block n.items (code_pattern c)
  stmt_pattern (stmts.BlockPast' n m p c) = BlockPast n.items m.items (code_pattern c)
  stmt_pattern (stmts.Break n) = Break n.items
  stmt_pattern (stmts.Catch' p c x q d) = Catch (code_pattern c) (name_pattern x) (code_pattern d)
  stmt_pattern (stmts.Finally' p c q d) = Finally (code_pattern c) (code_pattern d)
  stmt_pattern (stmts.Throw e) = Throw (expr_pattern e)
  stmt_pattern (stmts.ThrowUnchecked e) = ThrowUnchecked (expr_pattern e)
  stmt_pattern (stmts.Return e) = Return (expr_pattern e)
  stmt_pattern stmts.ReturnVoid = ReturnVoid
  stmt_pattern (stmts.Frame' r p c) = Frame (result_pattern r) (code_pattern c)
  stmt_pattern (stmts.Raise c) = Raise (class_pattern c)
  stmt_pattern (stmts.AllocObject x c) = AllocObject (name_pattern x) (class_pattern c)
  stmt_pattern (stmts.AllocArray x e) = AllocArray (name_pattern x) (expr_pattern e)
  stmt_pattern (stmts.NewArray x e) = NewArray (name_pattern x) (expr_pattern e)
  stmt_pattern stmts.Stop = Stop

  pub code_pattern : SCode → CodePattern
  code_pattern codes.Done = Done
  code_pattern (codes.Then' p s q c) = Then (stmt_pattern s) (code_pattern c)
  code_pattern (codes.AnyThen' n p c) = CodeThen n.items (code_pattern c)
