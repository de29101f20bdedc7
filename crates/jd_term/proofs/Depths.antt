-- Code, terms and formulas are at most as deep as they are large.
use Rattle.std.proofs.Common.{ℕ, ◌+◌, ◌≤◌, max, arith}
use Rattle.std.proofs.Math.Nat.{max-le}
use Rattle.jd_syntax.specs.Codes.{Expr, IntLiteral, BoolLiteral, NullLiteral, Variable, Unary, Binary, AndAlso, OrElse, Conditional, ReadField, ReadElement, LengthOf, Cast, InstanceOf, VirtualCall, StaticCall, ConstructorCall, DoThen, Exprs, NoExprs, ExprThen, Stmt, Set, WriteField, WriteElement, Evaluate, If, While, Block, Break, Catch, Finally, Throw, ThrowUnchecked, Return, ReturnVoid, Frame, Raise, AllocObject, AllocArray, NewArray, Stop, PlainCode, Done, Then}
use Rattle.jd_syntax.specs.CodeSizes.{expr_depth, expr_size, exprs_depth, exprs_size, stmt_depth, stmt_size, code_depth, code_size}
use Rattle.jd_term.specs.Terms.{PlainTerm}
use Rattle.jd_term.specs.TermSizes.{counted_levels, counted_trees, term_depth, term_size}
use Rattle.jd_term.specs.Formulas.{PlainFormula}
use Rattle.jd_term.specs.FormulaSizes.{formula_depth, formula_size}
use Rattle.jd_term.proofs.Related.{related_formula, related_term}

both : (a b m n : ℕ) → a ≤ m → b ≤ n → max a b ≤ m + n
both a b m n one other = max-le (omega (arith, one)) (omega (arith, other))

mutual
  pub expr_within : (x : Expr) → expr_depth x ≤ expr_size x
  expr_within (IntLiteral n) = omega (arith)
  expr_within (BoolLiteral b) = omega (arith)
  expr_within NullLiteral = omega (arith)
  expr_within (Variable w) = omega (arith)
  expr_within (Unary o a) = omega (arith, expr_within a)
  expr_within (Binary o a b) = omega (arith, both (expr_depth a) (expr_depth b) (expr_size a) (expr_size b) (expr_within a) (expr_within b))
  expr_within (AndAlso a b) = omega (arith, both (expr_depth a) (expr_depth b) (expr_size a) (expr_size b) (expr_within a) (expr_within b))
  expr_within (OrElse a b) = omega (arith, both (expr_depth a) (expr_depth b) (expr_size a) (expr_size b) (expr_within a) (expr_within b))
  expr_within (Conditional a b c) = omega (arith, both (max (expr_depth a) (expr_depth b)) (expr_depth c) (expr_size a + expr_size b) (expr_size c) (both (expr_depth a) (expr_depth b) (expr_size a) (expr_size b) (expr_within a) (expr_within b)) (expr_within c))
  expr_within (ReadField a f) = omega (arith, expr_within a)
  expr_within (ReadElement a b) = omega (arith, both (expr_depth a) (expr_depth b) (expr_size a) (expr_size b) (expr_within a) (expr_within b))
  expr_within (LengthOf a) = omega (arith, expr_within a)
  expr_within (Cast k a) = omega (arith, expr_within a)
  expr_within (InstanceOf k a) = omega (arith, expr_within a)
  expr_within (VirtualCall c m a es) = omega (arith, both (expr_depth a) (exprs_depth es) (expr_size a) (exprs_size es) (expr_within a) (exprs_within es))
  expr_within (StaticCall m es) = omega (arith, exprs_within es)
  expr_within (ConstructorCall m a es) = omega (arith, both (expr_depth a) (exprs_depth es) (expr_size a) (exprs_size es) (expr_within a) (exprs_within es))
  expr_within (DoThen c a) = omega (arith, both (code_depth c) (expr_depth a) (code_size c) (expr_size a) (code_within c) (expr_within a))

  pub exprs_within : (x : Exprs) → exprs_depth x ≤ exprs_size x
  exprs_within NoExprs = omega (arith)
  exprs_within (ExprThen a es) = both (expr_depth a) (exprs_depth es) (expr_size a) (exprs_size es) (expr_within a) (exprs_within es)

  pub stmt_within : (x : Stmt) → stmt_depth x ≤ stmt_size x
  stmt_within (Set w a) = omega (arith, expr_within a)
  stmt_within (WriteField a f b) = omega (arith, both (expr_depth a) (expr_depth b) (expr_size a) (expr_size b) (expr_within a) (expr_within b))
  stmt_within (WriteElement a b c) = omega (arith, both (max (expr_depth a) (expr_depth b)) (expr_depth c) (expr_size a + expr_size b) (expr_size c) (both (expr_depth a) (expr_depth b) (expr_size a) (expr_size b) (expr_within a) (expr_within b)) (expr_within c))
  stmt_within (Evaluate a) = omega (arith, expr_within a)
  stmt_within (If a c d) = omega (arith, both (max (expr_depth a) (code_depth c)) (code_depth d) (expr_size a + code_size c) (code_size d) (both (expr_depth a) (code_depth c) (expr_size a) (code_size c) (expr_within a) (code_within c)) (code_within d))
  stmt_within (While k a c) = omega (arith, both (expr_depth a) (code_depth c) (expr_size a) (code_size c) (expr_within a) (code_within c))
  stmt_within (Block l c) = omega (arith, code_within c)
  stmt_within (Break l) = omega (arith)
  stmt_within (Catch c w d) = omega (arith, both (code_depth c) (code_depth d) (code_size c) (code_size d) (code_within c) (code_within d))
  stmt_within (Finally c d) = omega (arith, both (code_depth c) (code_depth d) (code_size c) (code_size d) (code_within c) (code_within d))
  stmt_within (Throw a) = omega (arith, expr_within a)
  stmt_within (ThrowUnchecked a) = omega (arith, expr_within a)
  stmt_within (Return a) = omega (arith, expr_within a)
  stmt_within ReturnVoid = omega (arith)
  stmt_within (Frame r c) = omega (arith, code_within c)
  stmt_within (Raise c) = omega (arith)
  stmt_within (AllocObject w c) = omega (arith)
  stmt_within (AllocArray w a) = omega (arith, expr_within a)
  stmt_within (NewArray w a) = omega (arith, expr_within a)
  stmt_within Stop = omega (arith)

  pub code_within : (x : PlainCode) → code_depth x ≤ code_size x
  code_within Done = omega (arith)
  code_within (Then s c) = both (stmt_depth s) (code_depth c) (stmt_size s) (code_size c) (stmt_within s) (code_within c)

one_more : (m n : ℕ) → m ≤ n → 1 + m ≤ 1 + n
one_more m n within = omega (arith, within)

pub term_within : (x : PlainTerm) → term_depth x ≤ term_size x
term_within x =
    related_term (λ m n. m ≤ n) counted_levels counted_trees (omega (arith)) both (λ t. one_more) (λ l. one_more) (λ f. one_more) (λ v m n within. within) code_within x

pub formula_within : (x : PlainFormula) → formula_depth x ≤ formula_size x
formula_within x =
    related_formula (λ m n. m ≤ n) counted_levels counted_trees (omega (arith)) both (λ t. one_more) (λ l. one_more) (λ f. one_more) (λ v m n within. within) code_within x
