-- The variables that occur in code.
use Rattle.std.specs.Prelude.{ℕ, Bool, true, false, not, ◌&&◌, ◌||◌, List, [], ◌∷◌, Option, Some, None, nat_eq, codes}
use lib.Pointwise.{pointwise}
use Rattle.jd_base.specs.declared.sort.Sort.{Sort}
use Rattle.jd_base.specs.declared.sort.Sort.TheVariants.{Int, Bool as BoolSort, Ref, Heap, Field}
use Rattle.jd_syntax.specs.Names.{Name}
use Rattle.jd_syntax.specs.Codes.{Expr, IntLiteral, BoolLiteral, NullLiteral, Variable, Unary, Binary, AndAlso, OrElse, Conditional, ReadField, ReadElement, LengthOf, Cast, InstanceOf, VirtualCall, StaticCall, ConstructorCall, DoThen, Exprs, NoExprs, ExprThen, Stmt, Set, WriteField, WriteElement, Evaluate, If, While, Block, Break, Catch, Finally, Throw, ThrowUnchecked, Return, ReturnVoid, Frame, Raise, AllocObject, AllocArray, NewArray, Stop, PlainCode, Done, Then}

abbrev pub same_sort : Sort → Sort → Bool
same_sort Int Int = true
same_sort BoolSort BoolSort = true
same_sort Ref Ref = true
same_sort Heap Heap = true
same_sort Field Field = true
same_sort _ _ = false

-- names are the same where text and sort agree
abbrev pub same_name : Name → Name → Bool
same_name v w = pointwise nat_eq v.text w.text && same_sort v.sort w.sort

-- the variable that holds the heap
abbrev pub heap_name : Name
heap_name = record { text = codes "@heap"; sort = Heap }

-- the text begins with `@`
abbrev pub begins_with_at : List ℕ → Bool
begins_with_at [] = false
begins_with_at (b ∷ bs) = nat_eq b 64

-- the variable is none of the program's own
abbrev pub is_special : Name → Bool
is_special v = begins_with_at v.text

abbrev pub is_result : Name → Option Name → Bool
is_result v None = false
is_result v (Some w) = same_name v w

-- the variable v stands somewhere in the code: it is read, assigned, bound, allocated to, or takes a result
abbrev mutual
  pub named_in_expr : Name → Expr → Bool
  named_in_expr v (IntLiteral n) = false
  named_in_expr v (BoolLiteral b) = false
  named_in_expr v NullLiteral = false
  named_in_expr v (Variable w) = same_name v w
  named_in_expr v (Unary o a) = named_in_expr v a
  named_in_expr v (Binary o a b) = named_in_expr v a || named_in_expr v b
  named_in_expr v (AndAlso a b) = named_in_expr v a || named_in_expr v b
  named_in_expr v (OrElse a b) = named_in_expr v a || named_in_expr v b
  named_in_expr v (Conditional a b c) = named_in_expr v a || named_in_expr v b || named_in_expr v c
  named_in_expr v (ReadField a f) = named_in_expr v a
  named_in_expr v (ReadElement a b) = named_in_expr v a || named_in_expr v b
  named_in_expr v (LengthOf a) = named_in_expr v a
  named_in_expr v (Cast k a) = named_in_expr v a
  named_in_expr v (InstanceOf k a) = named_in_expr v a
  named_in_expr v (VirtualCall c m a es) = named_in_expr v a || named_in_exprs v es
  named_in_expr v (StaticCall m es) = named_in_exprs v es
  named_in_expr v (ConstructorCall m a es) = named_in_expr v a || named_in_exprs v es
  named_in_expr v (DoThen c a) = named_in_code v c || named_in_expr v a

  pub named_in_exprs : Name → Exprs → Bool
  named_in_exprs v NoExprs = false
  named_in_exprs v (ExprThen a es) = named_in_expr v a || named_in_exprs v es

  pub named_in_stmt : Name → Stmt → Bool
  named_in_stmt v (Set w a) = same_name v w || named_in_expr v a
  named_in_stmt v (WriteField a f b) = named_in_expr v a || named_in_expr v b
  named_in_stmt v (WriteElement a b c) = named_in_expr v a || named_in_expr v b || named_in_expr v c
  named_in_stmt v (Evaluate a) = named_in_expr v a
  named_in_stmt v (If a c d) = named_in_expr v a || named_in_code v c || named_in_code v d
  named_in_stmt v (While k a c) = named_in_expr v a || named_in_code v c
  named_in_stmt v (Block l c) = named_in_code v c
  named_in_stmt v (Break l) = false
  named_in_stmt v (Catch c w d) = named_in_code v c || same_name v w || named_in_code v d
  named_in_stmt v (Finally c d) = named_in_code v c || named_in_code v d
  named_in_stmt v (Throw a) = named_in_expr v a
  named_in_stmt v (ThrowUnchecked a) = named_in_expr v a
  named_in_stmt v (Return a) = named_in_expr v a
  named_in_stmt v ReturnVoid = false
  named_in_stmt v (Frame r c) = is_result v r || named_in_code v c
  named_in_stmt v (Raise c) = false
  named_in_stmt v (AllocObject w c) = same_name v w
  named_in_stmt v (AllocArray w a) = same_name v w || named_in_expr v a
  named_in_stmt v (NewArray w a) = same_name v w || named_in_expr v a
  named_in_stmt v Stop = false

  pub named_in_code : Name → PlainCode → Bool
  named_in_code v Done = false
  named_in_code v (Then s c) = named_in_stmt v s || named_in_code v c

-- the code has a `while`
abbrev mutual
  pub expr_has_loop : Expr → Bool
  expr_has_loop (IntLiteral n) = false
  expr_has_loop (BoolLiteral b) = false
  expr_has_loop NullLiteral = false
  expr_has_loop (Variable w) = false
  expr_has_loop (Unary o a) = expr_has_loop a
  expr_has_loop (Binary o a b) = expr_has_loop a || expr_has_loop b
  expr_has_loop (AndAlso a b) = expr_has_loop a || expr_has_loop b
  expr_has_loop (OrElse a b) = expr_has_loop a || expr_has_loop b
  expr_has_loop (Conditional a b c) = expr_has_loop a || expr_has_loop b || expr_has_loop c
  expr_has_loop (ReadField a f) = expr_has_loop a
  expr_has_loop (ReadElement a b) = expr_has_loop a || expr_has_loop b
  expr_has_loop (LengthOf a) = expr_has_loop a
  expr_has_loop (Cast k a) = expr_has_loop a
  expr_has_loop (InstanceOf k a) = expr_has_loop a
  expr_has_loop (VirtualCall c m a es) = expr_has_loop a || exprs_have_loop es
  expr_has_loop (StaticCall m es) = exprs_have_loop es
  expr_has_loop (ConstructorCall m a es) = expr_has_loop a || exprs_have_loop es
  expr_has_loop (DoThen c a) = has_loop c || expr_has_loop a

  pub exprs_have_loop : Exprs → Bool
  exprs_have_loop NoExprs = false
  exprs_have_loop (ExprThen a es) = expr_has_loop a || exprs_have_loop es

  pub stmt_has_loop : Stmt → Bool
  stmt_has_loop (Set w a) = expr_has_loop a
  stmt_has_loop (WriteField a f b) = expr_has_loop a || expr_has_loop b
  stmt_has_loop (WriteElement a b c) = expr_has_loop a || expr_has_loop b || expr_has_loop c
  stmt_has_loop (Evaluate a) = expr_has_loop a
  stmt_has_loop (If a c d) = expr_has_loop a || has_loop c || has_loop d
  stmt_has_loop (While k a c) = true
  stmt_has_loop (Block l c) = has_loop c
  stmt_has_loop (Break l) = false
  stmt_has_loop (Catch c w d) = has_loop c || has_loop d
  stmt_has_loop (Finally c d) = has_loop c || has_loop d
  stmt_has_loop (Throw a) = expr_has_loop a
  stmt_has_loop (ThrowUnchecked a) = expr_has_loop a
  stmt_has_loop (Return a) = expr_has_loop a
  stmt_has_loop ReturnVoid = false
  stmt_has_loop (Frame r c) = has_loop c
  stmt_has_loop (Raise c) = false
  stmt_has_loop (AllocObject w c) = false
  stmt_has_loop (AllocArray w a) = expr_has_loop a
  stmt_has_loop (NewArray w a) = expr_has_loop a
  stmt_has_loop Stop = false

  pub has_loop : PlainCode → Bool
  has_loop Done = false
  has_loop (Then s c) = stmt_has_loop s || has_loop c

abbrev pub is_empty : PlainCode → Bool
is_empty Done = true
is_empty (Then s c) = false

-- a variable occurs in code where it is named there; the heap occurs in all code but the empty one; and in code with
-- a loop each variable of the program occurs, since the loop's invariant may name it
abbrev pub occurs_in_code : Name → PlainCode → Bool
occurs_in_code v c =
    named_in_code v c || (same_name v heap_name && not (is_empty c)) || (not (is_special v) && has_loop c)
