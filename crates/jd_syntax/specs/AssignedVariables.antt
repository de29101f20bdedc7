-- The variables that a code assigns, in the order of their names, each once.
use Rattle.std.specs.Prelude.{ℕ, Bool, cond, Option, Some, None, List, [], ◌∷◌}
use Rattle.std.specs.declared.cmp.Ordering.{Ordering}
use Rattle.std.specs.Ordering.{nat_cmp, is_lt, ordering_then}
use Rattle.std.specs.Cmp.Lexicographic.{slice_cmp}
use Rattle.jd_base.specs.declared.sort.Sort.{Sort}
use Rattle.jd_base.specs.declared.sort.Sort.TheVariants.{Int, Bool as BoolSort, Ref, Heap, Field}
use Rattle.jd_syntax.specs.CodeNames.{same_name}
use Rattle.jd_syntax.specs.Codes.{Expr, IntLiteral, BoolLiteral, NullLiteral, Variable, Unary, Binary, AndAlso, OrElse, Conditional, ReadField, ReadElement, LengthOf, Cast, InstanceOf, VirtualCall, StaticCall, ConstructorCall, DoThen, Exprs, NoExprs, ExprThen, Stmt, Set, WriteField, WriteElement, Evaluate, If, While, Block, Break, Catch, Finally, Throw, ThrowUnchecked, Return, ReturnVoid, Frame, Raise, AllocObject, AllocArray, NewArray, Stop, PlainCode, Done, Then}
use Rattle.jd_syntax.specs.Names.{Name}

-- the place of a sort among variables of one printed name
abbrev pub sort_rank : Sort → ℕ
sort_rank Int = 0
sort_rank BoolSort = 1
sort_rank Ref = 2
sort_rank Heap = 3
sort_rank Field = 4

-- the order of names: by the bytes of their texts, and then by sort
abbrev pub name_cmp : Name → Name → Ordering
name_cmp x y = ordering_then (slice_cmp nat_cmp x.text y.text) (nat_cmp (sort_rank x.sort) (sort_rank y.sort))

-- one name stands before the other
abbrev pub printed_before : Name → Name → Bool
printed_before x y = is_lt (name_cmp x y)

-- a sorted list with one name more
abbrev pub with_variable : Name → List Name → List Name
with_variable x [] = x ∷ []
with_variable x (y ∷ ys) = cond (same_name x y) (y ∷ ys) (cond (printed_before x y) (x ∷ (y ∷ ys)) (y ∷ with_variable x ys))

-- with one more where there is one
abbrev pub with_optional : Option Name → List Name → List Name
with_optional None ys = ys
with_optional (Some x) ys = with_variable x ys

-- what is assigned, with the names of a list
abbrev mutual
  pub assigned_in_expr : Expr → List Name → List Name
  assigned_in_expr (IntLiteral z) l = l
  assigned_in_expr (BoolLiteral b) l = l
  assigned_in_expr NullLiteral l = l
  assigned_in_expr (Variable x) l = l
  assigned_in_expr (Unary op a) l = assigned_in_expr a l
  assigned_in_expr (Binary op a b) l = assigned_in_expr a (assigned_in_expr b l)
  assigned_in_expr (AndAlso a b) l = assigned_in_expr a (assigned_in_expr b l)
  assigned_in_expr (OrElse a b) l = assigned_in_expr a (assigned_in_expr b l)
  assigned_in_expr (Conditional a b c) l = assigned_in_expr a (assigned_in_expr b (assigned_in_expr c l))
  assigned_in_expr (ReadField a f) l = assigned_in_expr a l
  assigned_in_expr (ReadElement a i) l = assigned_in_expr a (assigned_in_expr i l)
  assigned_in_expr (LengthOf a) l = assigned_in_expr a l
  assigned_in_expr (Cast k a) l = assigned_in_expr a l
  assigned_in_expr (InstanceOf k a) l = assigned_in_expr a l
  assigned_in_expr (VirtualCall k m a bs) l = assigned_in_expr a (assigned_in_exprs bs l)
  assigned_in_expr (StaticCall m bs) l = assigned_in_exprs bs l
  assigned_in_expr (ConstructorCall c a bs) l = assigned_in_expr a (assigned_in_exprs bs l)
  assigned_in_expr (DoThen c a) l = assigned_in_code c (assigned_in_expr a l)

  pub assigned_in_exprs : Exprs → List Name → List Name
  assigned_in_exprs NoExprs l = l
  assigned_in_exprs (ExprThen a bs) l = assigned_in_expr a (assigned_in_exprs bs l)

  pub assigned_in_stmt : Stmt → List Name → List Name
  assigned_in_stmt (Set x a) l = with_variable x (assigned_in_expr a l)
  assigned_in_stmt (WriteField a f b) l = assigned_in_expr a (assigned_in_expr b l)
  assigned_in_stmt (WriteElement a i b) l = assigned_in_expr a (assigned_in_expr i (assigned_in_expr b l))
  assigned_in_stmt (Evaluate a) l = assigned_in_expr a l
  assigned_in_stmt (If a c d) l = assigned_in_expr a (assigned_in_code c (assigned_in_code d l))
  assigned_in_stmt (While k a c) l = assigned_in_expr a (assigned_in_code c l)
  assigned_in_stmt (Block i c) l = assigned_in_code c l
  assigned_in_stmt (Break i) l = l
  assigned_in_stmt (Catch c x d) l = assigned_in_code c (with_variable x (assigned_in_code d l))
  assigned_in_stmt (Finally c d) l = assigned_in_code c (assigned_in_code d l)
  assigned_in_stmt (Throw a) l = assigned_in_expr a l
  assigned_in_stmt (ThrowUnchecked a) l = assigned_in_expr a l
  assigned_in_stmt (Return a) l = assigned_in_expr a l
  assigned_in_stmt ReturnVoid l = l
  assigned_in_stmt (Frame r c) l = with_optional r (assigned_in_code c l)
  assigned_in_stmt (Raise c) l = l
  assigned_in_stmt (AllocObject x c) l = with_variable x l
  assigned_in_stmt (AllocArray x a) l = with_variable x (assigned_in_expr a l)
  assigned_in_stmt (NewArray x a) l = with_variable x (assigned_in_expr a l)
  assigned_in_stmt Stop l = l

  pub assigned_in_code : PlainCode → List Name → List Name
  assigned_in_code Done l = l
  assigned_in_code (Then c cs) l = assigned_in_stmt c (assigned_in_code cs l)

-- what a loop's test and body assign
abbrev pub assigned_in_loop : Expr → PlainCode → List Name
assigned_in_loop e c = assigned_in_expr e (assigned_in_code c [])
