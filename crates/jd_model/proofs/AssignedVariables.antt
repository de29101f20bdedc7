-- What a loop's code assigns stands in the list of what it assigns.
use Rattle.std.proofs.Common.{◌≡◌, Bool, true, false, cond, Option, Some, None, List, [], ◌∷◌, refl, sym, ap, ◌∙◌, true≢false}
use Rattle.jd_model.proofs.Wider.{expr_wider, exprs_wider, code_wider}
use Rattle.jd_model.proofs.Writes.{member_here, member_there}
use Rattle.jd_model.specs.Occurrences.{MaybeIn, ExprIn, ExprsIn, StmtIn, CodeIn, Always, AllOf, member}
use Rattle.jd_syntax.specs.AssignedVariables.{with_variable, with_optional, printed_before, assigned_in_expr, assigned_in_exprs, assigned_in_stmt, assigned_in_code, assigned_in_loop}
use Rattle.jd_syntax.specs.CodeNames.{same_name}
use Rattle.jd_syntax.specs.Codes.{Expr, IntLiteral, BoolLiteral, NullLiteral, Variable, Unary, Binary, AndAlso, OrElse, Conditional, ReadField, ReadElement, LengthOf, Cast, InstanceOf, VirtualCall, StaticCall, ConstructorCall, DoThen, Exprs, NoExprs, ExprThen, Stmt, Set, WriteField, WriteElement, Evaluate, If, While, Block, Break, Catch, Finally, Throw, ThrowUnchecked, Return, ReturnVoid, Frame, Raise, AllocObject, AllocArray, NewArray, Stop, PlainCode, Done, Then}
use Rattle.jd_syntax.specs.Names.{Name}

-- what stands in l
abbrev pub Member : List Name → Name → Type 0
Member l x = member x l ≡ true

abbrev Within : List Name → List Name → Type 0
Within l m = (x : Name) → Member l x → Member m x

here : (x : Name) (l : List Name) → Member (with_variable x l) x
here x [] = member_here x []
here x (y ∷ ys) = by (here x ys) (same_name x y) refl (printed_before x y)
  where
    by : Member (with_variable x ys) x → (b : Bool) → same_name x y ≡ b → (c : Bool) → Member (cond b (y ∷ ys) (cond c (x ∷ (y ∷ ys)) (y ∷ with_variable x ys))) x
    by h true p c = ap (λ b. cond b true (member x ys)) p
    by h false p true = member_here x (y ∷ ys)
    by h false p false = member_there x y (with_variable x ys) h

there : (x : Name) (l : List Name) → Within l (with_variable x l)
there x [] q e = absurd (true≢false (sym e))
there x (y ∷ ys) q e = by (there x ys q) (same_name x y) (printed_before x y) (same_name q y) refl e
  where
    by : (Member ys q → Member (with_variable x ys) q) → (b c d : Bool) → same_name q y ≡ d → cond d true (member q ys) ≡ true → Member (cond b (y ∷ ys) (cond c (x ∷ (y ∷ ys)) (y ∷ with_variable x ys))) q
    by h true c d p f = ap (λ d. cond d true (member q ys)) p ∙ f
    by h false true d p f = member_there q x (y ∷ ys) (ap (λ d. cond d true (member q ys)) p ∙ f)
    by h false false true p f = ap (λ d. cond d true (member q (with_variable x ys))) p
    by h false false false p f = member_there q y (with_variable x ys) (h f)

result_there : (r : Option Name) (l : List Name) → Within l (with_optional r l)
result_there None l q e = e
result_there (Some x) l q e = there x l q e

result_in : (r : Option Name) (l : List Name) → MaybeIn Always (Member (with_optional r l)) r
result_in None l = tt
result_in (Some x) l = here x l

-- the list before stands in the list after
mutual
  expr_there : (a : Expr) (l : List Name) → Within l (assigned_in_expr a l)
  expr_there (IntLiteral z) l q h = h
  expr_there (BoolLiteral b) l q h = h
  expr_there NullLiteral l q h = h
  expr_there (Variable x) l q h = h
  expr_there (Unary op a) l q h = expr_there a l q h
  expr_there (Binary op a b) l q h = expr_there a (assigned_in_expr b l) q (expr_there b l q h)
  expr_there (AndAlso a b) l q h = expr_there a (assigned_in_expr b l) q (expr_there b l q h)
  expr_there (OrElse a b) l q h = expr_there a (assigned_in_expr b l) q (expr_there b l q h)
  expr_there (Conditional a b c) l q h = expr_there a (assigned_in_expr b (assigned_in_expr c l)) q (expr_there b (assigned_in_expr c l) q (expr_there c l q h))
  expr_there (ReadField a f) l q h = expr_there a l q h
  expr_there (ReadElement a i) l q h = expr_there a (assigned_in_expr i l) q (expr_there i l q h)
  expr_there (LengthOf a) l q h = expr_there a l q h
  expr_there (Cast k a) l q h = expr_there a l q h
  expr_there (InstanceOf k a) l q h = expr_there a l q h
  expr_there (VirtualCall k m a bs) l q h = expr_there a (assigned_in_exprs bs l) q (exprs_there bs l q h)
  expr_there (StaticCall m bs) l q h = exprs_there bs l q h
  expr_there (ConstructorCall c a bs) l q h = expr_there a (assigned_in_exprs bs l) q (exprs_there bs l q h)
  expr_there (DoThen c a) l q h = code_there c (assigned_in_expr a l) q (expr_there a l q h)

  exprs_there : (a : Exprs) (l : List Name) → Within l (assigned_in_exprs a l)
  exprs_there NoExprs l q h = h
  exprs_there (ExprThen a bs) l q h = expr_there a (assigned_in_exprs bs l) q (exprs_there bs l q h)

  stmt_there : (a : Stmt) (l : List Name) → Within l (assigned_in_stmt a l)
  stmt_there (Set x a) l q h = there x (assigned_in_expr a l) q (expr_there a l q h)
  stmt_there (WriteField a f b) l q h = expr_there a (assigned_in_expr b l) q (expr_there b l q h)
  stmt_there (WriteElement a i b) l q h = expr_there a (assigned_in_expr i (assigned_in_expr b l)) q (expr_there i (assigned_in_expr b l) q (expr_there b l q h))
  stmt_there (Evaluate a) l q h = expr_there a l q h
  stmt_there (If a c d) l q h = expr_there a (assigned_in_code c (assigned_in_code d l)) q (code_there c (assigned_in_code d l) q (code_there d l q h))
  stmt_there (While k a c) l q h = expr_there a (assigned_in_code c l) q (code_there c l q h)
  stmt_there (Block i c) l q h = code_there c l q h
  stmt_there (Break i) l q h = h
  stmt_there (Catch c x d) l q h = code_there c (with_variable x (assigned_in_code d l)) q (there x (assigned_in_code d l) q (code_there d l q h))
  stmt_there (Finally c d) l q h = code_there c (assigned_in_code d l) q (code_there d l q h)
  stmt_there (Throw a) l q h = expr_there a l q h
  stmt_there (ThrowUnchecked a) l q h = expr_there a l q h
  stmt_there (Return a) l q h = expr_there a l q h
  stmt_there ReturnVoid l q h = h
  stmt_there (Frame r c) l q h = result_there r (assigned_in_code c l) q (code_there c l q h)
  stmt_there (Raise c) l q h = h
  stmt_there (AllocObject x c) l q h = there x l q h
  stmt_there (AllocArray x a) l q h = there x (assigned_in_expr a l) q (expr_there a l q h)
  stmt_there (NewArray x a) l q h = there x (assigned_in_expr a l) q (expr_there a l q h)
  stmt_there Stop l q h = h

  code_there : (a : PlainCode) (l : List Name) → Within l (assigned_in_code a l)
  code_there Done l q h = h
  code_there (Then c cs) l q h = stmt_there c (assigned_in_code cs l) q (code_there cs l q h)

-- and so do the names assigned
mutual
  pub expr_covers : (a : Expr) (l : List Name) → ExprIn Always (Member (assigned_in_expr a l)) a
  expr_covers (IntLiteral z) l = tt
  expr_covers (BoolLiteral b) l = tt
  expr_covers NullLiteral l = tt
  expr_covers (Variable x) l = tt
  expr_covers (Unary op a) l = expr_covers a l
  expr_covers (Binary op a b) l = (expr_covers a (assigned_in_expr b l), expr_wider Always (Member (assigned_in_expr b l)) Always (Member (assigned_in_expr a (assigned_in_expr b l))) (λ q m. tt) (λ q m. expr_there a (assigned_in_expr b l) q m) b (expr_covers b l))
  expr_covers (AndAlso a b) l = (expr_covers a (assigned_in_expr b l), expr_wider Always (Member (assigned_in_expr b l)) Always (Member (assigned_in_expr a (assigned_in_expr b l))) (λ q m. tt) (λ q m. expr_there a (assigned_in_expr b l) q m) b (expr_covers b l))
  expr_covers (OrElse a b) l = (expr_covers a (assigned_in_expr b l), expr_wider Always (Member (assigned_in_expr b l)) Always (Member (assigned_in_expr a (assigned_in_expr b l))) (λ q m. tt) (λ q m. expr_there a (assigned_in_expr b l) q m) b (expr_covers b l))
  expr_covers (Conditional a b c) l = (expr_covers a (assigned_in_expr b (assigned_in_expr c l)), expr_wider Always (Member (assigned_in_expr b (assigned_in_expr c l))) Always (Member (assigned_in_expr a (assigned_in_expr b (assigned_in_expr c l)))) (λ q m. tt) (λ q m. expr_there a (assigned_in_expr b (assigned_in_expr c l)) q m) b (expr_covers b (assigned_in_expr c l)), expr_wider Always (Member (assigned_in_expr c l)) Always (Member (assigned_in_expr a (assigned_in_expr b (assigned_in_expr c l)))) (λ q m. tt) (λ q m. expr_there a (assigned_in_expr b (assigned_in_expr c l)) q (expr_there b (assigned_in_expr c l) q m)) c (expr_covers c l))
  expr_covers (ReadField a f) l = expr_covers a l
  expr_covers (ReadElement a i) l = (expr_covers a (assigned_in_expr i l), expr_wider Always (Member (assigned_in_expr i l)) Always (Member (assigned_in_expr a (assigned_in_expr i l))) (λ q m. tt) (λ q m. expr_there a (assigned_in_expr i l) q m) i (expr_covers i l))
  expr_covers (LengthOf a) l = expr_covers a l
  expr_covers (Cast k a) l = expr_covers a l
  expr_covers (InstanceOf k a) l = expr_covers a l
  expr_covers (VirtualCall k m a bs) l = (expr_covers a (assigned_in_exprs bs l), exprs_wider Always (Member (assigned_in_exprs bs l)) Always (Member (assigned_in_expr a (assigned_in_exprs bs l))) (λ q m. tt) (λ q m. expr_there a (assigned_in_exprs bs l) q m) bs (exprs_covers bs l))
  expr_covers (StaticCall m bs) l = exprs_covers bs l
  expr_covers (ConstructorCall c a bs) l = (expr_covers a (assigned_in_exprs bs l), exprs_wider Always (Member (assigned_in_exprs bs l)) Always (Member (assigned_in_expr a (assigned_in_exprs bs l))) (λ q m. tt) (λ q m. expr_there a (assigned_in_exprs bs l) q m) bs (exprs_covers bs l))
  expr_covers (DoThen c a) l = (code_covers c (assigned_in_expr a l), expr_wider Always (Member (assigned_in_expr a l)) Always (Member (assigned_in_code c (assigned_in_expr a l))) (λ q m. tt) (λ q m. code_there c (assigned_in_expr a l) q m) a (expr_covers a l))

  pub exprs_covers : (a : Exprs) (l : List Name) → ExprsIn Always (Member (assigned_in_exprs a l)) a
  exprs_covers NoExprs l = tt
  exprs_covers (ExprThen a bs) l = (expr_covers a (assigned_in_exprs bs l), exprs_wider Always (Member (assigned_in_exprs bs l)) Always (Member (assigned_in_expr a (assigned_in_exprs bs l))) (λ q m. tt) (λ q m. expr_there a (assigned_in_exprs bs l) q m) bs (exprs_covers bs l))

  pub stmt_covers : (a : Stmt) (l : List Name) → StmtIn Always (Member (assigned_in_stmt a l)) a
  stmt_covers (Set x a) l = (here x (assigned_in_expr a l), expr_wider Always (Member (assigned_in_expr a l)) Always (Member (with_variable x (assigned_in_expr a l))) (λ q m. tt) (λ q m. there x (assigned_in_expr a l) q m) a (expr_covers a l))
  stmt_covers (WriteField a f b) l = (expr_covers a (assigned_in_expr b l), expr_wider Always (Member (assigned_in_expr b l)) Always (Member (assigned_in_expr a (assigned_in_expr b l))) (λ q m. tt) (λ q m. expr_there a (assigned_in_expr b l) q m) b (expr_covers b l))
  stmt_covers (WriteElement a i b) l = (expr_covers a (assigned_in_expr i (assigned_in_expr b l)), expr_wider Always (Member (assigned_in_expr i (assigned_in_expr b l))) Always (Member (assigned_in_expr a (assigned_in_expr i (assigned_in_expr b l)))) (λ q m. tt) (λ q m. expr_there a (assigned_in_expr i (assigned_in_expr b l)) q m) i (expr_covers i (assigned_in_expr b l)), expr_wider Always (Member (assigned_in_expr b l)) Always (Member (assigned_in_expr a (assigned_in_expr i (assigned_in_expr b l)))) (λ q m. tt) (λ q m. expr_there a (assigned_in_expr i (assigned_in_expr b l)) q (expr_there i (assigned_in_expr b l) q m)) b (expr_covers b l))
  stmt_covers (Evaluate a) l = expr_covers a l
  stmt_covers (If a c d) l = (expr_covers a (assigned_in_code c (assigned_in_code d l)), code_wider Always (Member (assigned_in_code c (assigned_in_code d l))) Always (Member (assigned_in_expr a (assigned_in_code c (assigned_in_code d l)))) (λ q m. tt) (λ q m. expr_there a (assigned_in_code c (assigned_in_code d l)) q m) c (code_covers c (assigned_in_code d l)), code_wider Always (Member (assigned_in_code d l)) Always (Member (assigned_in_expr a (assigned_in_code c (assigned_in_code d l)))) (λ q m. tt) (λ q m. expr_there a (assigned_in_code c (assigned_in_code d l)) q (code_there c (assigned_in_code d l) q m)) d (code_covers d l))
  stmt_covers (While k a c) l = (expr_covers a (assigned_in_code c l), code_wider Always (Member (assigned_in_code c l)) Always (Member (assigned_in_expr a (assigned_in_code c l))) (λ q m. tt) (λ q m. expr_there a (assigned_in_code c l) q m) c (code_covers c l))
  stmt_covers (Block i c) l = code_covers c l
  stmt_covers (Break i) l = tt
  stmt_covers (Catch c x d) l = (code_covers c (with_variable x (assigned_in_code d l)), code_there c (with_variable x (assigned_in_code d l)) x (here x (assigned_in_code d l)), code_wider Always (Member (assigned_in_code d l)) Always (Member (assigned_in_code c (with_variable x (assigned_in_code d l)))) (λ q m. tt) (λ q m. code_there c (with_variable x (assigned_in_code d l)) q (there x (assigned_in_code d l) q m)) d (code_covers d l))
  stmt_covers (Finally c d) l = (code_covers c (assigned_in_code d l), code_wider Always (Member (assigned_in_code d l)) Always (Member (assigned_in_code c (assigned_in_code d l))) (λ q m. tt) (λ q m. code_there c (assigned_in_code d l) q m) d (code_covers d l))
  stmt_covers (Throw a) l = expr_covers a l
  stmt_covers (ThrowUnchecked a) l = expr_covers a l
  stmt_covers (Return a) l = expr_covers a l
  stmt_covers ReturnVoid l = tt
  stmt_covers (Frame r c) l = (result_in r (assigned_in_code c l), code_wider Always (Member (assigned_in_code c l)) Always (Member (with_optional r (assigned_in_code c l))) (λ q m. tt) (λ q m. result_there r (assigned_in_code c l) q m) c (code_covers c l))
  stmt_covers (Raise c) l = tt
  stmt_covers (AllocObject x c) l = here x l
  stmt_covers (AllocArray x a) l = (here x (assigned_in_expr a l), expr_wider Always (Member (assigned_in_expr a l)) Always (Member (with_variable x (assigned_in_expr a l))) (λ q m. tt) (λ q m. there x (assigned_in_expr a l) q m) a (expr_covers a l))
  stmt_covers (NewArray x a) l = (here x (assigned_in_expr a l), expr_wider Always (Member (assigned_in_expr a l)) Always (Member (with_variable x (assigned_in_expr a l))) (λ q m. tt) (λ q m. there x (assigned_in_expr a l) q m) a (expr_covers a l))
  stmt_covers Stop l = tt

  pub code_covers : (a : PlainCode) (l : List Name) → CodeIn Always (Member (assigned_in_code a l)) a
  code_covers Done l = tt
  code_covers (Then c cs) l = (stmt_covers c (assigned_in_code cs l), code_wider Always (Member (assigned_in_code cs l)) Always (Member (assigned_in_stmt c (assigned_in_code cs l))) (λ q m. tt) (λ q m. stmt_there c (assigned_in_code cs l) q m) cs (code_covers cs l))

pub test_covered : (e : Expr) (c : PlainCode) → ExprIn Always (Member (assigned_in_loop e c)) e
test_covered e c = expr_covers e (assigned_in_code c [])

pub body_covered : (e : Expr) (c : PlainCode) → CodeIn Always (Member (assigned_in_loop e c)) c
body_covered e c = code_wider Always (Member (assigned_in_code c [])) Always (Member (assigned_in_loop e c)) (λ q m. tt) (λ q m. expr_there e (assigned_in_code c []) q m) c (code_covers c [])

-- what all that is written has, all that is assigned has
module _ (P Q : Name → Type 0) where
  name_all : (x : Name) (l : List Name) → Q x → AllOf Q l → AllOf Q (with_variable x l)
  name_all x [] q h = (q, tt)
  name_all x (y ∷ ys) q h = by (name_all x ys q h.1) (same_name x y) (printed_before x y)
    where
      by : AllOf Q (with_variable x ys) → (b c : Bool) → AllOf Q (cond b (y ∷ ys) (cond c (x ∷ (y ∷ ys)) (y ∷ with_variable x ys)))
      by g true c = h
      by g false true = (q, h)
      by g false false = (h.0, g)

  result_all : (r : Option Name) (l : List Name) → MaybeIn P Q r → AllOf Q l → AllOf Q (with_optional r l)
  result_all None l q h = h
  result_all (Some x) l q h = name_all x l q h

  mutual
    pub expr_all : (a : Expr) (l : List Name) → ExprIn P Q a → AllOf Q l → AllOf Q (assigned_in_expr a l)
    expr_all (IntLiteral z) l o h = h
    expr_all (BoolLiteral b) l o h = h
    expr_all NullLiteral l o h = h
    expr_all (Variable x) l o h = h
    expr_all (Unary op a) l o h = expr_all a l o h
    expr_all (Binary op a b) l o h = expr_all a (assigned_in_expr b l) o.0 (expr_all b l o.1 h)
    expr_all (AndAlso a b) l o h = expr_all a (assigned_in_expr b l) o.0 (expr_all b l o.1 h)
    expr_all (OrElse a b) l o h = expr_all a (assigned_in_expr b l) o.0 (expr_all b l o.1 h)
    expr_all (Conditional a b c) l o h = expr_all a (assigned_in_expr b (assigned_in_expr c l)) o.0 (expr_all b (assigned_in_expr c l) o.1 (expr_all c l o.2 h))
    expr_all (ReadField a f) l o h = expr_all a l o h
    expr_all (ReadElement a i) l o h = expr_all a (assigned_in_expr i l) o.0 (expr_all i l o.1 h)
    expr_all (LengthOf a) l o h = expr_all a l o h
    expr_all (Cast k a) l o h = expr_all a l o h
    expr_all (InstanceOf k a) l o h = expr_all a l o h
    expr_all (VirtualCall k m a bs) l o h = expr_all a (assigned_in_exprs bs l) o.0 (exprs_all bs l o.1 h)
    expr_all (StaticCall m bs) l o h = exprs_all bs l o h
    expr_all (ConstructorCall c a bs) l o h = expr_all a (assigned_in_exprs bs l) o.0 (exprs_all bs l o.1 h)
    expr_all (DoThen c a) l o h = code_all c (assigned_in_expr a l) o.0 (expr_all a l o.1 h)

    pub exprs_all : (a : Exprs) (l : List Name) → ExprsIn P Q a → AllOf Q l → AllOf Q (assigned_in_exprs a l)
    exprs_all NoExprs l o h = h
    exprs_all (ExprThen a bs) l o h = expr_all a (assigned_in_exprs bs l) o.0 (exprs_all bs l o.1 h)

    pub stmt_all : (a : Stmt) (l : List Name) → StmtIn P Q a → AllOf Q l → AllOf Q (assigned_in_stmt a l)
    stmt_all (Set x a) l o h = name_all x (assigned_in_expr a l) o.0 (expr_all a l o.1 h)
    stmt_all (WriteField a f b) l o h = expr_all a (assigned_in_expr b l) o.0 (expr_all b l o.1 h)
    stmt_all (WriteElement a i b) l o h = expr_all a (assigned_in_expr i (assigned_in_expr b l)) o.0 (expr_all i (assigned_in_expr b l) o.1 (expr_all b l o.2 h))
    stmt_all (Evaluate a) l o h = expr_all a l o h
    stmt_all (If a c d) l o h = expr_all a (assigned_in_code c (assigned_in_code d l)) o.0 (code_all c (assigned_in_code d l) o.1 (code_all d l o.2 h))
    stmt_all (While k a c) l o h = expr_all a (assigned_in_code c l) o.0 (code_all c l o.1 h)
    stmt_all (Block i c) l o h = code_all c l o h
    stmt_all (Break i) l o h = h
    stmt_all (Catch c x d) l o h = code_all c (with_variable x (assigned_in_code d l)) o.0 (name_all x (assigned_in_code d l) o.1 (code_all d l o.2 h))
    stmt_all (Finally c d) l o h = code_all c (assigned_in_code d l) o.0 (code_all d l o.1 h)
    stmt_all (Throw a) l o h = expr_all a l o h
    stmt_all (ThrowUnchecked a) l o h = expr_all a l o h
    stmt_all (Return a) l o h = expr_all a l o h
    stmt_all ReturnVoid l o h = h
    stmt_all (Frame r c) l o h = result_all r (assigned_in_code c l) o.0 (code_all c l o.1 h)
    stmt_all (Raise c) l o h = h
    stmt_all (AllocObject x c) l o h = name_all x l o h
    stmt_all (AllocArray x a) l o h = name_all x (assigned_in_expr a l) o.0 (expr_all a l o.1 h)
    stmt_all (NewArray x a) l o h = name_all x (assigned_in_expr a l) o.0 (expr_all a l o.1 h)
    stmt_all Stop l o h = h

    pub code_all : (a : PlainCode) (l : List Name) → CodeIn P Q a → AllOf Q l → AllOf Q (assigned_in_code a l)
    code_all Done l o h = h
    code_all (Then c cs) l o h = stmt_all c (assigned_in_code cs l) o.0 (code_all cs l o.1 h)

pub assigned_all : (P Q : Name → Type 0) (e : Expr) (c : PlainCode) → ExprIn P Q e → CodeIn P Q c → AllOf Q (assigned_in_loop e c)
assigned_all P Q e c e_in c_in = expr_all P Q e (assigned_in_code c []) e_in (code_all P Q c [] c_in tt)
