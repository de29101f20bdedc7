-- Exact tests of equality of terms, code, formulas and contexts: two trees are the same where their forms and their parts are.
use Rattle.std.proofs.Common.{◌≡◌, ◌&&◌, Bool, true, false, [], ◌∷◌, refl, sym, subst, true≢false}
use Rattle.jd_syntax.specs.Codes.{Expr, Exprs, Stmt, PlainCode, IntLiteral, BoolLiteral, NullLiteral, Variable, Unary, Binary, AndAlso, OrElse, Conditional, ReadField, ReadElement, LengthOf, Cast, InstanceOf, VirtualCall, StaticCall, ConstructorCall, DoThen, NoExprs, ExprThen, Set, WriteField, WriteElement, Evaluate, If, While, Block, Break, Catch, Finally, Throw, ThrowUnchecked, Return, ReturnVoid, Frame, Raise, AllocObject, AllocArray, NewArray, Stop, Done, Then}
use Rattle.jd_term.specs.Terms.{PlainTerm, PlainLoc, Number, Boolean, NullTerm, ProgramVariable, Constant, Bound, Arithmetic, Negation, Wrap, Length, Select, Sum, Store, Create, Anon, NamedField, CreatedField, ElementField, NoLocations, AllLocations, Single, ObjectFields, ArrayElements, ElementRange, Union}
use Rattle.jd_term.specs.Formulas.{Pairs, PlainFormula, TrueFormula, FalseFormula, Not, And, Or, Implies, Iff, Equal, Less, LessOrEqual, Forall, Exists, Updated, Modal, InLocations, InInt, WellFormed, Invariant, IsInstance, IsExactInstance}
use Rattle.jd_model.specs.Contexts.{Context, Here, InBlock, InFrame, InCatch, InFinally}
use Rattle.jd_patterns.specs.Bindings.{Test}
use Rattle.jd_tree_tests.proofs.PlainTests.{split, both, number, literal, truth, name, sort, arithmetic, unary, binary, kind, result, modality}

-- ---- terms and locations

abbrev mutual
  pub same_term : PlainTerm → PlainTerm → Bool
  same_term (Number a) (Number b) = literal.same a b
  same_term (Boolean a) (Boolean b) = truth.same a b
  same_term NullTerm NullTerm = true
  same_term (ProgramVariable a) (ProgramVariable b) = name.same a b
  same_term (Constant a) (Constant b) = name.same a b
  same_term (Bound a c) (Bound b d) = number.same a b && sort.same c d
  same_term (Arithmetic a c e) (Arithmetic b d f) = arithmetic.same a b && (same_term c d && same_term e f)
  same_term (Negation a) (Negation b) = same_term a b
  same_term (Wrap a) (Wrap b) = same_term a b
  same_term (Length a) (Length b) = same_term a b
  same_term (Select a c e g) (Select b d f h) = sort.same a b && (same_term c d && (same_term e f && same_term g h))
  same_term (Sum a c e) (Sum b d f) = same_term a b && (same_term c d && same_term e f)
  same_term (Store a c e g) (Store b d f h) = same_term a b && (same_term c d && (same_term e f && same_term g h))
  same_term (Create a c) (Create b d) = same_term a b && same_term c d
  same_term (Anon a c e) (Anon b d f) = same_term a b && (same_loc c d && same_term e f)
  same_term (NamedField a) (NamedField b) = number.same a b
  same_term CreatedField CreatedField = true
  same_term (ElementField a) (ElementField b) = same_term a b
  same_term x y = false

  pub same_loc : PlainLoc → PlainLoc → Bool
  same_loc NoLocations NoLocations = true
  same_loc AllLocations AllLocations = true
  same_loc (Single a c) (Single b d) = same_term a b && same_term c d
  same_loc (ObjectFields a) (ObjectFields b) = same_term a b
  same_loc (ArrayElements a) (ArrayElements b) = same_term a b
  same_loc (ElementRange a c e) (ElementRange b d f) = same_term a b && (same_term c d && same_term e f)
  same_loc (Union a c) (Union b d) = same_loc a b && same_loc c d
  same_loc x y = false

mutual
  term_is : (x y : PlainTerm) → same_term x y ≡ true → x ≡ y
  term_is (Number a) (Number b) is = λ i. Number ((literal.decides a b).0 is i)
  term_is (Boolean a) (Boolean b) is = λ i. Boolean ((truth.decides a b).0 is i)
  term_is NullTerm NullTerm is = refl
  term_is (ProgramVariable a) (ProgramVariable b) is = λ i. ProgramVariable ((name.decides a b).0 is i)
  term_is (Constant a) (Constant b) is = λ i. Constant ((name.decides a b).0 is i)
  term_is (Bound a c) (Bound b d) is = let p = split (number.same a b) (sort.same c d) is in λ i. Bound ((number.decides a b).0 p.0 i) ((sort.decides c d).0 p.1 i)
  term_is (Arithmetic a c e) (Arithmetic b d f) is = let p = split (arithmetic.same a b) (same_term c d && (same_term e f)) is in let q = split (same_term c d) (same_term e f) p.1 in λ i. Arithmetic ((arithmetic.decides a b).0 p.0 i) (term_is c d q.0 i) (term_is e f q.1 i)
  term_is (Negation a) (Negation b) is = λ i. Negation (term_is a b is i)
  term_is (Wrap a) (Wrap b) is = λ i. Wrap (term_is a b is i)
  term_is (Length a) (Length b) is = λ i. Length (term_is a b is i)
  term_is (Select a c e g) (Select b d f h) is = let p = split (sort.same a b) (same_term c d && (same_term e f && (same_term g h))) is in let q = split (same_term c d) (same_term e f && (same_term g h)) p.1 in let r = split (same_term e f) (same_term g h) q.1 in λ i. Select ((sort.decides a b).0 p.0 i) (term_is c d q.0 i) (term_is e f r.0 i) (term_is g h r.1 i)
  term_is (Sum a c e) (Sum b d f) is = let p = split (same_term a b) (same_term c d && (same_term e f)) is in let q = split (same_term c d) (same_term e f) p.1 in λ i. Sum (term_is a b p.0 i) (term_is c d q.0 i) (term_is e f q.1 i)
  term_is (Store a c e g) (Store b d f h) is = let p = split (same_term a b) (same_term c d && (same_term e f && (same_term g h))) is in let q = split (same_term c d) (same_term e f && (same_term g h)) p.1 in let r = split (same_term e f) (same_term g h) q.1 in λ i. Store (term_is a b p.0 i) (term_is c d q.0 i) (term_is e f r.0 i) (term_is g h r.1 i)
  term_is (Create a c) (Create b d) is = let p = split (same_term a b) (same_term c d) is in λ i. Create (term_is a b p.0 i) (term_is c d p.1 i)
  term_is (Anon a c e) (Anon b d f) is = let p = split (same_term a b) (same_loc c d && (same_term e f)) is in let q = split (same_loc c d) (same_term e f) p.1 in λ i. Anon (term_is a b p.0 i) (loc_is c d q.0 i) (term_is e f q.1 i)
  term_is (NamedField a) (NamedField b) is = λ i. NamedField ((number.decides a b).0 is i)
  term_is CreatedField CreatedField is = refl
  term_is (ElementField a) (ElementField b) is = λ i. ElementField (term_is a b is i)
  term_is x y is = absurd (true≢false (sym is))

  loc_is : (x y : PlainLoc) → same_loc x y ≡ true → x ≡ y
  loc_is NoLocations NoLocations is = refl
  loc_is AllLocations AllLocations is = refl
  loc_is (Single a c) (Single b d) is = let p = split (same_term a b) (same_term c d) is in λ i. Single (term_is a b p.0 i) (term_is c d p.1 i)
  loc_is (ObjectFields a) (ObjectFields b) is = λ i. ObjectFields (term_is a b is i)
  loc_is (ArrayElements a) (ArrayElements b) is = λ i. ArrayElements (term_is a b is i)
  loc_is (ElementRange a c e) (ElementRange b d f) is = let p = split (same_term a b) (same_term c d && (same_term e f)) is in let q = split (same_term c d) (same_term e f) p.1 in λ i. ElementRange (term_is a b p.0 i) (term_is c d q.0 i) (term_is e f q.1 i)
  loc_is (Union a c) (Union b d) is = let p = split (same_loc a b) (same_loc c d) is in λ i. Union (loc_is a b p.0 i) (loc_is c d p.1 i)
  loc_is x y is = absurd (true≢false (sym is))

mutual
  own_term : (x : PlainTerm) → same_term x x ≡ true
  own_term (Number a) = (literal.decides a a).1 refl
  own_term (Boolean a) = (truth.decides a a).1 refl
  own_term NullTerm = refl
  own_term (ProgramVariable a) = (name.decides a a).1 refl
  own_term (Constant a) = (name.decides a a).1 refl
  own_term (Bound a c) = both (number.same a a) (sort.same c c) ((number.decides a a).1 refl) ((sort.decides c c).1 refl)
  own_term (Arithmetic a c e) = both (arithmetic.same a a) (same_term c c && (same_term e e)) ((arithmetic.decides a a).1 refl) (both (same_term c c) (same_term e e) (own_term c) (own_term e))
  own_term (Negation a) = own_term a
  own_term (Wrap a) = own_term a
  own_term (Length a) = own_term a
  own_term (Select a c e g) = both (sort.same a a) (same_term c c && (same_term e e && (same_term g g))) ((sort.decides a a).1 refl) (both (same_term c c) (same_term e e && (same_term g g)) (own_term c) (both (same_term e e) (same_term g g) (own_term e) (own_term g)))
  own_term (Sum a c e) = both (same_term a a) (same_term c c && (same_term e e)) (own_term a) (both (same_term c c) (same_term e e) (own_term c) (own_term e))
  own_term (Store a c e g) = both (same_term a a) (same_term c c && (same_term e e && (same_term g g))) (own_term a) (both (same_term c c) (same_term e e && (same_term g g)) (own_term c) (both (same_term e e) (same_term g g) (own_term e) (own_term g)))
  own_term (Create a c) = both (same_term a a) (same_term c c) (own_term a) (own_term c)
  own_term (Anon a c e) = both (same_term a a) (same_loc c c && (same_term e e)) (own_term a) (both (same_loc c c) (same_term e e) (own_loc c) (own_term e))
  own_term (NamedField a) = (number.decides a a).1 refl
  own_term CreatedField = refl
  own_term (ElementField a) = own_term a

  own_loc : (x : PlainLoc) → same_loc x x ≡ true
  own_loc NoLocations = refl
  own_loc AllLocations = refl
  own_loc (Single a c) = both (same_term a a) (same_term c c) (own_term a) (own_term c)
  own_loc (ObjectFields a) = own_term a
  own_loc (ArrayElements a) = own_term a
  own_loc (ElementRange a c e) = both (same_term a a) (same_term c c && (same_term e e)) (own_term a) (both (same_term c c) (same_term e e) (own_term c) (own_term e))
  own_loc (Union a c) = both (same_loc a a) (same_loc c c) (own_loc a) (own_loc c)

pub term_test : Test PlainTerm
term_test = record { same = same_term; decides = λ x y. (term_is x y, λ e. subst (λ z. same_term x z ≡ true) e (own_term x)) }

pub loc_test : Test PlainLoc
loc_test = record { same = same_loc; decides = λ x y. (loc_is x y, λ e. subst (λ z. same_loc x z ≡ true) e (own_loc x)) }

-- ---- code

abbrev mutual
  pub same_expr : Expr → Expr → Bool
  same_expr (IntLiteral a) (IntLiteral b) = literal.same a b
  same_expr (BoolLiteral a) (BoolLiteral b) = truth.same a b
  same_expr NullLiteral NullLiteral = true
  same_expr (Variable a) (Variable b) = name.same a b
  same_expr (Unary a c) (Unary b d) = unary.same a b && same_expr c d
  same_expr (Binary a c e) (Binary b d f) = binary.same a b && (same_expr c d && same_expr e f)
  same_expr (AndAlso a c) (AndAlso b d) = same_expr a b && same_expr c d
  same_expr (OrElse a c) (OrElse b d) = same_expr a b && same_expr c d
  same_expr (Conditional a c e) (Conditional b d f) = same_expr a b && (same_expr c d && same_expr e f)
  same_expr (ReadField a c) (ReadField b d) = same_expr a b && number.same c d
  same_expr (ReadElement a c) (ReadElement b d) = same_expr a b && same_expr c d
  same_expr (LengthOf a) (LengthOf b) = same_expr a b
  same_expr (Cast a c) (Cast b d) = kind.same a b && same_expr c d
  same_expr (InstanceOf a c) (InstanceOf b d) = kind.same a b && same_expr c d
  same_expr (VirtualCall a c e g) (VirtualCall b d f h) = number.same a b && (number.same c d && (same_expr e f && same_exprs g h))
  same_expr (StaticCall a c) (StaticCall b d) = number.same a b && same_exprs c d
  same_expr (ConstructorCall a c e) (ConstructorCall b d f) = number.same a b && (same_expr c d && same_exprs e f)
  same_expr (DoThen a c) (DoThen b d) = same_code a b && same_expr c d
  same_expr x y = false

  pub same_exprs : Exprs → Exprs → Bool
  same_exprs NoExprs NoExprs = true
  same_exprs (ExprThen a c) (ExprThen b d) = same_expr a b && same_exprs c d
  same_exprs x y = false

  pub same_stmt : Stmt → Stmt → Bool
  same_stmt (Set a c) (Set b d) = name.same a b && same_expr c d
  same_stmt (WriteField a c e) (WriteField b d f) = same_expr a b && (number.same c d && same_expr e f)
  same_stmt (WriteElement a c e) (WriteElement b d f) = same_expr a b && (same_expr c d && same_expr e f)
  same_stmt (Evaluate a) (Evaluate b) = same_expr a b
  same_stmt (If a c e) (If b d f) = same_expr a b && (same_code c d && same_code e f)
  same_stmt (While a c e) (While b d f) = number.same a b && (same_expr c d && same_code e f)
  same_stmt (Block a c) (Block b d) = number.same a b && same_code c d
  same_stmt (Break a) (Break b) = number.same a b
  same_stmt (Catch a c e) (Catch b d f) = same_code a b && (name.same c d && same_code e f)
  same_stmt (Finally a c) (Finally b d) = same_code a b && same_code c d
  same_stmt (Throw a) (Throw b) = same_expr a b
  same_stmt (ThrowUnchecked a) (ThrowUnchecked b) = same_expr a b
  same_stmt (Return a) (Return b) = same_expr a b
  same_stmt ReturnVoid ReturnVoid = true
  same_stmt (Frame a c) (Frame b d) = result.same a b && same_code c d
  same_stmt (Raise a) (Raise b) = number.same a b
  same_stmt (AllocObject a c) (AllocObject b d) = name.same a b && number.same c d
  same_stmt (AllocArray a c) (AllocArray b d) = name.same a b && same_expr c d
  same_stmt (NewArray a c) (NewArray b d) = name.same a b && same_expr c d
  same_stmt Stop Stop = true
  same_stmt x y = false

  pub same_code : PlainCode → PlainCode → Bool
  same_code Done Done = true
  same_code (Then a c) (Then b d) = same_stmt a b && same_code c d
  same_code x y = false

mutual
  expr_is : (x y : Expr) → same_expr x y ≡ true → x ≡ y
  expr_is (IntLiteral a) (IntLiteral b) is = λ i. IntLiteral ((literal.decides a b).0 is i)
  expr_is (BoolLiteral a) (BoolLiteral b) is = λ i. BoolLiteral ((truth.decides a b).0 is i)
  expr_is NullLiteral NullLiteral is = refl
  expr_is (Variable a) (Variable b) is = λ i. Variable ((name.decides a b).0 is i)
  expr_is (Unary a c) (Unary b d) is = let p = split (unary.same a b) (same_expr c d) is in λ i. Unary ((unary.decides a b).0 p.0 i) (expr_is c d p.1 i)
  expr_is (Binary a c e) (Binary b d f) is = let p = split (binary.same a b) (same_expr c d && (same_expr e f)) is in let q = split (same_expr c d) (same_expr e f) p.1 in λ i. Binary ((binary.decides a b).0 p.0 i) (expr_is c d q.0 i) (expr_is e f q.1 i)
  expr_is (AndAlso a c) (AndAlso b d) is = let p = split (same_expr a b) (same_expr c d) is in λ i. AndAlso (expr_is a b p.0 i) (expr_is c d p.1 i)
  expr_is (OrElse a c) (OrElse b d) is = let p = split (same_expr a b) (same_expr c d) is in λ i. OrElse (expr_is a b p.0 i) (expr_is c d p.1 i)
  expr_is (Conditional a c e) (Conditional b d f) is = let p = split (same_expr a b) (same_expr c d && (same_expr e f)) is in let q = split (same_expr c d) (same_expr e f) p.1 in λ i. Conditional (expr_is a b p.0 i) (expr_is c d q.0 i) (expr_is e f q.1 i)
  expr_is (ReadField a c) (ReadField b d) is = let p = split (same_expr a b) (number.same c d) is in λ i. ReadField (expr_is a b p.0 i) ((number.decides c d).0 p.1 i)
  expr_is (ReadElement a c) (ReadElement b d) is = let p = split (same_expr a b) (same_expr c d) is in λ i. ReadElement (expr_is a b p.0 i) (expr_is c d p.1 i)
  expr_is (LengthOf a) (LengthOf b) is = λ i. LengthOf (expr_is a b is i)
  expr_is (Cast a c) (Cast b d) is = let p = split (kind.same a b) (same_expr c d) is in λ i. Cast ((kind.decides a b).0 p.0 i) (expr_is c d p.1 i)
  expr_is (InstanceOf a c) (InstanceOf b d) is = let p = split (kind.same a b) (same_expr c d) is in λ i. InstanceOf ((kind.decides a b).0 p.0 i) (expr_is c d p.1 i)
  expr_is (VirtualCall a c e g) (VirtualCall b d f h) is = let p = split (number.same a b) (number.same c d && (same_expr e f && (same_exprs g h))) is in let q = split (number.same c d) (same_expr e f && (same_exprs g h)) p.1 in let r = split (same_expr e f) (same_exprs g h) q.1 in λ i. VirtualCall ((number.decides a b).0 p.0 i) ((number.decides c d).0 q.0 i) (expr_is e f r.0 i) (exprs_is g h r.1 i)
  expr_is (StaticCall a c) (StaticCall b d) is = let p = split (number.same a b) (same_exprs c d) is in λ i. StaticCall ((number.decides a b).0 p.0 i) (exprs_is c d p.1 i)
  expr_is (ConstructorCall a c e) (ConstructorCall b d f) is = let p = split (number.same a b) (same_expr c d && (same_exprs e f)) is in let q = split (same_expr c d) (same_exprs e f) p.1 in λ i. ConstructorCall ((number.decides a b).0 p.0 i) (expr_is c d q.0 i) (exprs_is e f q.1 i)
  expr_is (DoThen a c) (DoThen b d) is = let p = split (same_code a b) (same_expr c d) is in λ i. DoThen (code_is a b p.0 i) (expr_is c d p.1 i)
  expr_is x y is = absurd (true≢false (sym is))

  exprs_is : (x y : Exprs) → same_exprs x y ≡ true → x ≡ y
  exprs_is NoExprs NoExprs is = refl
  exprs_is (ExprThen a c) (ExprThen b d) is = let p = split (same_expr a b) (same_exprs c d) is in λ i. ExprThen (expr_is a b p.0 i) (exprs_is c d p.1 i)
  exprs_is x y is = absurd (true≢false (sym is))

  stmt_is : (x y : Stmt) → same_stmt x y ≡ true → x ≡ y
  stmt_is (Set a c) (Set b d) is = let p = split (name.same a b) (same_expr c d) is in λ i. Set ((name.decides a b).0 p.0 i) (expr_is c d p.1 i)
  stmt_is (WriteField a c e) (WriteField b d f) is = let p = split (same_expr a b) (number.same c d && (same_expr e f)) is in let q = split (number.same c d) (same_expr e f) p.1 in λ i. WriteField (expr_is a b p.0 i) ((number.decides c d).0 q.0 i) (expr_is e f q.1 i)
  stmt_is (WriteElement a c e) (WriteElement b d f) is = let p = split (same_expr a b) (same_expr c d && (same_expr e f)) is in let q = split (same_expr c d) (same_expr e f) p.1 in λ i. WriteElement (expr_is a b p.0 i) (expr_is c d q.0 i) (expr_is e f q.1 i)
  stmt_is (Evaluate a) (Evaluate b) is = λ i. Evaluate (expr_is a b is i)
  stmt_is (If a c e) (If b d f) is = let p = split (same_expr a b) (same_code c d && (same_code e f)) is in let q = split (same_code c d) (same_code e f) p.1 in λ i. If (expr_is a b p.0 i) (code_is c d q.0 i) (code_is e f q.1 i)
  stmt_is (While a c e) (While b d f) is = let p = split (number.same a b) (same_expr c d && (same_code e f)) is in let q = split (same_expr c d) (same_code e f) p.1 in λ i. While ((number.decides a b).0 p.0 i) (expr_is c d q.0 i) (code_is e f q.1 i)
  stmt_is (Block a c) (Block b d) is = let p = split (number.same a b) (same_code c d) is in λ i. Block ((number.decides a b).0 p.0 i) (code_is c d p.1 i)
  stmt_is (Break a) (Break b) is = λ i. Break ((number.decides a b).0 is i)
  stmt_is (Catch a c e) (Catch b d f) is = let p = split (same_code a b) (name.same c d && (same_code e f)) is in let q = split (name.same c d) (same_code e f) p.1 in λ i. Catch (code_is a b p.0 i) ((name.decides c d).0 q.0 i) (code_is e f q.1 i)
  stmt_is (Finally a c) (Finally b d) is = let p = split (same_code a b) (same_code c d) is in λ i. Finally (code_is a b p.0 i) (code_is c d p.1 i)
  stmt_is (Throw a) (Throw b) is = λ i. Throw (expr_is a b is i)
  stmt_is (ThrowUnchecked a) (ThrowUnchecked b) is = λ i. ThrowUnchecked (expr_is a b is i)
  stmt_is (Return a) (Return b) is = λ i. Return (expr_is a b is i)
  stmt_is ReturnVoid ReturnVoid is = refl
  stmt_is (Frame a c) (Frame b d) is = let p = split (result.same a b) (same_code c d) is in λ i. Frame ((result.decides a b).0 p.0 i) (code_is c d p.1 i)
  stmt_is (Raise a) (Raise b) is = λ i. Raise ((number.decides a b).0 is i)
  stmt_is (AllocObject a c) (AllocObject b d) is = let p = split (name.same a b) (number.same c d) is in λ i. AllocObject ((name.decides a b).0 p.0 i) ((number.decides c d).0 p.1 i)
  stmt_is (AllocArray a c) (AllocArray b d) is = let p = split (name.same a b) (same_expr c d) is in λ i. AllocArray ((name.decides a b).0 p.0 i) (expr_is c d p.1 i)
  stmt_is (NewArray a c) (NewArray b d) is = let p = split (name.same a b) (same_expr c d) is in λ i. NewArray ((name.decides a b).0 p.0 i) (expr_is c d p.1 i)
  stmt_is Stop Stop is = refl
  stmt_is x y is = absurd (true≢false (sym is))

  code_is : (x y : PlainCode) → same_code x y ≡ true → x ≡ y
  code_is Done Done is = refl
  code_is (Then a c) (Then b d) is = let p = split (same_stmt a b) (same_code c d) is in λ i. Then (stmt_is a b p.0 i) (code_is c d p.1 i)
  code_is x y is = absurd (true≢false (sym is))

mutual
  own_expr : (x : Expr) → same_expr x x ≡ true
  own_expr (IntLiteral a) = (literal.decides a a).1 refl
  own_expr (BoolLiteral a) = (truth.decides a a).1 refl
  own_expr NullLiteral = refl
  own_expr (Variable a) = (name.decides a a).1 refl
  own_expr (Unary a c) = both (unary.same a a) (same_expr c c) ((unary.decides a a).1 refl) (own_expr c)
  own_expr (Binary a c e) = both (binary.same a a) (same_expr c c && (same_expr e e)) ((binary.decides a a).1 refl) (both (same_expr c c) (same_expr e e) (own_expr c) (own_expr e))
  own_expr (AndAlso a c) = both (same_expr a a) (same_expr c c) (own_expr a) (own_expr c)
  own_expr (OrElse a c) = both (same_expr a a) (same_expr c c) (own_expr a) (own_expr c)
  own_expr (Conditional a c e) = both (same_expr a a) (same_expr c c && (same_expr e e)) (own_expr a) (both (same_expr c c) (same_expr e e) (own_expr c) (own_expr e))
  own_expr (ReadField a c) = both (same_expr a a) (number.same c c) (own_expr a) ((number.decides c c).1 refl)
  own_expr (ReadElement a c) = both (same_expr a a) (same_expr c c) (own_expr a) (own_expr c)
  own_expr (LengthOf a) = own_expr a
  own_expr (Cast a c) = both (kind.same a a) (same_expr c c) ((kind.decides a a).1 refl) (own_expr c)
  own_expr (InstanceOf a c) = both (kind.same a a) (same_expr c c) ((kind.decides a a).1 refl) (own_expr c)
  own_expr (VirtualCall a c e g) = both (number.same a a) (number.same c c && (same_expr e e && (same_exprs g g))) ((number.decides a a).1 refl) (both (number.same c c) (same_expr e e && (same_exprs g g)) ((number.decides c c).1 refl) (both (same_expr e e) (same_exprs g g) (own_expr e) (own_exprs g)))
  own_expr (StaticCall a c) = both (number.same a a) (same_exprs c c) ((number.decides a a).1 refl) (own_exprs c)
  own_expr (ConstructorCall a c e) = both (number.same a a) (same_expr c c && (same_exprs e e)) ((number.decides a a).1 refl) (both (same_expr c c) (same_exprs e e) (own_expr c) (own_exprs e))
  own_expr (DoThen a c) = both (same_code a a) (same_expr c c) (own_code a) (own_expr c)

  own_exprs : (x : Exprs) → same_exprs x x ≡ true
  own_exprs NoExprs = refl
  own_exprs (ExprThen a c) = both (same_expr a a) (same_exprs c c) (own_expr a) (own_exprs c)

  own_stmt : (x : Stmt) → same_stmt x x ≡ true
  own_stmt (Set a c) = both (name.same a a) (same_expr c c) ((name.decides a a).1 refl) (own_expr c)
  own_stmt (WriteField a c e) = both (same_expr a a) (number.same c c && (same_expr e e)) (own_expr a) (both (number.same c c) (same_expr e e) ((number.decides c c).1 refl) (own_expr e))
  own_stmt (WriteElement a c e) = both (same_expr a a) (same_expr c c && (same_expr e e)) (own_expr a) (both (same_expr c c) (same_expr e e) (own_expr c) (own_expr e))
  own_stmt (Evaluate a) = own_expr a
  own_stmt (If a c e) = both (same_expr a a) (same_code c c && (same_code e e)) (own_expr a) (both (same_code c c) (same_code e e) (own_code c) (own_code e))
  own_stmt (While a c e) = both (number.same a a) (same_expr c c && (same_code e e)) ((number.decides a a).1 refl) (both (same_expr c c) (same_code e e) (own_expr c) (own_code e))
  own_stmt (Block a c) = both (number.same a a) (same_code c c) ((number.decides a a).1 refl) (own_code c)
  own_stmt (Break a) = (number.decides a a).1 refl
  own_stmt (Catch a c e) = both (same_code a a) (name.same c c && (same_code e e)) (own_code a) (both (name.same c c) (same_code e e) ((name.decides c c).1 refl) (own_code e))
  own_stmt (Finally a c) = both (same_code a a) (same_code c c) (own_code a) (own_code c)
  own_stmt (Throw a) = own_expr a
  own_stmt (ThrowUnchecked a) = own_expr a
  own_stmt (Return a) = own_expr a
  own_stmt ReturnVoid = refl
  own_stmt (Frame a c) = both (result.same a a) (same_code c c) ((result.decides a a).1 refl) (own_code c)
  own_stmt (Raise a) = (number.decides a a).1 refl
  own_stmt (AllocObject a c) = both (name.same a a) (number.same c c) ((name.decides a a).1 refl) ((number.decides c c).1 refl)
  own_stmt (AllocArray a c) = both (name.same a a) (same_expr c c) ((name.decides a a).1 refl) (own_expr c)
  own_stmt (NewArray a c) = both (name.same a a) (same_expr c c) ((name.decides a a).1 refl) (own_expr c)
  own_stmt Stop = refl

  own_code : (x : PlainCode) → same_code x x ≡ true
  own_code Done = refl
  own_code (Then a c) = both (same_stmt a a) (same_code c c) (own_stmt a) (own_code c)

pub expr_test : Test Expr
expr_test = record { same = same_expr; decides = λ x y. (expr_is x y, λ e. subst (λ z. same_expr x z ≡ true) e (own_expr x)) }

pub exprs_test : Test Exprs
exprs_test = record { same = same_exprs; decides = λ x y. (exprs_is x y, λ e. subst (λ z. same_exprs x z ≡ true) e (own_exprs x)) }

pub stmt_test : Test Stmt
stmt_test = record { same = same_stmt; decides = λ x y. (stmt_is x y, λ e. subst (λ z. same_stmt x z ≡ true) e (own_stmt x)) }

pub code_test : Test PlainCode
code_test = record { same = same_code; decides = λ x y. (code_is x y, λ e. subst (λ z. same_code x z ≡ true) e (own_code x)) }

-- ---- formulas

abbrev pub same_pairs : Pairs → Pairs → Bool
same_pairs [] [] = true
same_pairs (a ∷ u) (b ∷ v) = name.same a.0 b.0 && (same_term a.1 b.1 && same_pairs u v)
same_pairs u v = false

pairs_is : (u v : Pairs) → same_pairs u v ≡ true → u ≡ v
pairs_is [] [] is = refl
pairs_is (a ∷ u) (b ∷ v) is = let p = split (name.same a.0 b.0) (same_term a.1 b.1 && same_pairs u v) is in let q = split (same_term a.1 b.1) (same_pairs u v) p.1 in λ i. ((name.decides a.0 b.0).0 p.0 i, term_is a.1 b.1 q.0 i) ∷ pairs_is u v q.1 i
pairs_is u v is = absurd (true≢false (sym is))

own_pairs : (u : Pairs) → same_pairs u u ≡ true
own_pairs [] = refl
own_pairs (a ∷ u) = both (name.same a.0 a.0) (same_term a.1 a.1 && same_pairs u u) ((name.decides a.0 a.0).1 refl) (both (same_term a.1 a.1) (same_pairs u u) (own_term a.1) (own_pairs u))

abbrev pub same_formula : PlainFormula → PlainFormula → Bool
same_formula TrueFormula TrueFormula = true
same_formula FalseFormula FalseFormula = true
same_formula (Not a) (Not b) = same_formula a b
same_formula (And a c) (And b d) = same_formula a b && same_formula c d
same_formula (Or a c) (Or b d) = same_formula a b && same_formula c d
same_formula (Implies a c) (Implies b d) = same_formula a b && same_formula c d
same_formula (Iff a c) (Iff b d) = same_formula a b && same_formula c d
same_formula (Equal a c) (Equal b d) = same_term a b && same_term c d
same_formula (Less a c) (Less b d) = same_term a b && same_term c d
same_formula (LessOrEqual a c) (LessOrEqual b d) = same_term a b && same_term c d
same_formula (Forall a c) (Forall b d) = sort.same a b && same_formula c d
same_formula (Exists a c) (Exists b d) = sort.same a b && same_formula c d
same_formula (Updated a c) (Updated b d) = same_pairs a b && same_formula c d
same_formula (Modal a c e) (Modal b d f) = modality.same a b && (same_code c d && same_formula e f)
same_formula (InLocations a c e) (InLocations b d f) = same_term a b && (same_term c d && same_loc e f)
same_formula (InInt a) (InInt b) = same_term a b
same_formula (WellFormed a) (WellFormed b) = same_term a b
same_formula (Invariant a c) (Invariant b d) = same_term a b && same_term c d
same_formula (IsInstance a c) (IsInstance b d) = kind.same a b && same_term c d
same_formula (IsExactInstance a c) (IsExactInstance b d) = kind.same a b && same_term c d
same_formula x y = false

formula_is : (x y : PlainFormula) → same_formula x y ≡ true → x ≡ y
formula_is TrueFormula TrueFormula is = refl
formula_is FalseFormula FalseFormula is = refl
formula_is (Not a) (Not b) is = λ i. Not (formula_is a b is i)
formula_is (And a c) (And b d) is = let p = split (same_formula a b) (same_formula c d) is in λ i. And (formula_is a b p.0 i) (formula_is c d p.1 i)
formula_is (Or a c) (Or b d) is = let p = split (same_formula a b) (same_formula c d) is in λ i. Or (formula_is a b p.0 i) (formula_is c d p.1 i)
formula_is (Implies a c) (Implies b d) is = let p = split (same_formula a b) (same_formula c d) is in λ i. Implies (formula_is a b p.0 i) (formula_is c d p.1 i)
formula_is (Iff a c) (Iff b d) is = let p = split (same_formula a b) (same_formula c d) is in λ i. Iff (formula_is a b p.0 i) (formula_is c d p.1 i)
formula_is (Equal a c) (Equal b d) is = let p = split (same_term a b) (same_term c d) is in λ i. Equal (term_is a b p.0 i) (term_is c d p.1 i)
formula_is (Less a c) (Less b d) is = let p = split (same_term a b) (same_term c d) is in λ i. Less (term_is a b p.0 i) (term_is c d p.1 i)
formula_is (LessOrEqual a c) (LessOrEqual b d) is = let p = split (same_term a b) (same_term c d) is in λ i. LessOrEqual (term_is a b p.0 i) (term_is c d p.1 i)
formula_is (Forall a c) (Forall b d) is = let p = split (sort.same a b) (same_formula c d) is in λ i. Forall ((sort.decides a b).0 p.0 i) (formula_is c d p.1 i)
formula_is (Exists a c) (Exists b d) is = let p = split (sort.same a b) (same_formula c d) is in λ i. Exists ((sort.decides a b).0 p.0 i) (formula_is c d p.1 i)
formula_is (Updated a c) (Updated b d) is = let p = split (same_pairs a b) (same_formula c d) is in λ i. Updated (pairs_is a b p.0 i) (formula_is c d p.1 i)
formula_is (Modal a c e) (Modal b d f) is = let p = split (modality.same a b) (same_code c d && (same_formula e f)) is in let q = split (same_code c d) (same_formula e f) p.1 in λ i. Modal ((modality.decides a b).0 p.0 i) (code_is c d q.0 i) (formula_is e f q.1 i)
formula_is (InLocations a c e) (InLocations b d f) is = let p = split (same_term a b) (same_term c d && (same_loc e f)) is in let q = split (same_term c d) (same_loc e f) p.1 in λ i. InLocations (term_is a b p.0 i) (term_is c d q.0 i) (loc_is e f q.1 i)
formula_is (InInt a) (InInt b) is = λ i. InInt (term_is a b is i)
formula_is (WellFormed a) (WellFormed b) is = λ i. WellFormed (term_is a b is i)
formula_is (Invariant a c) (Invariant b d) is = let p = split (same_term a b) (same_term c d) is in λ i. Invariant (term_is a b p.0 i) (term_is c d p.1 i)
formula_is (IsInstance a c) (IsInstance b d) is = let p = split (kind.same a b) (same_term c d) is in λ i. IsInstance ((kind.decides a b).0 p.0 i) (term_is c d p.1 i)
formula_is (IsExactInstance a c) (IsExactInstance b d) is = let p = split (kind.same a b) (same_term c d) is in λ i. IsExactInstance ((kind.decides a b).0 p.0 i) (term_is c d p.1 i)
formula_is x y is = absurd (true≢false (sym is))

own_formula : (x : PlainFormula) → same_formula x x ≡ true
own_formula TrueFormula = refl
own_formula FalseFormula = refl
own_formula (Not a) = own_formula a
own_formula (And a c) = both (same_formula a a) (same_formula c c) (own_formula a) (own_formula c)
own_formula (Or a c) = both (same_formula a a) (same_formula c c) (own_formula a) (own_formula c)
own_formula (Implies a c) = both (same_formula a a) (same_formula c c) (own_formula a) (own_formula c)
own_formula (Iff a c) = both (same_formula a a) (same_formula c c) (own_formula a) (own_formula c)
own_formula (Equal a c) = both (same_term a a) (same_term c c) (own_term a) (own_term c)
own_formula (Less a c) = both (same_term a a) (same_term c c) (own_term a) (own_term c)
own_formula (LessOrEqual a c) = both (same_term a a) (same_term c c) (own_term a) (own_term c)
own_formula (Forall a c) = both (sort.same a a) (same_formula c c) ((sort.decides a a).1 refl) (own_formula c)
own_formula (Exists a c) = both (sort.same a a) (same_formula c c) ((sort.decides a a).1 refl) (own_formula c)
own_formula (Updated a c) = both (same_pairs a a) (same_formula c c) (own_pairs a) (own_formula c)
own_formula (Modal a c e) = both (modality.same a a) (same_code c c && (same_formula e e)) ((modality.decides a a).1 refl) (both (same_code c c) (same_formula e e) (own_code c) (own_formula e))
own_formula (InLocations a c e) = both (same_term a a) (same_term c c && (same_loc e e)) (own_term a) (both (same_term c c) (same_loc e e) (own_term c) (own_loc e))
own_formula (InInt a) = own_term a
own_formula (WellFormed a) = own_term a
own_formula (Invariant a c) = both (same_term a a) (same_term c c) (own_term a) (own_term c)
own_formula (IsInstance a c) = both (kind.same a a) (same_term c c) ((kind.decides a a).1 refl) (own_term c)
own_formula (IsExactInstance a c) = both (kind.same a a) (same_term c c) ((kind.decides a a).1 refl) (own_term c)

pub formula_test : Test PlainFormula
formula_test = record { same = same_formula; decides = λ x y. (formula_is x y, λ e. subst (λ z. same_formula x z ≡ true) e (own_formula x)) }

-- ---- contexts

abbrev pub same_context : Context → Context → Bool
same_context (Here a) (Here b) = same_code a b
same_context (InBlock a c e) (InBlock b d f) = number.same a b && (same_context c d && same_code e f)
same_context (InFrame a c e) (InFrame b d f) = result.same a b && (same_context c d && same_code e f)
same_context (InCatch a c e g) (InCatch b d f h) = same_context a b && (name.same c d && (same_code e f && same_code g h))
same_context (InFinally a c e) (InFinally b d f) = same_context a b && (same_code c d && same_code e f)
same_context x y = false

context_is : (x y : Context) → same_context x y ≡ true → x ≡ y
context_is (Here a) (Here b) is = λ i. Here (code_is a b is i)
context_is (InBlock a c e) (InBlock b d f) is = let p = split (number.same a b) (same_context c d && (same_code e f)) is in let q = split (same_context c d) (same_code e f) p.1 in λ i. InBlock ((number.decides a b).0 p.0 i) (context_is c d q.0 i) (code_is e f q.1 i)
context_is (InFrame a c e) (InFrame b d f) is = let p = split (result.same a b) (same_context c d && (same_code e f)) is in let q = split (same_context c d) (same_code e f) p.1 in λ i. InFrame ((result.decides a b).0 p.0 i) (context_is c d q.0 i) (code_is e f q.1 i)
context_is (InCatch a c e g) (InCatch b d f h) is = let p = split (same_context a b) (name.same c d && (same_code e f && (same_code g h))) is in let q = split (name.same c d) (same_code e f && (same_code g h)) p.1 in let r = split (same_code e f) (same_code g h) q.1 in λ i. InCatch (context_is a b p.0 i) ((name.decides c d).0 q.0 i) (code_is e f r.0 i) (code_is g h r.1 i)
context_is (InFinally a c e) (InFinally b d f) is = let p = split (same_context a b) (same_code c d && (same_code e f)) is in let q = split (same_code c d) (same_code e f) p.1 in λ i. InFinally (context_is a b p.0 i) (code_is c d q.0 i) (code_is e f q.1 i)
context_is x y is = absurd (true≢false (sym is))

own_context : (x : Context) → same_context x x ≡ true
own_context (Here a) = own_code a
own_context (InBlock a c e) = both (number.same a a) (same_context c c && (same_code e e)) ((number.decides a a).1 refl) (both (same_context c c) (same_code e e) (own_context c) (own_code e))
own_context (InFrame a c e) = both (result.same a a) (same_context c c && (same_code e e)) ((result.decides a a).1 refl) (both (same_context c c) (same_code e e) (own_context c) (own_code e))
own_context (InCatch a c e g) = both (same_context a a) (name.same c c && (same_code e e && (same_code g g))) (own_context a) (both (name.same c c) (same_code e e && (same_code g g)) ((name.decides c c).1 refl) (both (same_code e e) (same_code g g) (own_code e) (own_code g)))
own_context (InFinally a c e) = both (same_context a a) (same_code c c && (same_code e e)) (own_context a) (both (same_code c c) (same_code e e) (own_code c) (own_code e))

pub context_test : Test Context
context_test = record { same = same_context; decides = λ x y. (context_is x y, λ e. subst (λ z. same_context x z ≡ true) e (own_context x)) }
