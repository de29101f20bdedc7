-- What occurs somewhere has the property that all that occurs has; so names that do not occur do not matter.
use Rattle.std.proofs.Common.{◌≡◌, Bool, true, false, ◌||◌, Option, Some, None, [], ◌∷◌, refl, sym, subst}
use Rattle.jd_syntax.specs.Names.{Name}
use Rattle.jd_syntax.specs.CodeNames.{same_name, heap_name, named_in_expr, named_in_exprs, named_in_stmt, named_in_code, is_result, occurs_in_code}
use Rattle.jd_syntax.proofs.NameTests.{same_name_decides}
use Rattle.jd_syntax.specs.Codes.{Expr, IntLiteral, BoolLiteral, NullLiteral, Variable, Unary, Binary, AndAlso, OrElse, Conditional, ReadField, ReadElement, LengthOf, Cast, InstanceOf, VirtualCall, StaticCall, ConstructorCall, DoThen, Exprs, NoExprs, ExprThen, Stmt, Set, WriteField, WriteElement, Evaluate, If, While, Block, Break, Catch, Finally, Throw, ThrowUnchecked, Return, ReturnVoid, Frame, Raise, AllocObject, AllocArray, NewArray, Stop, PlainCode, Done, Then}
use Rattle.jd_term.specs.Terms.{PlainTerm, Number, Boolean, NullTerm, ProgramVariable, Constant, Bound, Arithmetic, Negation, Wrap, Length, Select, Sum, Store, Create, Anon, NamedField, CreatedField, ElementField, PlainLoc, NoLocations, AllLocations, Single, ObjectFields, ArrayElements, ElementRange, Union}
use Rattle.jd_term.specs.Formulas.{Pairs, PlainFormula, TrueFormula, FalseFormula, Not, And, Or, Implies, Iff, Equal, Less, LessOrEqual, Forall, Exists, Updated, Modal, InLocations, InInt, WellFormed, Invariant, IsInstance, IsExactInstance}
use Rattle.jd_term.specs.Occurs.{var_in_term, var_in_loc, var_in_pairs, occurs_var_in, const_in_term, const_in_loc, const_in_pairs, occurs_const_in}
use Rattle.jd_model.specs.Occurrences.{MaybeIn, ExprIn, ExprsIn, StmtIn, CodeIn, HeapIn, TermIn, LocIn, PairsIn, FormulaIn}

left : (a b : Bool) → a ≡ true → a || b ≡ true
left true b e = refl
left false b e = subst (λ c. c || b ≡ true) (sym e) refl

right : (a b : Bool) → b ≡ true → a || b ≡ true
right true b e = refl
right false b e = e

module _ (P : Name → Type 0) where
  name_here : (w : Name) → ((x : Name) → same_name x w ≡ true → P x) → P w
  name_here w h = h w ((same_name_decides w w).1 refl)

  result_here : (r : Option Name) → ((x : Name) → is_result x r ≡ true → P x) → MaybeIn P P r
  result_here None h = tt
  result_here (Some w) h = name_here w h

  mutual
    expr_in : (a : Expr) → ((x : Name) → named_in_expr x a ≡ true → P x) → ExprIn P P a
    expr_in (IntLiteral n) h = tt
    expr_in (BoolLiteral b) h = tt
    expr_in NullLiteral h = tt
    expr_in (Variable w) h = name_here w h
    expr_in (Unary o a) h = expr_in a h
    expr_in (Binary o a b) h = (expr_in a (λ x e. h x (left _ _ e)), expr_in b (λ x e. h x (right _ _ e)))
    expr_in (AndAlso a b) h = (expr_in a (λ x e. h x (left _ _ e)), expr_in b (λ x e. h x (right _ _ e)))
    expr_in (OrElse a b) h = (expr_in a (λ x e. h x (left _ _ e)), expr_in b (λ x e. h x (right _ _ e)))
    expr_in (Conditional a b c) h = (expr_in a (λ x e. h x (left _ _ (left _ _ e))), expr_in b (λ x e. h x (left _ _ (right _ _ e))), expr_in c (λ x e. h x (right _ _ e)))
    expr_in (ReadField a f) h = expr_in a h
    expr_in (ReadElement a b) h = (expr_in a (λ x e. h x (left _ _ e)), expr_in b (λ x e. h x (right _ _ e)))
    expr_in (LengthOf a) h = expr_in a h
    expr_in (Cast k a) h = expr_in a h
    expr_in (InstanceOf k a) h = expr_in a h
    expr_in (VirtualCall c m a es) h = (expr_in a (λ x e. h x (left _ _ e)), exprs_in es (λ x e. h x (right _ _ e)))
    expr_in (StaticCall m es) h = exprs_in es h
    expr_in (ConstructorCall m a es) h = (expr_in a (λ x e. h x (left _ _ e)), exprs_in es (λ x e. h x (right _ _ e)))
    expr_in (DoThen c a) h = (code_in c (λ x e. h x (left _ _ e)), expr_in a (λ x e. h x (right _ _ e)))

    exprs_in : (as' : Exprs) → ((x : Name) → named_in_exprs x as' ≡ true → P x) → ExprsIn P P as'
    exprs_in NoExprs h = tt
    exprs_in (ExprThen a es) h = (expr_in a (λ x e. h x (left _ _ e)), exprs_in es (λ x e. h x (right _ _ e)))

    stmt_in : (s : Stmt) → ((x : Name) → named_in_stmt x s ≡ true → P x) → StmtIn P P s
    stmt_in (Set w a) h = (name_here w (λ x e. h x (left _ _ e)), expr_in a (λ x e. h x (right _ _ e)))
    stmt_in (WriteField a f b) h = (expr_in a (λ x e. h x (left _ _ e)), expr_in b (λ x e. h x (right _ _ e)))
    stmt_in (WriteElement a b c) h = (expr_in a (λ x e. h x (left _ _ (left _ _ e))), expr_in b (λ x e. h x (left _ _ (right _ _ e))), expr_in c (λ x e. h x (right _ _ e)))
    stmt_in (Evaluate a) h = expr_in a h
    stmt_in (If a c d) h = (expr_in a (λ x e. h x (left _ _ (left _ _ e))), code_in c (λ x e. h x (left _ _ (right _ _ e))), code_in d (λ x e. h x (right _ _ e)))
    stmt_in (While k a c) h = (expr_in a (λ x e. h x (left _ _ e)), code_in c (λ x e. h x (right _ _ e)))
    stmt_in (Block l c) h = code_in c h
    stmt_in (Break l) h = tt
    stmt_in (Catch c w d) h = (code_in c (λ x e. h x (left _ _ (left _ _ e))), name_here w (λ x e. h x (left _ _ (right _ _ e))), code_in d (λ x e. h x (right _ _ e)))
    stmt_in (Finally c d) h = (code_in c (λ x e. h x (left _ _ e)), code_in d (λ x e. h x (right _ _ e)))
    stmt_in (Throw a) h = expr_in a h
    stmt_in (ThrowUnchecked a) h = expr_in a h
    stmt_in (Return a) h = expr_in a h
    stmt_in ReturnVoid h = tt
    stmt_in (Frame r c) h = (result_here r (λ x e. h x (left _ _ e)), code_in c (λ x e. h x (right _ _ e)))
    stmt_in (Raise c) h = tt
    stmt_in (AllocObject w c) h = name_here w h
    stmt_in (AllocArray w a) h = (name_here w (λ x e. h x (left _ _ e)), expr_in a (λ x e. h x (right _ _ e)))
    stmt_in (NewArray w a) h = (name_here w (λ x e. h x (left _ _ e)), expr_in a (λ x e. h x (right _ _ e)))
    stmt_in Stop h = tt

    code_in : (c : PlainCode) → ((x : Name) → named_in_code x c ≡ true → P x) → CodeIn P P c
    code_in Done h = tt
    code_in (Then s c) h = (stmt_in s (λ x e. h x (left _ _ e)), code_in c (λ x e. h x (right _ _ e)))

  heap_in : (c : PlainCode) → ((x : Name) → occurs_in_code x c ≡ true → P x) → HeapIn P c
  heap_in Done h = tt
  heap_in (Then s c) h = h heap_name (left _ _ (right _ _ refl))

module _ (P Q : Name → Type 0) where
  mutual
    pub term_in : (a : PlainTerm) → ((x : Name) → var_in_term x a ≡ true → P x) → ((x : Name) → const_in_term x a ≡ true → Q x) → TermIn P Q a
    term_in (Number n) vs cs = tt
    term_in (Boolean b) vs cs = tt
    term_in NullTerm vs cs = tt
    term_in (ProgramVariable x) vs cs = name_here P x vs
    term_in (Constant c) vs cs = name_here Q c cs
    term_in (Bound i s) vs cs = tt
    term_in (Arithmetic op t u) vs cs = (term_in t (λ x e. vs x (left _ _ e)) (λ x e. cs x (left _ _ e)), term_in u (λ x e. vs x (right _ _ e)) (λ x e. cs x (right _ _ e)))
    term_in (Negation t) vs cs = term_in t vs cs
    term_in (Wrap t) vs cs = term_in t vs cs
    term_in (Length o) vs cs = term_in o vs cs
    term_in (Select s h o f) vs cs = (term_in h (λ x e. vs x (left _ _ (left _ _ e))) (λ x e. cs x (left _ _ (left _ _ e))), term_in o (λ x e. vs x (left _ _ (right _ _ e))) (λ x e. cs x (left _ _ (right _ _ e))), term_in f (λ x e. vs x (right _ _ e)) (λ x e. cs x (right _ _ e)))
    term_in (Sum t u w) vs cs = (term_in t (λ x e. vs x (left _ _ (left _ _ e))) (λ x e. cs x (left _ _ (left _ _ e))), term_in u (λ x e. vs x (left _ _ (right _ _ e))) (λ x e. cs x (left _ _ (right _ _ e))), term_in w (λ x e. vs x (right _ _ e)) (λ x e. cs x (right _ _ e)))
    term_in (Store h o f t) vs cs = (term_in h (λ x e. vs x (left _ _ (left _ _ (left _ _ e)))) (λ x e. cs x (left _ _ (left _ _ (left _ _ e)))), term_in o (λ x e. vs x (left _ _ (left _ _ (right _ _ e)))) (λ x e. cs x (left _ _ (left _ _ (right _ _ e)))), term_in f (λ x e. vs x (left _ _ (right _ _ e))) (λ x e. cs x (left _ _ (right _ _ e))), term_in t (λ x e. vs x (right _ _ e)) (λ x e. cs x (right _ _ e)))
    term_in (Create h o) vs cs = (term_in h (λ x e. vs x (left _ _ e)) (λ x e. cs x (left _ _ e)), term_in o (λ x e. vs x (right _ _ e)) (λ x e. cs x (right _ _ e)))
    term_in (Anon h l g) vs cs = (term_in h (λ x e. vs x (left _ _ (left _ _ e))) (λ x e. cs x (left _ _ (left _ _ e))), loc_in l (λ x e. vs x (left _ _ (right _ _ e))) (λ x e. cs x (left _ _ (right _ _ e))), term_in g (λ x e. vs x (right _ _ e)) (λ x e. cs x (right _ _ e)))
    term_in (NamedField f) vs cs = tt
    term_in CreatedField vs cs = tt
    term_in (ElementField t) vs cs = term_in t vs cs

    loc_in : (a : PlainLoc) → ((x : Name) → var_in_loc x a ≡ true → P x) → ((x : Name) → const_in_loc x a ≡ true → Q x) → LocIn P Q a
    loc_in NoLocations vs cs = tt
    loc_in AllLocations vs cs = tt
    loc_in (Single o f) vs cs = (term_in o (λ x e. vs x (left _ _ e)) (λ x e. cs x (left _ _ e)), term_in f (λ x e. vs x (right _ _ e)) (λ x e. cs x (right _ _ e)))
    loc_in (ObjectFields o) vs cs = term_in o vs cs
    loc_in (ArrayElements o) vs cs = term_in o vs cs
    loc_in (ElementRange o t u) vs cs = (term_in o (λ x e. vs x (left _ _ (left _ _ e))) (λ x e. cs x (left _ _ (left _ _ e))), term_in t (λ x e. vs x (left _ _ (right _ _ e))) (λ x e. cs x (left _ _ (right _ _ e))), term_in u (λ x e. vs x (right _ _ e)) (λ x e. cs x (right _ _ e)))
    loc_in (Union l m) vs cs = (loc_in l (λ x e. vs x (left _ _ e)) (λ x e. cs x (left _ _ e)), loc_in m (λ x e. vs x (right _ _ e)) (λ x e. cs x (right _ _ e)))

  pairs_in : (u : Pairs) → ((x : Name) → var_in_pairs x u ≡ true → P x) → ((x : Name) → const_in_pairs x u ≡ true → Q x) → PairsIn P Q u
  pairs_in [] vs cs = tt
  pairs_in (p ∷ u) vs cs = (term_in p.1 (λ x e. vs x (left _ _ (right _ _ e))) (λ x e. cs x (left _ _ e)), pairs_in u (λ x e. vs x (right _ _ e)) (λ x e. cs x (right _ _ e)))

  pub formula_in : (a : PlainFormula) → ((x : Name) → occurs_var_in x a ≡ true → P x) → ((x : Name) → occurs_const_in x a ≡ true → Q x) → FormulaIn P Q a
  formula_in TrueFormula vs cs = tt
  formula_in FalseFormula vs cs = tt
  formula_in (Not a) vs cs = formula_in a vs cs
  formula_in (And a b) vs cs = (formula_in a (λ x e. vs x (left _ _ e)) (λ x e. cs x (left _ _ e)), formula_in b (λ x e. vs x (right _ _ e)) (λ x e. cs x (right _ _ e)))
  formula_in (Or a b) vs cs = (formula_in a (λ x e. vs x (left _ _ e)) (λ x e. cs x (left _ _ e)), formula_in b (λ x e. vs x (right _ _ e)) (λ x e. cs x (right _ _ e)))
  formula_in (Implies a b) vs cs = (formula_in a (λ x e. vs x (left _ _ e)) (λ x e. cs x (left _ _ e)), formula_in b (λ x e. vs x (right _ _ e)) (λ x e. cs x (right _ _ e)))
  formula_in (Iff a b) vs cs = (formula_in a (λ x e. vs x (left _ _ e)) (λ x e. cs x (left _ _ e)), formula_in b (λ x e. vs x (right _ _ e)) (λ x e. cs x (right _ _ e)))
  formula_in (Equal t u) vs cs = (term_in t (λ x e. vs x (left _ _ e)) (λ x e. cs x (left _ _ e)), term_in u (λ x e. vs x (right _ _ e)) (λ x e. cs x (right _ _ e)))
  formula_in (Less t u) vs cs = (term_in t (λ x e. vs x (left _ _ e)) (λ x e. cs x (left _ _ e)), term_in u (λ x e. vs x (right _ _ e)) (λ x e. cs x (right _ _ e)))
  formula_in (LessOrEqual t u) vs cs = (term_in t (λ x e. vs x (left _ _ e)) (λ x e. cs x (left _ _ e)), term_in u (λ x e. vs x (right _ _ e)) (λ x e. cs x (right _ _ e)))
  formula_in (Forall s a) vs cs = formula_in a vs cs
  formula_in (Exists s a) vs cs = formula_in a vs cs
  formula_in (Updated u a) vs cs = (pairs_in u (λ x e. vs x (left _ _ e)) (λ x e. cs x (left _ _ e)), formula_in a (λ x e. vs x (right _ _ e)) (λ x e. cs x (right _ _ e)))
  formula_in (Modal m c a) vs cs = ((code_in P c (λ x e. vs x (left _ _ (left _ _ (left _ _ e)))), heap_in P c (λ x e. vs x (left _ _ e))), formula_in a (λ x e. vs x (right _ _ e)) cs)
  formula_in (InLocations o f l) vs cs = (term_in o (λ x e. vs x (left _ _ (left _ _ e))) (λ x e. cs x (left _ _ (left _ _ e))), term_in f (λ x e. vs x (left _ _ (right _ _ e))) (λ x e. cs x (left _ _ (right _ _ e))), loc_in l (λ x e. vs x (right _ _ e)) (λ x e. cs x (right _ _ e)))
  formula_in (InInt t) vs cs = term_in t vs cs
  formula_in (WellFormed h) vs cs = term_in h vs cs
  formula_in (Invariant h o) vs cs = (term_in h (λ x e. vs x (left _ _ e)) (λ x e. cs x (left _ _ e)), term_in o (λ x e. vs x (right _ _ e)) (λ x e. cs x (right _ _ e)))
  formula_in (IsInstance k o) vs cs = term_in o vs cs
  formula_in (IsExactInstance k o) vs cs = term_in o vs cs
