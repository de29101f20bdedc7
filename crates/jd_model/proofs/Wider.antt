-- A property of all names that gives another: what has the one has the other.
use Rattle.std.specs.Prelude.{Option, Some, None, [], ◌∷◌}
use Rattle.jd_model.specs.Contexts.{Context, Here, InBlock, InFrame, InCatch, InFinally, chain, fill}
use Rattle.jd_syntax.specs.CodeNames.{heap_name}
use Rattle.jd_model.specs.Occurrences.{MaybeIn, ExprIn, ExprsIn, StmtIn, CodeIn, TermIn, LocIn, PairsIn, FormulaIn, HeapIn, ContextIn}
use Rattle.jd_syntax.specs.Codes.{Expr, IntLiteral, BoolLiteral, NullLiteral, Variable, Unary, Binary, AndAlso, OrElse, Conditional, ReadField, ReadElement, LengthOf, Cast, InstanceOf, VirtualCall, StaticCall, ConstructorCall, DoThen, Exprs, NoExprs, ExprThen, Stmt, Set, WriteField, WriteElement, Evaluate, If, While, Block, Break, Catch, Finally, Throw, ThrowUnchecked, Return, ReturnVoid, Frame, Raise, AllocObject, AllocArray, NewArray, Stop, PlainCode, Done, Then}
use Rattle.jd_syntax.specs.Names.{Name}
use Rattle.jd_term.specs.Formulas.{Pairs, PlainFormula, TrueFormula, FalseFormula, Not, And, Or, Implies, Iff, Equal, Less, LessOrEqual, Forall, Exists, Updated, Modal, InLocations, InInt, WellFormed, Invariant, IsInstance, IsExactInstance}
use Rattle.jd_term.specs.Terms.{PlainTerm, Number, Boolean, NullTerm, ProgramVariable, Constant, Bound, Arithmetic, Negation, Wrap, Length, Select, Sum, Store, Create, Anon, NamedField, CreatedField, ElementField, PlainLoc, NoLocations, AllLocations, Single, ObjectFields, ArrayElements, ElementRange, Union}

module _ (P Q P' Q' : Name → Type 0) (on_p : (x : Name) → P x → P' x) (on_q : (x : Name) → Q x → Q' x) where
  pub maybe_wider : (a : Option Name) → MaybeIn P Q a → MaybeIn P' Q' a
  maybe_wider None h = tt
  maybe_wider (Some x) h = on_q x h

  mutual
    pub expr_wider : (a : Expr) → ExprIn P Q a → ExprIn P' Q' a
    expr_wider (IntLiteral z) h = tt
    expr_wider (BoolLiteral b) h = tt
    expr_wider NullLiteral h = tt
    expr_wider (Variable x) h = on_p x h
    expr_wider (Unary op a) h = expr_wider a h
    expr_wider (Binary op a b) h = (expr_wider a h.0, expr_wider b h.1)
    expr_wider (AndAlso a b) h = (expr_wider a h.0, expr_wider b h.1)
    expr_wider (OrElse a b) h = (expr_wider a h.0, expr_wider b h.1)
    expr_wider (Conditional a b c) h = (expr_wider a h.0, expr_wider b h.1, expr_wider c h.2)
    expr_wider (ReadField a f) h = expr_wider a h
    expr_wider (ReadElement a i) h = (expr_wider a h.0, expr_wider i h.1)
    expr_wider (LengthOf a) h = expr_wider a h
    expr_wider (Cast k a) h = expr_wider a h
    expr_wider (InstanceOf k a) h = expr_wider a h
    expr_wider (VirtualCall k m a bs) h = (expr_wider a h.0, exprs_wider bs h.1)
    expr_wider (StaticCall m bs) h = exprs_wider bs h
    expr_wider (ConstructorCall c a bs) h = (expr_wider a h.0, exprs_wider bs h.1)
    expr_wider (DoThen c a) h = (code_wider c h.0, expr_wider a h.1)

    pub exprs_wider : (a : Exprs) → ExprsIn P Q a → ExprsIn P' Q' a
    exprs_wider NoExprs h = tt
    exprs_wider (ExprThen a bs) h = (expr_wider a h.0, exprs_wider bs h.1)

    pub stmt_wider : (a : Stmt) → StmtIn P Q a → StmtIn P' Q' a
    stmt_wider (Set x a) h = (on_q x h.0, expr_wider a h.1)
    stmt_wider (WriteField a f b) h = (expr_wider a h.0, expr_wider b h.1)
    stmt_wider (WriteElement a i b) h = (expr_wider a h.0, expr_wider i h.1, expr_wider b h.2)
    stmt_wider (Evaluate a) h = expr_wider a h
    stmt_wider (If a c d) h = (expr_wider a h.0, code_wider c h.1, code_wider d h.2)
    stmt_wider (While k a c) h = (expr_wider a h.0, code_wider c h.1)
    stmt_wider (Block l c) h = code_wider c h
    stmt_wider (Break l) h = tt
    stmt_wider (Catch c x d) h = (code_wider c h.0, on_q x h.1, code_wider d h.2)
    stmt_wider (Finally c d) h = (code_wider c h.0, code_wider d h.1)
    stmt_wider (Throw a) h = expr_wider a h
    stmt_wider (ThrowUnchecked a) h = expr_wider a h
    stmt_wider (Return a) h = expr_wider a h
    stmt_wider ReturnVoid h = tt
    stmt_wider (Frame r c) h = (maybe_wider r h.0, code_wider c h.1)
    stmt_wider (Raise c) h = tt
    stmt_wider (AllocObject x c) h = on_q x h
    stmt_wider (AllocArray x a) h = (on_q x h.0, expr_wider a h.1)
    stmt_wider (NewArray x a) h = (on_q x h.0, expr_wider a h.1)
    stmt_wider Stop h = tt

    pub code_wider : (a : PlainCode) → CodeIn P Q a → CodeIn P' Q' a
    code_wider Done h = tt
    code_wider (Then c cs) h = (stmt_wider c h.0, code_wider cs h.1)

module _ (P Q P' Q' : Name → Type 0) (on_p : (x : Name) → P x → P' x) (on_q : (x : Name) → Q x → Q' x) where
  mutual
    pub term_wider : (a : PlainTerm) → TermIn P Q a → TermIn P' Q' a
    term_wider (Number z) h = tt
    term_wider (Boolean x) h = tt
    term_wider NullTerm h = tt
    term_wider (ProgramVariable x) h = on_p x h
    term_wider (Constant c) h = on_q c h
    term_wider (Bound k s) h = tt
    term_wider (Arithmetic op t u) h = (term_wider t h.0, term_wider u h.1)
    term_wider (Negation t) h = term_wider t h
    term_wider (Wrap t) h = term_wider t h
    term_wider (Length t) h = term_wider t h
    term_wider (Select s r o f) h = (term_wider r h.0, term_wider o h.1, term_wider f h.2)
    term_wider (Sum t u a) h = (term_wider t h.0, term_wider u h.1, term_wider a h.2)
    term_wider (Store r o f t) h = (term_wider r h.0, term_wider o h.1, term_wider f h.2, term_wider t h.3)
    term_wider (Create r o) h = (term_wider r h.0, term_wider o h.1)
    term_wider (Anon r l g) h = (term_wider r h.0, loc_wider l h.1, term_wider g h.2)
    term_wider (NamedField f) h = tt
    term_wider CreatedField h = tt
    term_wider (ElementField t) h = term_wider t h

    pub loc_wider : (a : PlainLoc) → LocIn P Q a → LocIn P' Q' a
    loc_wider NoLocations h = tt
    loc_wider AllLocations h = tt
    loc_wider (Single o f) h = (term_wider o h.0, term_wider f h.1)
    loc_wider (ObjectFields o) h = term_wider o h
    loc_wider (ArrayElements o) h = term_wider o h
    loc_wider (ElementRange o t u) h = (term_wider o h.0, term_wider t h.1, term_wider u h.2)
    loc_wider (Union l m) h = (loc_wider l h.0, loc_wider m h.1)

  pub update_wider : (a : Pairs) → PairsIn P Q a → PairsIn P' Q' a
  update_wider [] h = tt
  update_wider (e ∷ u) h = (term_wider e.1 h.0, update_wider u h.1)

  heap_wider : (c : PlainCode) → HeapIn P c → HeapIn P' c
  heap_wider Done h = tt
  heap_wider (Then s c) h = on_p heap_name h

  pub formula_wider : (a : PlainFormula) → FormulaIn P Q a → FormulaIn P' Q' a
  formula_wider TrueFormula h = tt
  formula_wider FalseFormula h = tt
  formula_wider (Not a) h = formula_wider a h
  formula_wider (And a c) h = (formula_wider a h.0, formula_wider c h.1)
  formula_wider (Or a c) h = (formula_wider a h.0, formula_wider c h.1)
  formula_wider (Implies a c) h = (formula_wider a h.0, formula_wider c h.1)
  formula_wider (Iff a c) h = (formula_wider a h.0, formula_wider c h.1)
  formula_wider (Equal t u) h = (term_wider t h.0, term_wider u h.1)
  formula_wider (Less t u) h = (term_wider t h.0, term_wider u h.1)
  formula_wider (LessOrEqual t u) h = (term_wider t h.0, term_wider u h.1)
  formula_wider (Forall k a) h = formula_wider a h
  formula_wider (Exists k a) h = formula_wider a h
  formula_wider (Updated u a) h = (update_wider u h.0, formula_wider a h.1)
  formula_wider (Modal m c a) h = ((code_wider P P P' P' on_p on_p c h.0.0, heap_wider c h.0.1), formula_wider a h.1)
  formula_wider (InLocations o f l) h = (term_wider o h.0, term_wider f h.1, loc_wider l h.2)
  formula_wider (InInt t) h = term_wider t h
  formula_wider (WellFormed r) h = term_wider r h
  formula_wider (Invariant r o) h = (term_wider r h.0, term_wider o h.1)
  formula_wider (IsInstance k o) h = term_wider o h
  formula_wider (IsExactInstance k o) h = term_wider o h

module _ (P Q P' Q' : Name → Type 0) (on_p : (x : Name) → P x → P' x) (on_q : (x : Name) → Q x → Q' x) where
  pub ctx_wider : (k : Context) → ContextIn P Q k → ContextIn P' Q' k
  ctx_wider (Here rest) h = code_wider P Q P' Q' on_p on_q rest h
  ctx_wider (InBlock l k rest) h = (ctx_wider k h.0, code_wider P Q P' Q' on_p on_q rest h.1)
  ctx_wider (InFrame r k rest) h = (maybe_wider P Q P' Q' on_p on_q r h.0, ctx_wider k h.1, code_wider P Q P' Q' on_p on_q rest h.2)
  ctx_wider (InCatch k x c rest) h = (ctx_wider k h.0, on_q x h.1, code_wider P Q P' Q' on_p on_q c h.2, code_wider P Q P' Q' on_p on_q rest h.3)
  ctx_wider (InFinally k f rest) h = (ctx_wider k h.0, code_wider P Q P' Q' on_p on_q f h.1, code_wider P Q P' Q' on_p on_q rest h.2)

-- a code in a context has the names of both
module _ (P Q : Name → Type 0) where
  pub chain_in : (c e : PlainCode) → CodeIn P Q c → CodeIn P Q e → CodeIn P Q (chain c e)
  chain_in Done e h g = g
  chain_in (Then c cs) e h g = (h.0, chain_in cs e h.1 g)

  chain_first : (c e : PlainCode) → CodeIn P Q (chain c e) → CodeIn P Q c
  chain_first Done e h = tt
  chain_first (Then c cs) e h = (h.0, chain_first cs e h.1)

  chain_rest : (c e : PlainCode) → CodeIn P Q (chain c e) → CodeIn P Q e
  chain_rest Done e h = h
  chain_rest (Then c cs) e h = chain_rest cs e h.1

  pub fill_in : (k : Context) (c : PlainCode) → ContextIn P Q k → CodeIn P Q c → CodeIn P Q (fill k c)
  fill_in (Here rest) c h g = chain_in c rest g h
  fill_in (InBlock l k rest) c h g = (fill_in k c h.0 g, h.1)
  fill_in (InFrame r k rest) c h g = ((h.0, fill_in k c h.1 g), h.2)
  fill_in (InCatch k x d rest) c h g = ((fill_in k c h.0 g, h.1, h.2), h.3)
  fill_in (InFinally k f rest) c h g = ((fill_in k c h.0 g, h.1), h.2)

  pub fill_ctx : (k : Context) (c : PlainCode) → CodeIn P Q (fill k c) → ContextIn P Q k
  fill_ctx (Here rest) c h = chain_rest c rest h
  fill_ctx (InBlock l k rest) c h = (fill_ctx k c h.0, h.1)
  fill_ctx (InFrame r k rest) c h = (h.0.0, fill_ctx k c h.0.1, h.1)
  fill_ctx (InCatch k x d rest) c h = (fill_ctx k c h.0.0, h.0.1, h.0.2, h.1)
  fill_ctx (InFinally k f rest) c h = (fill_ctx k c h.0.0, h.0.1, h.1)

  pub fill_focus : (k : Context) (c : PlainCode) → CodeIn P Q (fill k c) → CodeIn P Q c
  fill_focus (Here rest) c h = chain_first c rest h
  fill_focus (InBlock l k rest) c h = fill_focus k c h.0
  fill_focus (InFrame r k rest) c h = fill_focus k c h.0.1
  fill_focus (InCatch k x d rest) c h = fill_focus k c h.0.0
  fill_focus (InFinally k f rest) c h = fill_focus k c h.0.0
