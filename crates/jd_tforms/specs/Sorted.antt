-- Trees whose parts have the sorts that their places ask for.
use Rattle.std.specs.Prelude.{ℕ, List, [], ◌∷◌, Bool, true, false, cond, get_or, ◌&&◌, Option, Some, None}
use Rattle.std.specs.Option.{is_some}
use Rattle.jd_base.specs.declared.sort.Sort.{Sort}
use Rattle.jd_base.specs.declared.sort.Sort.TheVariants.{Int as IntSort, Bool as BoolSort, Ref as RefSort, Heap as HeapSort, Field as FieldSort}
use Rattle.jd_syntax.specs.CodeNames.{same_sort}
use Rattle.jd_syntax.specs.Names.{Name}
use Rattle.jd_syntax.specs.Codes as code
use Rattle.jd_syntax.specs.Codes.{Expr, Exprs, NoExprs, ExprThen, Stmt, PlainCode, Done, Then}
use Rattle.jd_syntax.specs.declared.code.UnaryOp.{UnaryOp}
use Rattle.jd_syntax.specs.declared.code.UnaryOp.TheVariants as unary
use Rattle.jd_syntax.specs.declared.code.BinaryOp.{BinaryOp}
use Rattle.jd_syntax.specs.declared.code.BinaryOp.TheVariants as binary
use Rattle.jd_term.specs.Terms as terms
use Rattle.jd_term.specs.Terms.{PlainTerm, PlainLoc, sort_of_term}
use Rattle.jd_term.specs.Formulas as formulas
use Rattle.jd_term.specs.Formulas.{PlainFormula, Pairs}
use Rattle.jd_tgrammar.specs.NameTables.{NameTable}
use Rattle.jd_tgrammar.specs.Spelling.{no_field, routine}

-- integers, truth values and references: the values of Java
abbrev pub is_value : Sort → Bool
is_value IntSort = true
is_value BoolSort = true
is_value RefSort = true
is_value HeapSort = false
is_value FieldSort = false

-- ---- terms and location sets

abbrev pub has_sort : Sort → PlainTerm → Bool
has_sort s t = same_sort (sort_of_term t) s

abbrev mutual
  pub term_sorted : PlainTerm → Bool
  term_sorted (terms.Number z) = true
  term_sorted (terms.Boolean b) = true
  term_sorted terms.NullTerm = true
  term_sorted (terms.ProgramVariable x) = true
  term_sorted (terms.Constant c) = true
  term_sorted (terms.Bound k s) = true
  term_sorted (terms.Arithmetic op t u) = has_sort IntSort t && term_sorted t && has_sort IntSort u && term_sorted u
  term_sorted (terms.Negation t) = has_sort IntSort t && term_sorted t
  term_sorted (terms.Wrap t) = has_sort IntSort t && term_sorted t
  term_sorted (terms.Length o) = has_sort RefSort o && term_sorted o
  term_sorted (terms.Select s h o f) = has_sort HeapSort h && term_sorted h && has_sort RefSort o && term_sorted o && has_sort FieldSort f && term_sorted f
  term_sorted (terms.Sum t u v) = has_sort IntSort t && term_sorted t && has_sort IntSort u && term_sorted u && has_sort IntSort v && term_sorted v
  -- what is stored has any sort: a heap or a field takes the entry away
  term_sorted (terms.Store h o f t) = has_sort HeapSort h && term_sorted h && has_sort RefSort o && term_sorted o && has_sort FieldSort f && term_sorted f && term_sorted t
  term_sorted (terms.Create h o) = has_sort HeapSort h && term_sorted h && has_sort RefSort o && term_sorted o
  term_sorted (terms.Anon h l g) = has_sort HeapSort h && term_sorted h && loc_sorted l && has_sort HeapSort g && term_sorted g
  term_sorted (terms.NamedField f) = true
  term_sorted terms.CreatedField = true
  term_sorted (terms.ElementField t) = has_sort IntSort t && term_sorted t

  pub loc_sorted : PlainLoc → Bool
  loc_sorted terms.NoLocations = true
  loc_sorted terms.AllLocations = true
  loc_sorted (terms.Single o f) = has_sort RefSort o && term_sorted o && has_sort FieldSort f && term_sorted f
  loc_sorted (terms.ObjectFields o) = has_sort RefSort o && term_sorted o
  loc_sorted (terms.ArrayElements o) = has_sort RefSort o && term_sorted o
  loc_sorted (terms.ElementRange o t u) = has_sort RefSort o && term_sorted o && has_sort IntSort t && term_sorted t && has_sort IntSort u && term_sorted u
  loc_sorted (terms.Union l m) = loc_sorted l && loc_sorted m

-- ---- code

abbrev pub unary_sort : UnaryOp → Sort
unary_sort unary.Negate = IntSort
unary_sort unary.Invert = BoolSort

-- of what an operation is made: integers, or, for `eq` and `ne`, two values of one sort
abbrev pub of_integers : BinaryOp → Bool
of_integers binary.Equal = false
of_integers binary.NotEqual = false
of_integers _ = true

abbrev pub binary_sort : BinaryOp → Sort
binary_sort binary.Add = IntSort
binary_sort binary.Subtract = IntSort
binary_sort binary.Multiply = IntSort
binary_sort binary.Divide = IntSort
binary_sort binary.Remainder = IntSort
binary_sort _ = BoolSort

-- what a `return` has to give: whatever it likes outside of all frames, nothing, or a value of this sort
pub data Returns : Type 0 where
  Free : Returns
  Nothing : Returns
  Value : Sort → Returns

abbrev pub returns_of : Option Name → Returns
returns_of None = Nothing
returns_of (Some x) = Value x.sort

abbrev pub returns_value : Returns → Sort → Bool
returns_value Free s = true
returns_value Nothing s = false
returns_value (Value r) s = same_sort s r

abbrev pub returns_none : Returns → Bool
returns_none Free = true
returns_none Nothing = true
returns_none (Value r) = false

-- there is a value, of a sort that may be returned
abbrev pub return_sorted : Returns → Option Sort → Bool
return_sorted r None = false
return_sorted r (Some s) = returns_value r s

abbrev pub result_fits : Option Name → Bool
result_fits None = true
result_fits (Some x) = is_value x.sort

abbrev pub is_some_sort : Sort → Option Sort → Bool
is_some_sort s None = false
is_some_sort s (Some r) = same_sort r s

abbrev pub both_one_sort : Option Sort → Option Sort → Bool
both_one_sort None s = false
both_one_sort (Some r) s = is_some_sort r s

module _ (names : NameTable) where
  abbrev pub field_sort : ℕ → Sort
  field_sort f = (get_or names.fields f (no_field names)).sort

  -- the sort of the value, where there is one
  abbrev pub expr_sort : Expr → Option Sort
  expr_sort (code.IntLiteral z) = Some IntSort
  expr_sort (code.BoolLiteral b) = Some BoolSort
  expr_sort code.NullLiteral = Some RefSort
  expr_sort (code.Variable x) = Some x.sort
  expr_sort (code.Unary op e) = Some (unary_sort op)
  expr_sort (code.Binary op e f) = Some (binary_sort op)
  expr_sort (code.AndAlso e f) = Some BoolSort
  expr_sort (code.OrElse e f) = Some BoolSort
  expr_sort (code.Conditional e f g) = expr_sort f
  expr_sort (code.ReadField e f) = Some (field_sort f)
  expr_sort (code.ReadElement e f) = Some IntSort
  expr_sort (code.LengthOf e) = Some IntSort
  expr_sort (code.Cast k e) = Some RefSort
  expr_sort (code.InstanceOf k e) = Some BoolSort
  expr_sort (code.VirtualCall c m e es) = (routine names m).result
  expr_sort (code.StaticCall m es) = (routine names m).result
  expr_sort (code.ConstructorCall m e es) = (routine names m).result
  expr_sort (code.DoThen ss e) = expr_sort e

  abbrev pub is : Sort → Expr → Bool
  is s e = is_some_sort s (expr_sort e)

  -- a call may be evaluated without a value, where it is itself what is evaluated; all else has one, and so has the last part of `do`
  abbrev pub may_evaluate : Expr → Bool
  may_evaluate (code.VirtualCall c m e es) = true
  may_evaluate (code.StaticCall m es) = true
  may_evaluate (code.ConstructorCall m e es) = true
  may_evaluate e = is_some (expr_sort e)

  abbrev mutual
    -- where a `return` has to give this
    pub expr_sorted : Returns → Expr → Bool
    expr_sorted r (code.IntLiteral z) = true
    expr_sorted r (code.BoolLiteral b) = true
    expr_sorted r code.NullLiteral = true
    expr_sorted r (code.Variable x) = is_value x.sort
    expr_sorted r (code.Unary op e) = is (unary_sort op) e && expr_sorted r e
    expr_sorted r (code.Binary op e f) =
        cond (of_integers op) (is IntSort e && is IntSort f) (both_one_sort (expr_sort e) (expr_sort f)) && expr_sorted r e && expr_sorted r f
    expr_sorted r (code.AndAlso e f) = is BoolSort e && is BoolSort f && expr_sorted r e && expr_sorted r f
    expr_sorted r (code.OrElse e f) = is BoolSort e && is BoolSort f && expr_sorted r e && expr_sorted r f
    expr_sorted r (code.Conditional e f g) = is BoolSort e && both_one_sort (expr_sort f) (expr_sort g) && expr_sorted r e && expr_sorted r f && expr_sorted r g
    expr_sorted r (code.ReadField e f) = is RefSort e && expr_sorted r e
    expr_sorted r (code.ReadElement e f) = is RefSort e && is IntSort f && expr_sorted r e && expr_sorted r f
    expr_sorted r (code.LengthOf e) = is RefSort e && expr_sorted r e
    expr_sorted r (code.Cast k e) = is RefSort e && expr_sorted r e
    expr_sorted r (code.InstanceOf k e) = is RefSort e && expr_sorted r e
    expr_sorted r (code.VirtualCall c m e es) = is RefSort e && expr_sorted r e && operands_sorted r (routine names m).parameters es
    expr_sorted r (code.StaticCall m es) = operands_sorted r (routine names m).parameters es
    expr_sorted r (code.ConstructorCall m e es) = is RefSort e && expr_sorted r e && operands_sorted r (routine names m).parameters es
    expr_sorted r (code.DoThen ss e) = code_sorted r ss && expr_sorted r e

    -- one operand of its sort for each parameter
    pub operands_sorted : Returns → List Sort → Exprs → Bool
    operands_sorted r [] NoExprs = true
    operands_sorted r (s ∷ sorts) NoExprs = false
    operands_sorted r [] (ExprThen e es) = false
    operands_sorted r (s ∷ sorts) (ExprThen e es) = is s e && expr_sorted r e && operands_sorted r sorts es

    pub stmt_sorted : Returns → Stmt → Bool
    stmt_sorted r (code.Set x e) = is_value x.sort && is x.sort e && expr_sorted r e
    stmt_sorted r (code.WriteField e f g) = is RefSort e && is (field_sort f) g && expr_sorted r e && expr_sorted r g
    stmt_sorted r (code.WriteElement e f g) = is RefSort e && is IntSort f && is IntSort g && expr_sorted r e && expr_sorted r f && expr_sorted r g
    stmt_sorted r (code.Evaluate e) = may_evaluate e && expr_sorted r e
    stmt_sorted r (code.If e ss ts) = is BoolSort e && expr_sorted r e && code_sorted r ss && code_sorted r ts
    stmt_sorted r (code.While k e ss) = is BoolSort e && expr_sorted r e && code_sorted r ss
    stmt_sorted r (code.Block l ss) = code_sorted r ss
    stmt_sorted r (code.Break l) = true
    stmt_sorted r (code.Catch ss x ts) = same_sort x.sort RefSort && code_sorted r ss && code_sorted r ts
    stmt_sorted r (code.Finally ss ts) = code_sorted r ss && code_sorted r ts
    stmt_sorted r (code.Throw e) = is RefSort e && expr_sorted r e
    stmt_sorted r (code.ThrowUnchecked e) = is RefSort e && expr_sorted r e
    stmt_sorted r (code.Return e) = return_sorted r (expr_sort e) && expr_sorted r e
    stmt_sorted r code.ReturnVoid = returns_none r
    stmt_sorted r (code.Frame x ss) = result_fits x && code_sorted (returns_of x) ss
    stmt_sorted r (code.Raise c) = true
    stmt_sorted r (code.AllocObject x c) = same_sort x.sort RefSort
    stmt_sorted r (code.AllocArray x e) = same_sort x.sort RefSort && is IntSort e && expr_sorted r e
    stmt_sorted r (code.NewArray x e) = same_sort x.sort RefSort && is IntSort e && expr_sorted r e
    stmt_sorted r code.Stop = true

    pub code_sorted : Returns → PlainCode → Bool
    code_sorted r Done = true
    code_sorted r (Then s ss) = stmt_sorted r s && code_sorted r ss

  -- ---- formulas

  abbrev pub pairs_sorted : Pairs → Bool
  pairs_sorted [] = true
  pairs_sorted (p ∷ ps) = has_sort p.0.sort p.1 && term_sorted p.1 && pairs_sorted ps

  abbrev pub formula_sorted : PlainFormula → Bool
  formula_sorted formulas.TrueFormula = true
  formula_sorted formulas.FalseFormula = true
  formula_sorted (formulas.Not a) = formula_sorted a
  formula_sorted (formulas.And a b) = formula_sorted a && formula_sorted b
  formula_sorted (formulas.Or a b) = formula_sorted a && formula_sorted b
  formula_sorted (formulas.Implies a b) = formula_sorted a && formula_sorted b
  formula_sorted (formulas.Iff a b) = formula_sorted a && formula_sorted b
  formula_sorted (formulas.Equal t u) = same_sort (sort_of_term t) (sort_of_term u) && term_sorted t && term_sorted u
  formula_sorted (formulas.Less t u) = has_sort IntSort t && has_sort IntSort u && term_sorted t && term_sorted u
  formula_sorted (formulas.LessOrEqual t u) = has_sort IntSort t && has_sort IntSort u && term_sorted t && term_sorted u
  formula_sorted (formulas.Forall s a) = formula_sorted a
  formula_sorted (formulas.Exists s a) = formula_sorted a
  formula_sorted (formulas.Updated ps a) = pairs_sorted ps && formula_sorted a
  formula_sorted (formulas.Modal m ss a) = code_sorted Free ss && formula_sorted a
  formula_sorted (formulas.InLocations o f l) = has_sort RefSort o && has_sort FieldSort f && term_sorted o && term_sorted f && loc_sorted l
  formula_sorted (formulas.InInt t) = has_sort IntSort t && term_sorted t
  formula_sorted (formulas.WellFormed h) = has_sort HeapSort h && term_sorted h
  formula_sorted (formulas.Invariant h o) = has_sort HeapSort h && has_sort RefSort o && term_sorted h && term_sorted o
  formula_sorted (formulas.IsInstance k o) = has_sort RefSort o && term_sorted o
  formula_sorted (formulas.IsExactInstance k o) = has_sort RefSort o && term_sorted o
