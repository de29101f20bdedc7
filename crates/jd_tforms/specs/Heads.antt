-- The words that begin the forms of terms, location sets, formulas and code.
use Rattle.std.specs.Prelude.{ℕ, List, [], ◌∷◌, Bool, true, false, Option, codes}
use Rattle.std.specs.List.{find}
use Rattle.std.specs.Str.{bytes_eq}
use Rattle.jd_base.specs.declared.sort.Sort.{Sort}
use Rattle.jd_base.specs.declared.sort.Sort.TheVariants.{Int as IntSort, Bool as BoolSort, Ref as RefSort, Heap as HeapSort, Field as FieldSort}
use Rattle.jd_syntax.specs.declared.code.UnaryOp.TheVariants as unary
use Rattle.jd_syntax.specs.declared.code.BinaryOp.TheVariants as binary
use Rattle.jd_term.specs.declared.term.ArithmeticOp.TheVariants as arithmetic
use Rattle.jd_term.specs.declared.formula.Modality.TheVariants as modalities
use Rattle.jd_tgrammar.specs.Words.{arithmetic_word, select_word, modality_word, unary_word, binary_word}
use Rattle.jd_tforms.specs.declared.heads.TermHead.{TermHead}
use Rattle.jd_tforms.specs.declared.heads.TermHead.TheVariants as term_kinds
use Rattle.jd_tforms.specs.declared.heads.LocHead.{LocHead}
use Rattle.jd_tforms.specs.declared.heads.LocHead.TheVariants as loc_kinds
use Rattle.jd_tforms.specs.declared.heads.FormulaHead.{FormulaHead}
use Rattle.jd_tforms.specs.declared.heads.FormulaHead.TheVariants as formula_kinds
use Rattle.jd_tforms.specs.declared.heads.ExprHead.{ExprHead}
use Rattle.jd_tforms.specs.declared.heads.ExprHead.TheVariants as expr_kinds
use Rattle.jd_tforms.specs.declared.heads.StmtHead.{StmtHead}
use Rattle.jd_tforms.specs.declared.heads.StmtHead.TheVariants as stmt_kinds

-- the sorts that reading from a heap has
abbrev pub is_selected : Sort → Bool
is_selected IntSort = true
is_selected BoolSort = true
is_selected RefSort = true
is_selected HeapSort = false
is_selected FieldSort = false

abbrev pub term_word : TermHead → List ℕ
term_word (term_kinds.Arithmetic op) = arithmetic_word op
term_word term_kinds.Negation = codes "neg"
term_word term_kinds.Wrap = codes "wrap"
term_word term_kinds.Length = codes "len"
term_word (term_kinds.Select s) = select_word s
term_word term_kinds.Sum = codes "bsum"
term_word term_kinds.Store = codes "store"
term_word term_kinds.Create = codes "create"
term_word term_kinds.Anon = codes "anon"
term_word term_kinds.Element = codes "idx"

abbrev pub term_heads : List TermHead
term_heads =
    term_kinds.Arithmetic arithmetic.Add ∷ term_kinds.Arithmetic arithmetic.Subtract ∷ term_kinds.Arithmetic arithmetic.Multiply ∷ term_kinds.Arithmetic arithmetic.Divide
    ∷ term_kinds.Arithmetic arithmetic.Remainder ∷ term_kinds.Negation ∷ term_kinds.Wrap ∷ term_kinds.Length ∷ term_kinds.Select IntSort ∷ term_kinds.Select BoolSort ∷ term_kinds.Select RefSort ∷ term_kinds.Sum ∷ term_kinds.Store
    ∷ term_kinds.Create ∷ term_kinds.Anon ∷ term_kinds.Element ∷ []

abbrev pub loc_word : LocHead → List ℕ
loc_word loc_kinds.Single = codes "loc"
loc_word loc_kinds.Object = codes "obj"
loc_word loc_kinds.Elements = codes "arrall"
loc_word loc_kinds.Range = codes "arr"
loc_word loc_kinds.Union = codes "union"

abbrev pub loc_heads : List LocHead
loc_heads = loc_kinds.Single ∷ loc_kinds.Object ∷ loc_kinds.Elements ∷ loc_kinds.Range ∷ loc_kinds.Union ∷ []

abbrev pub formula_word : FormulaHead → List ℕ
formula_word formula_kinds.Not = codes "not"
formula_word formula_kinds.And = codes "and"
formula_word formula_kinds.Or = codes "or"
formula_word formula_kinds.Implies = codes "imp"
formula_word formula_kinds.Iff = codes "iff"
formula_word formula_kinds.Equal = codes "eq"
formula_word formula_kinds.Less = codes "lt"
formula_word formula_kinds.LessOrEqual = codes "le"
formula_word formula_kinds.Forall = codes "forall"
formula_word formula_kinds.Exists = codes "exists"
formula_word formula_kinds.Updated = codes "upd"
formula_word (formula_kinds.Modal m) = modality_word m
formula_word formula_kinds.In = codes "in"
formula_word formula_kinds.InInt = codes "inInt"
formula_word formula_kinds.WellFormed = codes "wf"
formula_word formula_kinds.Invariant = codes "inv"
formula_word formula_kinds.Instance = codes "inst"
formula_word formula_kinds.Exact = codes "exact"

abbrev pub formula_heads : List FormulaHead
formula_heads =
    formula_kinds.Not ∷ formula_kinds.And ∷ formula_kinds.Or ∷ formula_kinds.Implies ∷ formula_kinds.Iff ∷ formula_kinds.Equal ∷ formula_kinds.Less ∷ formula_kinds.LessOrEqual ∷ formula_kinds.Forall ∷ formula_kinds.Exists ∷ formula_kinds.Updated ∷ formula_kinds.Modal modalities.Necessity
    ∷ formula_kinds.Modal modalities.Possibility ∷ formula_kinds.In ∷ formula_kinds.InInt ∷ formula_kinds.WellFormed ∷ formula_kinds.Invariant ∷ formula_kinds.Instance ∷ formula_kinds.Exact ∷ []

abbrev pub expr_word : ExprHead → List ℕ
expr_word (expr_kinds.Unary op) = unary_word op
expr_word (expr_kinds.Binary op) = binary_word op
expr_word expr_kinds.AndAlso = codes "and"
expr_word expr_kinds.OrElse = codes "or"
expr_word expr_kinds.Conditional = codes "cond"
expr_word expr_kinds.ReadField = codes "get"
expr_word expr_kinds.ReadElement = codes "aget"
expr_word expr_kinds.LengthOf = codes "len"
expr_word expr_kinds.Cast = codes "cast"
expr_word expr_kinds.InstanceOf = codes "inst"
expr_word expr_kinds.VirtualCall = codes "call"
expr_word expr_kinds.StaticCall = codes "scall"
expr_word expr_kinds.ConstructorCall = codes "ctor"
expr_word expr_kinds.DoThen = codes "do"

abbrev pub expr_heads : List ExprHead
expr_heads =
    expr_kinds.Unary unary.Negate ∷ expr_kinds.Unary unary.Invert ∷ expr_kinds.Binary binary.Add ∷ expr_kinds.Binary binary.Subtract ∷ expr_kinds.Binary binary.Multiply ∷ expr_kinds.Binary binary.Divide
    ∷ expr_kinds.Binary binary.Remainder ∷ expr_kinds.Binary binary.Less ∷ expr_kinds.Binary binary.LessOrEqual ∷ expr_kinds.Binary binary.Greater ∷ expr_kinds.Binary binary.GreaterOrEqual
    ∷ expr_kinds.Binary binary.Equal ∷ expr_kinds.Binary binary.NotEqual ∷ expr_kinds.AndAlso ∷ expr_kinds.OrElse ∷ expr_kinds.Conditional ∷ expr_kinds.ReadField ∷ expr_kinds.ReadElement ∷ expr_kinds.LengthOf ∷ expr_kinds.Cast
    ∷ expr_kinds.InstanceOf ∷ expr_kinds.VirtualCall ∷ expr_kinds.StaticCall ∷ expr_kinds.ConstructorCall ∷ expr_kinds.DoThen ∷ []

abbrev pub stmt_word : StmtHead → List ℕ
stmt_word stmt_kinds.Set = codes "set"
stmt_word stmt_kinds.WriteField = codes "put"
stmt_word stmt_kinds.WriteElement = codes "aput"
stmt_word stmt_kinds.Evaluate = codes "eval"
stmt_word stmt_kinds.If = codes "if"
stmt_word stmt_kinds.While = codes "while"
stmt_word stmt_kinds.Block = codes "block"
stmt_word stmt_kinds.Break = codes "break"
stmt_word stmt_kinds.Catch = codes "catch"
stmt_word stmt_kinds.Finally = codes "finally"
stmt_word stmt_kinds.Throw = codes "throw"
stmt_word stmt_kinds.ThrowUnchecked = codes "throwx"
stmt_word stmt_kinds.Return = codes "return"
stmt_word stmt_kinds.Frame = codes "frame"
stmt_word stmt_kinds.Raise = codes "raise"
stmt_word stmt_kinds.Alloc = codes "alloc"
stmt_word stmt_kinds.NewArray = codes "allocarr"
stmt_word stmt_kinds.Stop = codes "stop"

abbrev pub stmt_heads : List StmtHead
stmt_heads =
    stmt_kinds.Set ∷ stmt_kinds.WriteField ∷ stmt_kinds.WriteElement ∷ stmt_kinds.Evaluate ∷ stmt_kinds.If ∷ stmt_kinds.While ∷ stmt_kinds.Block ∷ stmt_kinds.Break ∷ stmt_kinds.Catch ∷ stmt_kinds.Finally ∷ stmt_kinds.Throw ∷ stmt_kinds.ThrowUnchecked ∷ stmt_kinds.Return ∷ stmt_kinds.Frame
    ∷ stmt_kinds.Raise ∷ stmt_kinds.Alloc ∷ stmt_kinds.NewArray ∷ stmt_kinds.Stop ∷ []

-- the first of the heads that has this word
abbrev pub head_of : {H : Type 0} → (H → List ℕ) → List H → List ℕ → Option H
head_of word heads w = find (λ h. bytes_eq (word h) w) heads
