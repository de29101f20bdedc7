-- The bracketed expression of each term, location set, formula and code.
use Rattle.std.specs.Prelude.{ℕ, List, [], ◌∷◌, false, Option, Some, None, codes, get_or}
use Rattle.jd_base.specs.declared.sort.Sort.TheVariants.{Int as IntSort}
use Rattle.jd_syntax.specs.Names.{Name}
use Rattle.jd_syntax.specs.Sxs.{Bracketed, BracketedList, Atom, Brackets, NoneBracketed, BracketedThen}
use Rattle.jd_syntax.specs.Codes as code
use Rattle.jd_syntax.specs.Codes.{PlainKind, OfClass, IntArray, Expr, Exprs, NoExprs, ExprThen, Stmt, PlainCode, Done, Then}
use Rattle.jd_term.specs.Terms as terms
use Rattle.jd_term.specs.Terms.{PlainTerm, PlainLoc}
use Rattle.jd_term.specs.Formulas as formulas
use Rattle.jd_term.specs.Formulas.{PlainFormula, Pairs}
use Rattle.jd_written.specs.Written.{integer_text, number_text}
use Rattle.jd_tgrammar.specs.NameTables.{NameTable, FieldName, RoutineName, member_word}
use Rattle.jd_tgrammar.specs.Words.{sort_word, truth_word, arithmetic_word, select_word, modality_word, unary_word, binary_word, bound_word, label_word, array_word}

-- a word and what follows it, in brackets
abbrev pub form : List ℕ → BracketedList → Bracketed
form w xs = Brackets (BracketedThen (Atom w) xs)

abbrev pub none : BracketedList
none = NoneBracketed

abbrev pub one : Bracketed → BracketedList
one x = BracketedThen x NoneBracketed

abbrev pub two : Bracketed → Bracketed → BracketedList
two x y = BracketedThen x (one y)

abbrev pub three : Bracketed → Bracketed → Bracketed → BracketedList
three x y z = BracketedThen x (two y z)

abbrev pub four : Bracketed → Bracketed → Bracketed → Bracketed → BracketedList
four x y z w = BracketedThen x (three y z w)

module _ (names : NameTable) where
  -- ---- names

  abbrev pub class_word : ℕ → List ℕ
  class_word c = get_or names.classes c []

  abbrev pub no_field : FieldName
  no_field = record { class = 0; name = []; sort = IntSort }

  abbrev pub no_routine : RoutineName
  no_routine = record { class = 0; name = []; static = false; constructor = false; parameters = []; result = None }

  -- `C.f`, where C declares the field
  abbrev pub field_word : ℕ → List ℕ
  field_word f = let field = get_or names.fields f no_field in member_word (class_word field.class) field.name

  abbrev pub routine : ℕ → RoutineName
  routine m = get_or names.routines m no_routine

  -- `C.m`, where C sees the method
  abbrev pub method_word : ℕ → ℕ → List ℕ
  method_word c m = member_word (class_word c) (routine m).name

  abbrev pub kind_word : PlainKind → List ℕ
  kind_word (OfClass c) = class_word c
  kind_word IntArray = array_word

  -- ---- terms and location sets

  abbrev mutual
    pub term_text : PlainTerm → Bracketed
    term_text (terms.Number z) = Atom (integer_text z)
    term_text (terms.Boolean b) = Atom (truth_word b)
    term_text terms.NullTerm = Atom (codes "null")
    term_text (terms.ProgramVariable x) = Atom x.text
    term_text (terms.Constant c) = Atom c.text
    term_text (terms.Bound k s) = Atom (bound_word k)
    term_text (terms.Arithmetic op t u) = form (arithmetic_word op) (two (term_text t) (term_text u))
    term_text (terms.Negation t) = form (codes "neg") (one (term_text t))
    term_text (terms.Wrap t) = form (codes "wrap") (one (term_text t))
    term_text (terms.Length o) = form (codes "len") (one (term_text o))
    term_text (terms.Select s h o f) = form (select_word s) (three (term_text h) (term_text o) (term_text f))
    term_text (terms.Sum t u v) = form (codes "bsum") (three (term_text t) (term_text u) (term_text v))
    term_text (terms.Store h o f t) = form (codes "store") (four (term_text h) (term_text o) (term_text f) (term_text t))
    term_text (terms.Create h o) = form (codes "create") (two (term_text h) (term_text o))
    term_text (terms.Anon h l g) = form (codes "anon") (three (term_text h) (loc_text l) (term_text g))
    term_text (terms.NamedField f) = Atom (field_word f)
    term_text terms.CreatedField = Atom (codes "created")
    term_text (terms.ElementField t) = form (codes "idx") (one (term_text t))

    pub loc_text : PlainLoc → Bracketed
    loc_text terms.NoLocations = Atom (codes "none")
    loc_text terms.AllLocations = Atom (codes "all")
    loc_text (terms.Single o f) = form (codes "loc") (two (term_text o) (term_text f))
    loc_text (terms.ObjectFields o) = form (codes "obj") (one (term_text o))
    loc_text (terms.ArrayElements o) = form (codes "arrall") (one (term_text o))
    loc_text (terms.ElementRange o t u) = form (codes "arr") (three (term_text o) (term_text t) (term_text u))
    loc_text (terms.Union l m) = form (codes "union") (two (loc_text l) (loc_text m))

  -- ---- code

  -- the variable that takes the result, `-` where there is none
  abbrev pub result_word : Option Name → List ℕ
  result_word None = codes "-"
  result_word (Some x) = x.text

  abbrev mutual
    pub expr_text : Expr → Bracketed
    expr_text (code.IntLiteral z) = Atom (integer_text z)
    expr_text (code.BoolLiteral b) = Atom (truth_word b)
    expr_text code.NullLiteral = Atom (codes "null")
    expr_text (code.Variable x) = Atom x.text
    expr_text (code.Unary op e) = form (unary_word op) (one (expr_text e))
    expr_text (code.Binary op e f) = form (binary_word op) (two (expr_text e) (expr_text f))
    expr_text (code.AndAlso e f) = form (codes "and") (two (expr_text e) (expr_text f))
    expr_text (code.OrElse e f) = form (codes "or") (two (expr_text e) (expr_text f))
    expr_text (code.Conditional e f g) = form (codes "cond") (three (expr_text e) (expr_text f) (expr_text g))
    expr_text (code.ReadField e f) = form (codes "get") (two (expr_text e) (Atom (field_word f)))
    expr_text (code.ReadElement e f) = form (codes "aget") (two (expr_text e) (expr_text f))
    expr_text (code.LengthOf e) = form (codes "len") (one (expr_text e))
    expr_text (code.Cast k e) = form (codes "cast") (two (Atom (kind_word k)) (expr_text e))
    expr_text (code.InstanceOf k e) = form (codes "inst") (two (Atom (kind_word k)) (expr_text e))
    expr_text (code.VirtualCall c m e es) = form (codes "call") (BracketedThen (Atom (method_word c m)) (BracketedThen (expr_text e) (exprs_text es)))
    expr_text (code.StaticCall m es) = form (codes "scall") (BracketedThen (Atom (method_word (routine m).class m)) (exprs_text es))
    expr_text (code.ConstructorCall m e es) = form (codes "ctor") (BracketedThen (Atom (class_word (routine m).class)) (BracketedThen (expr_text e) (exprs_text es)))
    expr_text (code.DoThen ss e) = form (codes "do") (two (Brackets (stmts_text ss)) (expr_text e))

    pub exprs_text : Exprs → BracketedList
    exprs_text NoExprs = NoneBracketed
    exprs_text (ExprThen e es) = BracketedThen (expr_text e) (exprs_text es)

    pub stmt_text : Stmt → Bracketed
    stmt_text (code.Set x e) = form (codes "set") (two (Atom x.text) (expr_text e))
    stmt_text (code.WriteField e f g) = form (codes "put") (three (expr_text e) (Atom (field_word f)) (expr_text g))
    stmt_text (code.WriteElement e f g) = form (codes "aput") (three (expr_text e) (expr_text f) (expr_text g))
    stmt_text (code.Evaluate e) = form (codes "eval") (one (expr_text e))
    stmt_text (code.If e ss ts) = form (codes "if") (three (expr_text e) (Brackets (stmts_text ss)) (Brackets (stmts_text ts)))
    stmt_text (code.While k e ss) = form (codes "while") (three (Atom (number_text k)) (expr_text e) (Brackets (stmts_text ss)))
    stmt_text (code.Block l ss) = form (codes "block") (two (Atom (label_word l)) (Brackets (stmts_text ss)))
    stmt_text (code.Break l) = form (codes "break") (one (Atom (label_word l)))
    stmt_text (code.Catch ss x ts) = form (codes "catch") (three (Brackets (stmts_text ss)) (Atom x.text) (Brackets (stmts_text ts)))
    stmt_text (code.Finally ss ts) = form (codes "finally") (two (Brackets (stmts_text ss)) (Brackets (stmts_text ts)))
    stmt_text (code.Throw e) = form (codes "throw") (one (expr_text e))
    stmt_text (code.ThrowUnchecked e) = form (codes "throwx") (one (expr_text e))
    stmt_text (code.Return e) = form (codes "return") (one (expr_text e))
    stmt_text code.ReturnVoid = form (codes "return") none
    stmt_text (code.Frame x ss) = form (codes "frame") (two (Atom (result_word x)) (Brackets (stmts_text ss)))
    stmt_text (code.Raise c) = form (codes "raise") (one (Atom (class_word c)))
    stmt_text (code.AllocObject x c) = form (codes "alloc") (two (Atom x.text) (Atom (class_word c)))
    stmt_text (code.AllocArray x e) = form (codes "alloc") (two (Atom x.text) (form (codes "arr") (one (expr_text e))))
    stmt_text (code.NewArray x e) = form (codes "allocarr") (two (Atom x.text) (expr_text e))
    stmt_text code.Stop = form (codes "stop") none

    pub stmts_text : PlainCode → BracketedList
    stmts_text Done = NoneBracketed
    stmts_text (Then s ss) = BracketedThen (stmt_text s) (stmts_text ss)

  abbrev pub code_text : PlainCode → Bracketed
  code_text ss = Brackets (stmts_text ss)

  -- ---- formulas

  abbrev pub pairs_text : Pairs → BracketedList
  pairs_text [] = NoneBracketed
  pairs_text (p ∷ ps) = BracketedThen (Brackets (two (Atom p.0.text) (term_text p.1))) (pairs_text ps)

  abbrev pub formula_text : PlainFormula → Bracketed
  formula_text formulas.TrueFormula = Atom (codes "true")
  formula_text formulas.FalseFormula = Atom (codes "false")
  formula_text (formulas.Not a) = form (codes "not") (one (formula_text a))
  formula_text (formulas.And a b) = form (codes "and") (two (formula_text a) (formula_text b))
  formula_text (formulas.Or a b) = form (codes "or") (two (formula_text a) (formula_text b))
  formula_text (formulas.Implies a b) = form (codes "imp") (two (formula_text a) (formula_text b))
  formula_text (formulas.Iff a b) = form (codes "iff") (two (formula_text a) (formula_text b))
  formula_text (formulas.Equal t u) = form (codes "eq") (two (term_text t) (term_text u))
  formula_text (formulas.Less t u) = form (codes "lt") (two (term_text t) (term_text u))
  formula_text (formulas.LessOrEqual t u) = form (codes "le") (two (term_text t) (term_text u))
  formula_text (formulas.Forall s a) = form (codes "forall") (two (Atom (sort_word s)) (formula_text a))
  formula_text (formulas.Exists s a) = form (codes "exists") (two (Atom (sort_word s)) (formula_text a))
  formula_text (formulas.Updated u a) = form (codes "upd") (two (Brackets (pairs_text u)) (formula_text a))
  formula_text (formulas.Modal m ss a) = form (modality_word m) (two (code_text ss) (formula_text a))
  formula_text (formulas.InLocations o f l) = form (codes "in") (three (term_text o) (term_text f) (loc_text l))
  formula_text (formulas.InInt t) = form (codes "inInt") (one (term_text t))
  formula_text (formulas.WellFormed h) = form (codes "wf") (one (term_text h))
  formula_text (formulas.Invariant h o) = form (codes "inv") (two (term_text h) (term_text o))
  formula_text (formulas.IsInstance k o) = form (codes "inst") (two (Atom (kind_word k)) (term_text o))
  formula_text (formulas.IsExactInstance k o) = form (codes "exact") (two (Atom (kind_word k)) (term_text o))
