-- The trees whose words stand for what is in them: what is written for each name, number and variable names it, and what
-- is bound has a binder around it.
use Rattle.std.specs.Prelude.{◌≡◌, ◌≢◌, ℕ, List, [], ◌∷◌, true, Some}
use Rattle.jd_base.specs.declared.sort.Sort.{Sort}
use Rattle.jd_base.specs.declared.sort.Sort.TheVariants.{Int as IntSort}
use Rattle.jd_syntax.specs.Codes as code
use Rattle.jd_syntax.specs.Codes.{PlainKind, Expr, Exprs, NoExprs, ExprThen, Stmt, PlainCode, Done, Then}
use Rattle.jd_syntax.specs.Names.{Name}
use Rattle.jd_term.specs.Terms as terms
use Rattle.jd_term.specs.Terms.{PlainTerm, PlainLoc}
use Rattle.jd_term.specs.Formulas as formulas
use Rattle.jd_term.specs.Formulas.{PlainFormula, Pairs}
use Rattle.jd_written.specs.Written.{number_text, integer_text}
use Rattle.jd_tgrammar.specs.NameTables.{NameTable}
use Rattle.jd_tgrammar.specs.Spelling.{class_word, field_word, kind_word, method_word, result_word, routine}
use Rattle.jd_tgrammar.specs.Words.{sort_word, bound_word, label_word}
use Rattle.jd_tforms.specs.Heads.{is_selected}
use Rattle.jd_tforms.specs.Shapes.{loop_of, label_of}
use Rattle.jd_tforms.specs.Naming.{class_of, kind_of, field_of, static_of, constructor_of, method_of, variable_of, result_of, sort_of_word, word_term, word_expr}

module _ (names : NameTable) where
  -- ---- terms and location sets, under binders of these sorts

  abbrev mutual
    pub TermKnown : List Sort → PlainTerm → Type 0
    TermKnown ctx (terms.Number z) = word_term names ctx (integer_text z) ≡ Some (terms.Number z)
    TermKnown ctx (terms.Boolean b) = Unit {0}
    TermKnown ctx terms.NullTerm = Unit {0}
    TermKnown ctx (terms.ProgramVariable x) = word_term names ctx x.text ≡ Some (terms.ProgramVariable x)
    TermKnown ctx (terms.Constant c) = word_term names ctx c.text ≡ Some (terms.Constant c)
    TermKnown ctx (terms.Bound k s) = word_term names ctx (bound_word k) ≡ Some (terms.Bound k s)
    TermKnown ctx (terms.Arithmetic op t u) = TermKnown ctx t × TermKnown ctx u
    TermKnown ctx (terms.Negation t) = TermKnown ctx t
    TermKnown ctx (terms.Wrap t) = TermKnown ctx t
    TermKnown ctx (terms.Length o) = TermKnown ctx o
    TermKnown ctx (terms.Select s h o f) = (is_selected s ≡ true) × TermKnown ctx h × TermKnown ctx o × TermKnown ctx f
    TermKnown ctx (terms.Sum t u v) = TermKnown ctx t × TermKnown ctx u × TermKnown (IntSort ∷ ctx) v
    TermKnown ctx (terms.Store h o f t) = TermKnown ctx h × TermKnown ctx o × TermKnown ctx f × TermKnown ctx t
    TermKnown ctx (terms.Create h o) = TermKnown ctx h × TermKnown ctx o
    TermKnown ctx (terms.Anon h l g) = TermKnown ctx h × LocKnown ctx l × TermKnown ctx g
    TermKnown ctx (terms.NamedField f) = word_term names ctx (field_word names f) ≡ Some (terms.NamedField f)
    TermKnown ctx terms.CreatedField = Unit {0}
    TermKnown ctx (terms.ElementField t) = TermKnown ctx t

    pub LocKnown : List Sort → PlainLoc → Type 0
    LocKnown ctx terms.NoLocations = Unit {0}
    LocKnown ctx terms.AllLocations = Unit {0}
    LocKnown ctx (terms.Single o f) = TermKnown ctx o × TermKnown ctx f
    LocKnown ctx (terms.ObjectFields o) = TermKnown ctx o
    LocKnown ctx (terms.ArrayElements o) = TermKnown ctx o
    LocKnown ctx (terms.ElementRange o t u) = TermKnown ctx o × TermKnown ctx t × TermKnown ctx u
    LocKnown ctx (terms.Union l m) = LocKnown ctx l × LocKnown ctx m

  -- ---- code

  abbrev pub IsVariable : Name → Type 0
  IsVariable x = variable_of names x.text ≡ Some x

  abbrev pub IsClass : ℕ → Type 0
  IsClass c = class_of names (class_word names c) ≡ Some c

  abbrev pub IsKind : PlainKind → Type 0
  IsKind k = kind_of names (kind_word names k) ≡ Some k

  abbrev pub IsField : ℕ → Type 0
  IsField f = field_of names (field_word names f) ≡ Some f

  abbrev mutual
    pub ExprKnown : Expr → Type 0
    ExprKnown (code.IntLiteral z) = word_expr names (integer_text z) ≡ Some (code.IntLiteral z)
    ExprKnown (code.BoolLiteral b) = Unit {0}
    ExprKnown code.NullLiteral = Unit {0}
    ExprKnown (code.Variable x) = word_expr names x.text ≡ Some (code.Variable x)
    ExprKnown (code.Unary op e) = ExprKnown e
    ExprKnown (code.Binary op e f) = ExprKnown e × ExprKnown f
    ExprKnown (code.AndAlso e f) = ExprKnown e × ExprKnown f
    ExprKnown (code.OrElse e f) = ExprKnown e × ExprKnown f
    ExprKnown (code.Conditional e f g) = ExprKnown e × ExprKnown f × ExprKnown g
    ExprKnown (code.ReadField e f) = ExprKnown e × IsField f
    ExprKnown (code.ReadElement e f) = ExprKnown e × ExprKnown f
    ExprKnown (code.LengthOf e) = ExprKnown e
    ExprKnown (code.Cast k e) = IsKind k × ExprKnown e
    ExprKnown (code.InstanceOf k e) = IsKind k × ExprKnown e
    ExprKnown (code.VirtualCall c m e es) = (method_of names (method_word names c m) ≡ Some (c, m)) × ExprKnown e × ExprsKnown es
    ExprKnown (code.StaticCall m es) = (static_of names (method_word names (routine names m).class m) ≡ Some m) × ExprsKnown es
    ExprKnown (code.ConstructorCall m e es) = (constructor_of names (class_word names (routine names m).class) ≡ Some m) × ExprKnown e × ExprsKnown es
    ExprKnown (code.DoThen ss e) = CodeKnown ss × ExprKnown e

    pub ExprsKnown : Exprs → Type 0
    ExprsKnown NoExprs = Unit {0}
    ExprsKnown (ExprThen e es) = ExprKnown e × ExprsKnown es

    pub StmtKnown : Stmt → Type 0
    StmtKnown (code.Set x e) = IsVariable x × ExprKnown e
    StmtKnown (code.WriteField e f g) = ExprKnown e × IsField f × ExprKnown g
    StmtKnown (code.WriteElement e f g) = ExprKnown e × ExprKnown f × ExprKnown g
    StmtKnown (code.Evaluate e) = ExprKnown e
    StmtKnown (code.If e ss ts) = ExprKnown e × CodeKnown ss × CodeKnown ts
    StmtKnown (code.While k e ss) = (loop_of (number_text k) ≡ Some k) × ExprKnown e × CodeKnown ss
    StmtKnown (code.Block l ss) = (label_of (label_word l) ≡ Some l) × CodeKnown ss
    StmtKnown (code.Break l) = label_of (label_word l) ≡ Some l
    StmtKnown (code.Catch ss x ts) = CodeKnown ss × IsVariable x × CodeKnown ts
    StmtKnown (code.Finally ss ts) = CodeKnown ss × CodeKnown ts
    StmtKnown (code.Throw e) = ExprKnown e
    StmtKnown (code.ThrowUnchecked e) = ExprKnown e
    StmtKnown (code.Return e) = ExprKnown e
    StmtKnown code.ReturnVoid = Unit {0}
    StmtKnown (code.Frame r ss) = (result_of names (result_word names r) ≡ Some r) × CodeKnown ss
    StmtKnown (code.Raise c) = IsClass c
    StmtKnown (code.AllocObject x c) = IsVariable x × IsClass c
    StmtKnown (code.AllocArray x e) = IsVariable x × ExprKnown e
    StmtKnown (code.NewArray x e) = IsVariable x × ExprKnown e
    StmtKnown code.Stop = Unit {0}

    pub CodeKnown : PlainCode → Type 0
    CodeKnown Done = Unit {0}
    CodeKnown (Then s ss) = StmtKnown s × CodeKnown ss

  -- ---- formulas

  abbrev pub PairsKnown : List Sort → Pairs → Type 0
  PairsKnown ctx [] = Unit {0}
  PairsKnown ctx (p ∷ ps) = (IsVariable p.0 × TermKnown ctx p.1) × PairsKnown ctx ps

  abbrev pub FormulaKnown : List Sort → PlainFormula → Type 0
  FormulaKnown ctx formulas.TrueFormula = Unit {0}
  FormulaKnown ctx formulas.FalseFormula = Unit {0}
  FormulaKnown ctx (formulas.Not a) = FormulaKnown ctx a
  FormulaKnown ctx (formulas.And a b) = FormulaKnown ctx a × FormulaKnown ctx b
  FormulaKnown ctx (formulas.Or a b) = FormulaKnown ctx a × FormulaKnown ctx b
  FormulaKnown ctx (formulas.Implies a b) = FormulaKnown ctx a × FormulaKnown ctx b
  FormulaKnown ctx (formulas.Iff a b) = FormulaKnown ctx a × FormulaKnown ctx b
  FormulaKnown ctx (formulas.Equal t u) = TermKnown ctx t × TermKnown ctx u
  FormulaKnown ctx (formulas.Less t u) = TermKnown ctx t × TermKnown ctx u
  FormulaKnown ctx (formulas.LessOrEqual t u) = TermKnown ctx t × TermKnown ctx u
  FormulaKnown ctx (formulas.Forall s a) = (sort_of_word (sort_word s) ≡ Some s) × FormulaKnown (s ∷ ctx) a
  FormulaKnown ctx (formulas.Exists s a) = (sort_of_word (sort_word s) ≡ Some s) × FormulaKnown (s ∷ ctx) a
  FormulaKnown ctx (formulas.Updated ps a) = (ps ≢ []) × PairsKnown ctx ps × FormulaKnown ctx a
  FormulaKnown ctx (formulas.Modal m ss a) = CodeKnown ss × FormulaKnown ctx a
  FormulaKnown ctx (formulas.InLocations o f l) = TermKnown ctx o × TermKnown ctx f × LocKnown ctx l
  FormulaKnown ctx (formulas.InInt t) = TermKnown ctx t
  FormulaKnown ctx (formulas.WellFormed h) = TermKnown ctx h
  FormulaKnown ctx (formulas.Invariant h o) = TermKnown ctx h × TermKnown ctx o
  FormulaKnown ctx (formulas.IsInstance k o) = IsKind k × TermKnown ctx o
  FormulaKnown ctx (formulas.IsExactInstance k o) = IsKind k × TermKnown ctx o
