-- Reading an expression: what it is at each place, under binders of these sorts, as far as its form and its names go. Nothing
-- is asked of sorts here.
use Rattle.std.specs.Prelude.{ℕ, List, [], ◌∷◌, cond, Option, Some, None, option_map, codes}
use Rattle.std.specs.Option.{option_and_then, option_or}
use Rattle.std.specs.Str.{bytes_eq}
use Rattle.jd_base.specs.declared.sort.Sort.{Sort}
use Rattle.jd_base.specs.declared.sort.Sort.TheVariants.{Int as IntSort}
use Rattle.jd_syntax.specs.Names.{Name}
use Rattle.jd_syntax.specs.Sxs.{Bracketed, BracketedList, Atom, Brackets, NoneBracketed, BracketedThen}
use Rattle.jd_syntax.specs.Codes as code
use Rattle.jd_syntax.specs.Codes.{Expr, Exprs, NoExprs, ExprThen, Stmt, PlainCode, Done, Then}
use Rattle.jd_term.specs.Terms as terms
use Rattle.jd_term.specs.Terms.{PlainTerm, PlainLoc}
use Rattle.jd_term.specs.Formulas as formulas
use Rattle.jd_term.specs.Formulas.{PlainFormula, Pairs}
use Rattle.jd_tgrammar.specs.NameTables.{NameTable}
use Rattle.jd_tforms.specs.declared.heads.TermHead.{TermHead}
use Rattle.jd_tforms.specs.declared.heads.TermHead.TheVariants as term_kinds
use Rattle.jd_tforms.specs.declared.heads.LocHead.{LocHead}
use Rattle.jd_tforms.specs.declared.heads.LocHead.TheVariants as loc_kinds
use Rattle.jd_tforms.specs.declared.heads.FormulaHead.{FormulaHead}
use Rattle.jd_tforms.specs.declared.heads.FormulaHead.TheVariants as formula_kinds
use Rattle.jd_tforms.specs.declared.heads.ExprHead.{ExprHead}
use Rattle.jd_tforms.specs.declared.heads.ExprHead.TheVariants as expr_kinds
use Rattle.jd_tforms.specs.declared.heads.StmtHead.{StmtHead}
use Rattle.jd_tforms.specs.declared.heads.StmtHead.TheVariants as stmt_kinds
use Rattle.jd_tforms.specs.Heads.{is_selected, head_of, term_word, term_heads, loc_word, loc_heads, formula_word, formula_heads, expr_word, expr_heads, stmt_word, stmt_heads}
use Rattle.jd_tforms.specs.Naming.{class_of, kind_of, field_of, static_of, constructor_of, method_of, variable_of, result_of, sort_of_word, truth_of, word_term, word_expr, word_loc}
use Rattle.jd_tforms.specs.Shapes.{loop_of, label_of}

-- what an expression is at each place, if it is something there
pub record Read : Type 0 where
  pub word : Option (List ℕ)
  pub term : List Sort → Option PlainTerm
  pub loc : List Sort → Option PlainLoc
  pub formula : List Sort → Option PlainFormula
  pub pair : List Sort → Option (Name × PlainTerm)
  pub pairs : List Sort → Option Pairs
  pub expr : Option Expr
  pub stmt : Option Stmt
  pub code : Option PlainCode
  -- the length in `(arr X)`
  pub array : Option Expr

abbrev pub both : {A B C : Type 0} → (A → B → C) → Option A → Option B → Option C
both f a b = option_and_then (λ x. option_map (f x) b) a

abbrev pub three : {A B C D : Type 0} → (A → B → C → D) → Option A → Option B → Option C → Option D
three f a b c = option_and_then (λ x. both (f x) b c) a

abbrev pub four : {A B C D E : Type 0} → (A → B → C → D → E) → Option A → Option B → Option C → Option D → Option E
four f a b c d = option_and_then (λ x. three (f x) b c d) a

-- so many parts, or that many and more
abbrev pub with_none : {T : Type 0} → Option T → List Read → Option T
with_none t [] = t
with_none t (a ∷ rs) = None

abbrev pub with_one : {T : Type 0} → (Read → Option T) → List Read → Option T
with_one f (a ∷ []) = f a
with_one f _ = None

abbrev pub with_two : {T : Type 0} → (Read → Read → Option T) → List Read → Option T
with_two f (a ∷ b ∷ []) = f a b
with_two f _ = None

abbrev pub with_three : {T : Type 0} → (Read → Read → Read → Option T) → List Read → Option T
with_three f (a ∷ b ∷ c ∷ []) = f a b c
with_three f _ = None

abbrev pub with_four : {T : Type 0} → (Read → Read → Read → Read → Option T) → List Read → Option T
with_four f (a ∷ b ∷ c ∷ d ∷ []) = f a b c d
with_four f _ = None

abbrev pub behind_one : {T : Type 0} → (Read → List Read → Option T) → List Read → Option T
behind_one f (a ∷ rs) = f a rs
behind_one f [] = None

abbrev pub behind_two : {T : Type 0} → (Read → Read → List Read → Option T) → List Read → Option T
behind_two f (a ∷ b ∷ rs) = f a b rs
behind_two f _ = None

-- a word that stands for something
abbrev pub wording : {A : Type 0} → (List ℕ → Option A) → Read → Option A
wording meaning r = option_and_then meaning r.word

-- the first of what stands in brackets, where it is one of these heads
abbrev pub heading : {H : Type 0} → (H → List ℕ) → List H → Read → Option H
heading word hs r = wording (head_of word hs) r

abbrev pub truth_formula : List ℕ → Option PlainFormula
truth_formula w = option_map (λ b. cond b formulas.TrueFormula formulas.FalseFormula) (truth_of w)

module _ (names : NameTable) where
  abbrev pub variable : Read → Option Name
  variable = wording (variable_of names)

  -- ---- behind each head

  abbrev pub term_of : List Sort → Option TermHead → List Read → Option PlainTerm
  term_of ctx (Some (term_kinds.Arithmetic op)) rs = with_two (λ (a : Read) (b : Read). both (terms.Arithmetic op) (a.term ctx) (b.term ctx)) rs
  term_of ctx (Some term_kinds.Negation) rs = with_one (λ (a : Read). option_map terms.Negation (a.term ctx)) rs
  term_of ctx (Some term_kinds.Wrap) rs = with_one (λ (a : Read). option_map terms.Wrap (a.term ctx)) rs
  term_of ctx (Some term_kinds.Length) rs = with_one (λ (a : Read). option_map terms.Length (a.term ctx)) rs
  term_of ctx (Some (term_kinds.Select s)) rs = cond (is_selected s) (with_three (λ (a : Read) (b : Read) (c : Read). three (terms.Select s) (a.term ctx) (b.term ctx) (c.term ctx)) rs) None
  term_of ctx (Some term_kinds.Sum) rs = with_three (λ (a : Read) (b : Read) (c : Read). three terms.Sum (a.term ctx) (b.term ctx) (c.term (IntSort ∷ ctx))) rs
  term_of ctx (Some term_kinds.Store) rs = with_four (λ (a : Read) (b : Read) (c : Read) (d : Read). four terms.Store (a.term ctx) (b.term ctx) (c.term ctx) (d.term ctx)) rs
  term_of ctx (Some term_kinds.Create) rs = with_two (λ (a : Read) (b : Read). both terms.Create (a.term ctx) (b.term ctx)) rs
  term_of ctx (Some term_kinds.Anon) rs = with_three (λ (a : Read) (b : Read) (c : Read). three terms.Anon (a.term ctx) (b.loc ctx) (c.term ctx)) rs
  term_of ctx (Some term_kinds.Element) rs = with_one (λ (a : Read). option_map terms.ElementField (a.term ctx)) rs
  term_of ctx None rs = None

  abbrev pub loc_of : List Sort → Option LocHead → List Read → Option PlainLoc
  loc_of ctx (Some loc_kinds.Single) rs = with_two (λ (a : Read) (b : Read). both terms.Single (a.term ctx) (b.term ctx)) rs
  loc_of ctx (Some loc_kinds.Object) rs = with_one (λ (a : Read). option_map terms.ObjectFields (a.term ctx)) rs
  loc_of ctx (Some loc_kinds.Elements) rs = with_one (λ (a : Read). option_map terms.ArrayElements (a.term ctx)) rs
  loc_of ctx (Some loc_kinds.Range) rs = with_three (λ (a : Read) (b : Read) (c : Read). three terms.ElementRange (a.term ctx) (b.term ctx) (c.term ctx)) rs
  loc_of ctx (Some loc_kinds.Union) rs = with_two (λ (a : Read) (b : Read). both terms.Union (a.loc ctx) (b.loc ctx)) rs
  loc_of ctx None rs = None

  -- the formula behind the sort of its binder
  abbrev pub under : (Sort → PlainFormula → PlainFormula) → List Sort → Read → Read → Option PlainFormula
  under f ctx a b = option_and_then (λ s. option_map (f s) (b.formula (s ∷ ctx))) (wording sort_of_word a)

  abbrev pub formula_of : List Sort → Option FormulaHead → List Read → Option PlainFormula
  formula_of ctx (Some formula_kinds.Not) rs = with_one (λ (a : Read). option_map formulas.Not (a.formula ctx)) rs
  formula_of ctx (Some formula_kinds.And) rs = with_two (λ (a : Read) (b : Read). both formulas.And (a.formula ctx) (b.formula ctx)) rs
  formula_of ctx (Some formula_kinds.Or) rs = with_two (λ (a : Read) (b : Read). both formulas.Or (a.formula ctx) (b.formula ctx)) rs
  formula_of ctx (Some formula_kinds.Implies) rs = with_two (λ (a : Read) (b : Read). both formulas.Implies (a.formula ctx) (b.formula ctx)) rs
  formula_of ctx (Some formula_kinds.Iff) rs = with_two (λ (a : Read) (b : Read). both formulas.Iff (a.formula ctx) (b.formula ctx)) rs
  formula_of ctx (Some formula_kinds.Equal) rs = with_two (λ (a : Read) (b : Read). both formulas.Equal (a.term ctx) (b.term ctx)) rs
  formula_of ctx (Some formula_kinds.Less) rs = with_two (λ (a : Read) (b : Read). both formulas.Less (a.term ctx) (b.term ctx)) rs
  formula_of ctx (Some formula_kinds.LessOrEqual) rs = with_two (λ (a : Read) (b : Read). both formulas.LessOrEqual (a.term ctx) (b.term ctx)) rs
  formula_of ctx (Some formula_kinds.Forall) rs = with_two (λ (a : Read) (b : Read). under formulas.Forall ctx a b) rs
  formula_of ctx (Some formula_kinds.Exists) rs = with_two (λ (a : Read) (b : Read). under formulas.Exists ctx a b) rs
  formula_of ctx (Some formula_kinds.Updated) rs = with_two (λ (a : Read) (b : Read). both formulas.Updated (a.pairs ctx) (b.formula ctx)) rs
  formula_of ctx (Some (formula_kinds.Modal m)) rs = with_two (λ (a : Read) (b : Read). both (formulas.Modal m) a.code (b.formula ctx)) rs
  formula_of ctx (Some formula_kinds.In) rs = with_three (λ (a : Read) (b : Read) (c : Read). three formulas.InLocations (a.term ctx) (b.term ctx) (c.loc ctx)) rs
  formula_of ctx (Some formula_kinds.InInt) rs = with_one (λ (a : Read). option_map formulas.InInt (a.term ctx)) rs
  formula_of ctx (Some formula_kinds.WellFormed) rs = with_one (λ (a : Read). option_map formulas.WellFormed (a.term ctx)) rs
  formula_of ctx (Some formula_kinds.Invariant) rs = with_two (λ (a : Read) (b : Read). both formulas.Invariant (a.term ctx) (b.term ctx)) rs
  formula_of ctx (Some formula_kinds.Instance) rs = with_two (λ (a : Read) (b : Read). both formulas.IsInstance (wording (kind_of names) a) (b.term ctx)) rs
  formula_of ctx (Some formula_kinds.Exact) rs = with_two (λ (a : Read) (b : Read). both formulas.IsExactInstance (wording (kind_of names) a) (b.term ctx)) rs
  formula_of ctx None rs = None

  abbrev pub operands : List Read → Option Exprs
  operands [] = Some NoExprs
  operands (r ∷ rs) = both ExprThen r.expr (operands rs)

  abbrev pub virtual_call : ℕ × ℕ → Expr → Exprs → Expr
  virtual_call cm e es = code.VirtualCall cm.0 cm.1 e es

  abbrev pub expr_of : Option ExprHead → List Read → Option Expr
  expr_of (Some (expr_kinds.Unary op)) rs = with_one (λ (a : Read). option_map (code.Unary op) a.expr) rs
  expr_of (Some (expr_kinds.Binary op)) rs = with_two (λ (a : Read) (b : Read). both (code.Binary op) a.expr b.expr) rs
  expr_of (Some expr_kinds.AndAlso) rs = with_two (λ (a : Read) (b : Read). both code.AndAlso a.expr b.expr) rs
  expr_of (Some expr_kinds.OrElse) rs = with_two (λ (a : Read) (b : Read). both code.OrElse a.expr b.expr) rs
  expr_of (Some expr_kinds.Conditional) rs = with_three (λ (a : Read) (b : Read) (c : Read). three code.Conditional a.expr b.expr c.expr) rs
  expr_of (Some expr_kinds.ReadField) rs = with_two (λ (a : Read) (b : Read). both code.ReadField a.expr (wording (field_of names) b)) rs
  expr_of (Some expr_kinds.ReadElement) rs = with_two (λ (a : Read) (b : Read). both code.ReadElement a.expr b.expr) rs
  expr_of (Some expr_kinds.LengthOf) rs = with_one (λ (a : Read). option_map code.LengthOf a.expr) rs
  expr_of (Some expr_kinds.Cast) rs = with_two (λ (a : Read) (b : Read). both code.Cast (wording (kind_of names) a) b.expr) rs
  expr_of (Some expr_kinds.InstanceOf) rs = with_two (λ (a : Read) (b : Read). both code.InstanceOf (wording (kind_of names) a) b.expr) rs
  expr_of (Some expr_kinds.VirtualCall) rs = behind_two (λ (a : Read) (b : Read) (rs : List Read). three virtual_call (wording (method_of names) a) b.expr (operands rs)) rs
  expr_of (Some expr_kinds.StaticCall) rs = behind_one (λ (a : Read) (rs : List Read). both code.StaticCall (wording (static_of names) a) (operands rs)) rs
  expr_of (Some expr_kinds.ConstructorCall) rs = behind_two (λ (a : Read) (b : Read) (rs : List Read). three code.ConstructorCall (wording (constructor_of names) a) b.expr (operands rs)) rs
  expr_of (Some expr_kinds.DoThen) rs = with_two (λ (a : Read) (b : Read). both code.DoThen a.code b.expr) rs
  expr_of None rs = None

  abbrev pub stmt_of : Option StmtHead → List Read → Option Stmt
  stmt_of (Some stmt_kinds.Set) rs = with_two (λ (a : Read) (b : Read). both code.Set (variable a) b.expr) rs
  stmt_of (Some stmt_kinds.WriteField) rs = with_three (λ (a : Read) (b : Read) (c : Read). three code.WriteField a.expr (wording (field_of names) b) c.expr) rs
  stmt_of (Some stmt_kinds.WriteElement) rs = with_three (λ (a : Read) (b : Read) (c : Read). three code.WriteElement a.expr b.expr c.expr) rs
  stmt_of (Some stmt_kinds.Evaluate) rs = with_one (λ (a : Read). option_map code.Evaluate a.expr) rs
  stmt_of (Some stmt_kinds.If) rs = with_three (λ (a : Read) (b : Read) (c : Read). three code.If a.expr b.code c.code) rs
  stmt_of (Some stmt_kinds.While) rs = with_three (λ (a : Read) (b : Read) (c : Read). three code.While (wording loop_of a) b.expr c.code) rs
  stmt_of (Some stmt_kinds.Block) rs = with_two (λ (a : Read) (b : Read). both code.Block (wording label_of a) b.code) rs
  stmt_of (Some stmt_kinds.Break) rs = with_one (λ (a : Read). option_map code.Break (wording label_of a)) rs
  stmt_of (Some stmt_kinds.Catch) rs = with_three (λ (a : Read) (b : Read) (c : Read). three code.Catch a.code (variable b) c.code) rs
  stmt_of (Some stmt_kinds.Finally) rs = with_two (λ (a : Read) (b : Read). both code.Finally a.code b.code) rs
  stmt_of (Some stmt_kinds.Throw) rs = with_one (λ (a : Read). option_map code.Throw a.expr) rs
  stmt_of (Some stmt_kinds.ThrowUnchecked) rs = with_one (λ (a : Read). option_map code.ThrowUnchecked a.expr) rs
  stmt_of (Some stmt_kinds.Return) rs = option_or (with_one (λ a. option_map code.Return a.expr) rs) (with_none (Some code.ReturnVoid) rs)
  stmt_of (Some stmt_kinds.Frame) rs = with_two (λ (a : Read) (b : Read). both code.Frame (wording (result_of names) a) b.code) rs
  stmt_of (Some stmt_kinds.Raise) rs = with_one (λ (a : Read). option_map code.Raise (wording (class_of names) a)) rs
  stmt_of (Some stmt_kinds.Alloc) rs = with_two (λ (a : Read) (b : Read). option_or (both code.AllocObject (variable a) (wording (class_of names) b)) (both code.AllocArray (variable a) b.array)) rs
  stmt_of (Some stmt_kinds.NewArray) rs = with_two (λ (a : Read) (b : Read). both code.NewArray (variable a) b.expr) rs
  stmt_of (Some stmt_kinds.Stop) rs = with_none (Some code.Stop) rs
  stmt_of None rs = None

  -- ---- what stands in brackets

  abbrev pub behind : {H T : Type 0} → (H → List ℕ) → List H → (Option H → List Read → Option T) → List Read → Option T
  behind word hs go [] = None
  behind word hs go (r ∷ rs) = go (heading word hs r) rs

  abbrev pub statements : List Read → Option PlainCode
  statements [] = Some Done
  statements (r ∷ rs) = both Then r.stmt (statements rs)

  abbrev pub pair_of : List Sort → List Read → Option (Name × PlainTerm)
  pair_of ctx rs = with_two (λ (a : Read) (b : Read). both (λ x t. (x, t)) (variable a) (b.term ctx)) rs

  abbrev pub all_pairs : List Sort → List Read → Option Pairs
  all_pairs ctx [] = Some []
  all_pairs ctx (r ∷ rs) = both (λ p ps. p ∷ ps) (r.pair ctx) (all_pairs ctx rs)

  -- there is one at least
  abbrev pub pairs_of : List Sort → List Read → Option Pairs
  pairs_of ctx [] = None
  pairs_of ctx (r ∷ rs) = all_pairs ctx (r ∷ rs)

  abbrev pub array_of : List Read → Option Expr
  array_of rs = with_two (λ (a : Read) (b : Read). option_and_then (λ w. cond (bytes_eq (codes "arr") w) b.expr None) a.word) rs

  -- ---- expressions

  abbrev pub read_word : List ℕ → Read
  read_word w = record {
    word = Some w;
    term = λ ctx. word_term names ctx w;
    loc = λ ctx. word_loc w;
    formula = λ ctx. truth_formula w;
    pair = λ ctx. None;
    pairs = λ ctx. None;
    expr = word_expr names w;
    stmt = None;
    code = None;
    array = None;
  }

  abbrev pub read_brackets : List Read → Read
  read_brackets rs = record {
    word = None;
    term = λ ctx. behind term_word term_heads (term_of ctx) rs;
    loc = λ ctx. behind loc_word loc_heads (loc_of ctx) rs;
    formula = λ ctx. behind formula_word formula_heads (formula_of ctx) rs;
    pair = λ ctx. pair_of ctx rs;
    pairs = λ ctx. pairs_of ctx rs;
    expr = behind expr_word expr_heads expr_of rs;
    stmt = behind stmt_word stmt_heads stmt_of rs;
    code = statements rs;
    array = array_of rs;
  }

  abbrev mutual
    pub read : Bracketed → Read
    read (Atom w) = read_word w
    read (Brackets xs) = read_brackets (reads xs)

    pub reads : BracketedList → List Read
    reads NoneBracketed = []
    reads (BracketedThen x xs) = read x ∷ reads xs
