-- The forms of terms, location sets, formulas and code: what stands in the brackets of each.
use Rattle.std.specs.Prelude.{ℕ, List, [], ◌∷◌, Option, Some, None, codes}

-- what stands at a place
pub data Place : Type 0 where
  TermPlace : Place
  LocPlace : Place
  FormulaPlace : Place
  ExprPlace : Place
  StmtPlace : Place
  -- a list of statements
  CodePlace : Place
  -- the pairs of an update, and one of them
  PairsPlace : Place
  PairPlace : Place
  -- `(arr X)`, the array that an allocation makes
  ArrayPlace : Place
  -- the sort of a quantified variable
  SortPlace : Place
  -- a class or `int[]`
  KindPlace : Place
  -- the name of a class, field, method or variable
  NamePlace : Place
  -- the variable that takes a result, or `-`
  ResultPlace : Place
  -- the number of a loop, which may be 0, and a label
  LoopPlace : Place
  LabelPlace : Place
  -- this word
  WordPlace : List ℕ → Place

-- the parts in brackets, and what may follow them, as often as one likes
pub record Form : Type 0 where
  pub parts : List Place
  pub rest : Option Place

abbrev pub parts : List Place → Form
parts ps = record { parts = ps; rest = None }

-- a word and the parts behind it
abbrev pub row : List ℕ → List Place → Form
row w ps = record { parts = WordPlace w ∷ ps; rest = None }

-- the same with operands behind them
abbrev pub call : List ℕ → List Place → Form
call w ps = record { parts = WordPlace w ∷ ps; rest = Some ExprPlace }

abbrev pub term_forms : List Form
term_forms =
    row (codes "add") (TermPlace ∷ TermPlace ∷ [])
    ∷ row (codes "sub") (TermPlace ∷ TermPlace ∷ [])
    ∷ row (codes "mul") (TermPlace ∷ TermPlace ∷ [])
    ∷ row (codes "div") (TermPlace ∷ TermPlace ∷ [])
    ∷ row (codes "mod") (TermPlace ∷ TermPlace ∷ [])
    ∷ row (codes "neg") (TermPlace ∷ [])
    ∷ row (codes "wrap") (TermPlace ∷ [])
    ∷ row (codes "len") (TermPlace ∷ [])
    ∷ row (codes "selI") (TermPlace ∷ TermPlace ∷ TermPlace ∷ [])
    ∷ row (codes "selB") (TermPlace ∷ TermPlace ∷ TermPlace ∷ [])
    ∷ row (codes "selR") (TermPlace ∷ TermPlace ∷ TermPlace ∷ [])
    ∷ row (codes "bsum") (TermPlace ∷ TermPlace ∷ TermPlace ∷ [])
    ∷ row (codes "store") (TermPlace ∷ TermPlace ∷ TermPlace ∷ TermPlace ∷ [])
    ∷ row (codes "create") (TermPlace ∷ TermPlace ∷ [])
    ∷ row (codes "anon") (TermPlace ∷ LocPlace ∷ TermPlace ∷ [])
    ∷ row (codes "idx") (TermPlace ∷ [])
    ∷ []

abbrev pub loc_forms : List Form
loc_forms =
    row (codes "loc") (TermPlace ∷ TermPlace ∷ [])
    ∷ row (codes "obj") (TermPlace ∷ [])
    ∷ row (codes "arrall") (TermPlace ∷ [])
    ∷ row (codes "arr") (TermPlace ∷ TermPlace ∷ TermPlace ∷ [])
    ∷ row (codes "union") (LocPlace ∷ LocPlace ∷ [])
    ∷ []

abbrev pub formula_forms : List Form
formula_forms =
    row (codes "not") (FormulaPlace ∷ [])
    ∷ row (codes "and") (FormulaPlace ∷ FormulaPlace ∷ [])
    ∷ row (codes "or") (FormulaPlace ∷ FormulaPlace ∷ [])
    ∷ row (codes "imp") (FormulaPlace ∷ FormulaPlace ∷ [])
    ∷ row (codes "iff") (FormulaPlace ∷ FormulaPlace ∷ [])
    ∷ row (codes "eq") (TermPlace ∷ TermPlace ∷ [])
    ∷ row (codes "lt") (TermPlace ∷ TermPlace ∷ [])
    ∷ row (codes "le") (TermPlace ∷ TermPlace ∷ [])
    ∷ row (codes "forall") (SortPlace ∷ FormulaPlace ∷ [])
    ∷ row (codes "exists") (SortPlace ∷ FormulaPlace ∷ [])
    ∷ row (codes "upd") (PairsPlace ∷ FormulaPlace ∷ [])
    ∷ row (codes "box") (CodePlace ∷ FormulaPlace ∷ [])
    ∷ row (codes "dia") (CodePlace ∷ FormulaPlace ∷ [])
    ∷ row (codes "in") (TermPlace ∷ TermPlace ∷ LocPlace ∷ [])
    ∷ row (codes "inInt") (TermPlace ∷ [])
    ∷ row (codes "wf") (TermPlace ∷ [])
    ∷ row (codes "inv") (TermPlace ∷ TermPlace ∷ [])
    ∷ row (codes "inst") (KindPlace ∷ TermPlace ∷ [])
    ∷ row (codes "exact") (KindPlace ∷ TermPlace ∷ [])
    ∷ []

abbrev pub expr_forms : List Form
expr_forms =
    row (codes "neg") (ExprPlace ∷ [])
    ∷ row (codes "not") (ExprPlace ∷ [])
    ∷ row (codes "add") (ExprPlace ∷ ExprPlace ∷ [])
    ∷ row (codes "sub") (ExprPlace ∷ ExprPlace ∷ [])
    ∷ row (codes "mul") (ExprPlace ∷ ExprPlace ∷ [])
    ∷ row (codes "div") (ExprPlace ∷ ExprPlace ∷ [])
    ∷ row (codes "mod") (ExprPlace ∷ ExprPlace ∷ [])
    ∷ row (codes "lt") (ExprPlace ∷ ExprPlace ∷ [])
    ∷ row (codes "le") (ExprPlace ∷ ExprPlace ∷ [])
    ∷ row (codes "gt") (ExprPlace ∷ ExprPlace ∷ [])
    ∷ row (codes "ge") (ExprPlace ∷ ExprPlace ∷ [])
    ∷ row (codes "eq") (ExprPlace ∷ ExprPlace ∷ [])
    ∷ row (codes "ne") (ExprPlace ∷ ExprPlace ∷ [])
    ∷ row (codes "and") (ExprPlace ∷ ExprPlace ∷ [])
    ∷ row (codes "or") (ExprPlace ∷ ExprPlace ∷ [])
    ∷ row (codes "cond") (ExprPlace ∷ ExprPlace ∷ ExprPlace ∷ [])
    ∷ row (codes "get") (ExprPlace ∷ NamePlace ∷ [])
    ∷ row (codes "aget") (ExprPlace ∷ ExprPlace ∷ [])
    ∷ row (codes "len") (ExprPlace ∷ [])
    ∷ row (codes "cast") (KindPlace ∷ ExprPlace ∷ [])
    ∷ row (codes "inst") (KindPlace ∷ ExprPlace ∷ [])
    ∷ call (codes "call") (NamePlace ∷ ExprPlace ∷ [])
    ∷ call (codes "scall") (NamePlace ∷ [])
    ∷ call (codes "ctor") (NamePlace ∷ ExprPlace ∷ [])
    ∷ row (codes "do") (CodePlace ∷ ExprPlace ∷ [])
    ∷ []

abbrev pub stmt_forms : List Form
stmt_forms =
    row (codes "set") (NamePlace ∷ ExprPlace ∷ [])
    ∷ row (codes "put") (ExprPlace ∷ NamePlace ∷ ExprPlace ∷ [])
    ∷ row (codes "aput") (ExprPlace ∷ ExprPlace ∷ ExprPlace ∷ [])
    ∷ row (codes "eval") (ExprPlace ∷ [])
    ∷ row (codes "if") (ExprPlace ∷ CodePlace ∷ CodePlace ∷ [])
    ∷ row (codes "while") (LoopPlace ∷ ExprPlace ∷ CodePlace ∷ [])
    ∷ row (codes "block") (LabelPlace ∷ CodePlace ∷ [])
    ∷ row (codes "break") (LabelPlace ∷ [])
    ∷ row (codes "catch") (CodePlace ∷ NamePlace ∷ CodePlace ∷ [])
    ∷ row (codes "finally") (CodePlace ∷ CodePlace ∷ [])
    ∷ row (codes "throw") (ExprPlace ∷ [])
    ∷ row (codes "throwx") (ExprPlace ∷ [])
    ∷ row (codes "return") (ExprPlace ∷ [])
    ∷ row (codes "return") []
    ∷ row (codes "frame") (ResultPlace ∷ CodePlace ∷ [])
    ∷ row (codes "raise") (NamePlace ∷ [])
    ∷ row (codes "alloc") (NamePlace ∷ NamePlace ∷ [])
    ∷ row (codes "alloc") (NamePlace ∷ ArrayPlace ∷ [])
    ∷ row (codes "allocarr") (NamePlace ∷ ExprPlace ∷ [])
    ∷ row (codes "stop") []
    ∷ []

-- what may stand in brackets at a place
abbrev pub forms : Place → List Form
forms TermPlace = term_forms
forms LocPlace = loc_forms
forms FormulaPlace = formula_forms
forms ExprPlace = expr_forms
forms StmtPlace = stmt_forms
forms CodePlace = record { parts = []; rest = Some StmtPlace } ∷ []
forms PairsPlace = record { parts = PairPlace ∷ []; rest = Some PairPlace } ∷ []
forms PairPlace = parts (NamePlace ∷ TermPlace ∷ []) ∷ []
forms ArrayPlace = row (codes "arr") (ExprPlace ∷ []) ∷ []
forms _ = []
