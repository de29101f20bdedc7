-- Trees that the grammar spells, said part by part: each part is known and has the sort of its place, and an index has the sort of the
-- binder that it names. Of an instance of a pattern it computes to the same about what its variables stand for.
use Rattle.std.specs.Prelude.{List, Some, [], ◌<◌, ◌∷◌, ◌≡◌, ◌≢◌, true, ℕ}
use Rattle.jd_base.specs.declared.sort.Sort.{Sort}
use Rattle.jd_base.specs.declared.sort.Sort.TheVariants.{Field as FieldSort, Heap as HeapSort, Int as IntSort, Ref as RefSort}
use Rattle.jd_term.specs.Formulas as formulas
use Rattle.jd_term.specs.Formulas.{Pairs, PlainFormula}
use Rattle.jd_term.specs.Maps.{EachLeaf, EachLeafOfFormula, EachLeafOfLoc, EachLeafOfPairs}
use Rattle.jd_term.specs.Terms as terms
use Rattle.jd_term.specs.Terms.{PlainLoc, PlainTerm, sort_of_term}
use Rattle.jd_tforms.specs.Heads.{is_selected}
use Rattle.jd_tforms.specs.Known.{CodeKnown, FormulaKnown, IsKind, IsVariable, TermKnown}
use Rattle.jd_tforms.specs.Naming.{at_number, sort_of_word}
use Rattle.jd_tforms.specs.Sorted.{Free, code_sorted, formula_sorted}
use Rattle.jd_tgrammar.specs.NameTables.{NameTable}
use Rattle.jd_tgrammar.specs.Words.{sort_word}

-- a part of this sort, of which this is said
abbrev pub AtSort : Sort → PlainTerm → Type 0 → Type 0
AtSort s t P = (sort_of_term t ≡ s) × P

module _ (names : NameTable) where
  -- ---- under binders of these sorts, the innermost first

  -- a number, variable, constant or field is known by its word, whatever the binders are
  abbrev mutual
    pub SpelledTerm : List Sort → PlainTerm → Type 0
    SpelledTerm ctx (terms.Number z) = TermKnown names [] (terms.Number z)
    SpelledTerm ctx (terms.Boolean b) = Unit {0}
    SpelledTerm ctx terms.NullTerm = Unit {0}
    SpelledTerm ctx (terms.ProgramVariable x) = TermKnown names [] (terms.ProgramVariable x)
    SpelledTerm ctx (terms.Constant c) = TermKnown names [] (terms.Constant c)
    SpelledTerm ctx (terms.Bound k s) = at_number ctx k ≡ Some s
    SpelledTerm ctx (terms.Arithmetic op t u) = AtSort IntSort t (SpelledTerm ctx t) × AtSort IntSort u (SpelledTerm ctx u)
    SpelledTerm ctx (terms.Negation t) = AtSort IntSort t (SpelledTerm ctx t)
    SpelledTerm ctx (terms.Wrap t) = AtSort IntSort t (SpelledTerm ctx t)
    SpelledTerm ctx (terms.Length o) = AtSort RefSort o (SpelledTerm ctx o)
    SpelledTerm ctx (terms.Select s h o f) = (is_selected s ≡ true) × AtSort HeapSort h (SpelledTerm ctx h) × AtSort RefSort o (SpelledTerm ctx o) × AtSort FieldSort f (SpelledTerm ctx f)
    SpelledTerm ctx (terms.Sum t u v) = AtSort IntSort t (SpelledTerm ctx t) × AtSort IntSort u (SpelledTerm ctx u) × AtSort IntSort v (SpelledTerm (IntSort ∷ ctx) v)
    -- what is stored has any sort
    SpelledTerm ctx (terms.Store h o f t) = AtSort HeapSort h (SpelledTerm ctx h) × AtSort RefSort o (SpelledTerm ctx o) × AtSort FieldSort f (SpelledTerm ctx f) × SpelledTerm ctx t
    SpelledTerm ctx (terms.Create h o) = AtSort HeapSort h (SpelledTerm ctx h) × AtSort RefSort o (SpelledTerm ctx o)
    SpelledTerm ctx (terms.Anon h l g) = AtSort HeapSort h (SpelledTerm ctx h) × SpelledLoc ctx l × AtSort HeapSort g (SpelledTerm ctx g)
    SpelledTerm ctx (terms.NamedField f) = TermKnown names [] (terms.NamedField f)
    SpelledTerm ctx terms.CreatedField = Unit {0}
    SpelledTerm ctx (terms.ElementField t) = AtSort IntSort t (SpelledTerm ctx t)

    pub SpelledLoc : List Sort → PlainLoc → Type 0
    SpelledLoc ctx terms.NoLocations = Unit {0}
    SpelledLoc ctx terms.AllLocations = Unit {0}
    SpelledLoc ctx (terms.Single o f) = AtSort RefSort o (SpelledTerm ctx o) × AtSort FieldSort f (SpelledTerm ctx f)
    SpelledLoc ctx (terms.ObjectFields o) = AtSort RefSort o (SpelledTerm ctx o)
    SpelledLoc ctx (terms.ArrayElements o) = AtSort RefSort o (SpelledTerm ctx o)
    SpelledLoc ctx (terms.ElementRange o t u) = AtSort RefSort o (SpelledTerm ctx o) × AtSort IntSort t (SpelledTerm ctx t) × AtSort IntSort u (SpelledTerm ctx u)
    SpelledLoc ctx (terms.Union l m) = SpelledLoc ctx l × SpelledLoc ctx m

  abbrev pub SpelledPairs : List Sort → Pairs → Type 0
  SpelledPairs ctx [] = Unit {0}
  SpelledPairs ctx (p ∷ ps) = (IsVariable names p.0 × AtSort p.0.sort p.1 (SpelledTerm ctx p.1)) × SpelledPairs ctx ps

  -- code is as it is known and sorted by itself
  abbrev pub SpelledFormula : List Sort → PlainFormula → Type 0
  SpelledFormula ctx formulas.TrueFormula = Unit {0}
  SpelledFormula ctx formulas.FalseFormula = Unit {0}
  SpelledFormula ctx (formulas.Not a) = SpelledFormula ctx a
  SpelledFormula ctx (formulas.And a b) = SpelledFormula ctx a × SpelledFormula ctx b
  SpelledFormula ctx (formulas.Or a b) = SpelledFormula ctx a × SpelledFormula ctx b
  SpelledFormula ctx (formulas.Implies a b) = SpelledFormula ctx a × SpelledFormula ctx b
  SpelledFormula ctx (formulas.Iff a b) = SpelledFormula ctx a × SpelledFormula ctx b
  SpelledFormula ctx (formulas.Equal t u) = (sort_of_term t ≡ sort_of_term u) × SpelledTerm ctx t × SpelledTerm ctx u
  SpelledFormula ctx (formulas.Less t u) = AtSort IntSort t (SpelledTerm ctx t) × AtSort IntSort u (SpelledTerm ctx u)
  SpelledFormula ctx (formulas.LessOrEqual t u) = AtSort IntSort t (SpelledTerm ctx t) × AtSort IntSort u (SpelledTerm ctx u)
  SpelledFormula ctx (formulas.Forall s a) = (sort_of_word (sort_word s) ≡ Some s) × SpelledFormula (s ∷ ctx) a
  SpelledFormula ctx (formulas.Exists s a) = (sort_of_word (sort_word s) ≡ Some s) × SpelledFormula (s ∷ ctx) a
  SpelledFormula ctx (formulas.Updated ps a) = (ps ≢ []) × SpelledPairs ctx ps × SpelledFormula ctx a
  SpelledFormula ctx (formulas.Modal m ss a) = CodeKnown names ss × (code_sorted names Free ss ≡ true) × SpelledFormula ctx a
  SpelledFormula ctx (formulas.InLocations o f l) = AtSort RefSort o (SpelledTerm ctx o) × AtSort FieldSort f (SpelledTerm ctx f) × SpelledLoc ctx l
  SpelledFormula ctx (formulas.InInt t) = AtSort IntSort t (SpelledTerm ctx t)
  SpelledFormula ctx (formulas.WellFormed h) = AtSort HeapSort h (SpelledTerm ctx h)
  SpelledFormula ctx (formulas.Invariant h o) = AtSort HeapSort h (SpelledTerm ctx h) × AtSort RefSort o (SpelledTerm ctx o)
  SpelledFormula ctx (formulas.IsInstance k o) = IsKind names k × AtSort RefSort o (SpelledTerm ctx o)
  SpelledFormula ctx (formulas.IsExactInstance k o) = IsKind names k × AtSort RefSort o (SpelledTerm ctx o)

  -- the grammar spells the formula: what rules take
  abbrev pub IsSpelled : PlainFormula → Type 0
  IsSpelled a = FormulaKnown names [] a × (formula_sorted names a ≡ true)

-- ---- indices of at most nine digits, as words have

abbrev pub NarrowLeaf : ℕ → PlainTerm → Type 0
NarrowLeaf n (terms.Bound k s) = k < 1000000000
NarrowLeaf n t = Unit {0}

abbrev pub NarrowTerm : PlainTerm → Type 0
NarrowTerm t = EachLeaf (λ n. n) NarrowLeaf 0 t

abbrev pub NarrowLoc : PlainLoc → Type 0
NarrowLoc l = EachLeafOfLoc (λ n. n) NarrowLeaf 0 l

abbrev pub NarrowPairs : Pairs → Type 0
NarrowPairs ps = EachLeafOfPairs (λ n. n) NarrowLeaf 0 ps

abbrev pub NarrowFormula : PlainFormula → Type 0
NarrowFormula a = EachLeafOfFormula (λ n. n) NarrowLeaf 0 a
