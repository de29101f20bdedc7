-- What is known and sorted is spelled part by part, and what is spelled so is closed, can be put and lifted, and stays so at its places.
use Rattle.std.specs.Prelude.{List, Some, [], length, ◌++◌, ◌∷◌, ◌≡◌, ◌≤◌, ℕ, ℤ, true}
use Rattle.jd_base.specs.declared.sort.Sort.{Sort}
use Rattle.jd_model.specs.Closed.{Below, BelowIn, BelowLoc}
use Rattle.jd_model.specs.Places.{FormulaPart, TermPart, at_place}
use Rattle.jd_model.specs.Sequents.{PlainPlace, PlainSequent}
use Rattle.jd_spelled_trees.specs.Places.{IsSpelledAt, IsSpelledSequent, IsTermSpelledAt, NarrowSequent, SpelledSequent}
use Rattle.jd_spelled_trees.specs.Spelled.{AtSort, NarrowFormula, NarrowLoc, NarrowTerm, SpelledFormula, SpelledLoc, SpelledTerm}
use Rattle.jd_syntax.specs.Names.{Name}
use Rattle.jd_taclet_steps.specs.Steps.{IsClosed}
use Rattle.jd_term.specs.Formulas.{PlainFormula}
use Rattle.jd_term.specs.FormulaSizes.{formula_depth}
use Rattle.jd_term.specs.Shifts.{LocFits, ShiftFits, TermFits, formula_shift, loc_shift, term_shift}
use Rattle.jd_term.specs.Substitutions.{LocSortsAgree, SortsAgree, SubstFits, TermSortsAgree, TermSubstFits, formula_subst, loc_subst, term_subst}
use Rattle.jd_term.specs.Terms.{Constant, Number, PlainLoc, PlainTerm, sort_of_term}
use Rattle.jd_term.specs.TermSizes.{term_depth}
use Rattle.jd_tforms.specs.Answers.{most_deep}
use Rattle.jd_tforms.specs.Known.{FormulaKnown, IsVariable, LocKnown, TermKnown}
use Rattle.jd_tforms.specs.Naming.{constant_of, special_of}
use Rattle.jd_tforms.specs.Shapes.{integer_of, wide}
use Rattle.jd_tforms.specs.Sorted.{formula_sorted, loc_sorted, term_sorted}
use Rattle.jd_tgrammar.specs.NameTables.{NameTable}
use Rattle.jd_written.specs.Written.{integer_text}

-- ---- with words

-- what is known and sorted under binders is spelled under them, and its indices have nine digits
pub record KnownTreesAreSpelled : Type 0 where
  pub term : (names : NameTable) (ctx : List Sort) (t : PlainTerm) → TermKnown names ctx t → term_sorted t ≡ true → SpelledTerm names ctx t
  pub loc : (names : NameTable) (ctx : List Sort) (l : PlainLoc) → LocKnown names ctx l → loc_sorted l ≡ true → SpelledLoc names ctx l
  pub formula : (names : NameTable) (ctx : List Sort) (a : PlainFormula) → FormulaKnown names ctx a → formula_sorted names a ≡ true → SpelledFormula names ctx a
  pub narrow_term : (names : NameTable) (ctx : List Sort) (t : PlainTerm) → TermKnown names ctx t → NarrowTerm t
  pub narrow_loc : (names : NameTable) (ctx : List Sort) (l : PlainLoc) → LocKnown names ctx l → NarrowLoc l
  pub narrow_formula : (names : NameTable) (ctx : List Sort) (a : PlainFormula) → FormulaKnown names ctx a → NarrowFormula a

-- what is spelled under no binder is known and sorted, where it is not deeper than trees may be: so each of its indices has a word
pub record SpelledTreesAreKnown : Type 0 where
  pub term : (names : NameTable) (t : PlainTerm) → SpelledTerm names [] t → term_depth t ≤ most_deep → TermKnown names [] t × (term_sorted t ≡ true)
  pub formula : (names : NameTable) (a : PlainFormula) → SpelledFormula names [] a → formula_depth a ≤ most_deep → FormulaKnown names [] a × (formula_sorted names a ≡ true)

-- literals of 128 bits, and constants and variables that are given as words, are known
pub record GivenWordsAreKnown : Type 0 where
  pub number : (names : NameTable) (z : ℤ) → integer_of wide (integer_text z) ≡ Some z → TermKnown names [] (Number z)
  pub constant : (names : NameTable) (w : List ℕ) (c : Name) → constant_of w ≡ Some c → TermKnown names [] (Constant c)
  pub variable : (names : NameTable) (w : List ℕ) (x : Name) → special_of w ≡ Some x → IsVariable names x

-- ---- indices

-- under binders no index goes past them, and each has the sort of its own
pub record SpelledIndicesAreBound : Type 0 where
  pub term : (names : NameTable) (ctx : List Sort) (t : PlainTerm) → SpelledTerm names ctx t → Below (length ctx) t
  pub loc : (names : NameTable) (ctx : List Sort) (l : PlainLoc) → SpelledLoc names ctx l → BelowLoc (length ctx) l
  pub formula : (names : NameTable) (ctx : List Sort) (a : PlainFormula) → SpelledFormula names ctx a → BelowIn (length ctx) a
  pub sorts_in_term : (names : NameTable) (s : Sort) (ctx : List Sort) (t : PlainTerm) → SpelledTerm names (s ∷ ctx) t → TermSortsAgree 0 s t
  pub sorts_in_loc : (names : NameTable) (s : Sort) (ctx : List Sort) (l : PlainLoc) → SpelledLoc names (s ∷ ctx) l → LocSortsAgree 0 s l
  pub sorts_in_formula : (names : NameTable) (s : Sort) (ctx : List Sort) (a : PlainFormula) → SpelledFormula names (s ∷ ctx) a → SortsAgree 0 s a

-- what is spelled under binders is spelled under these and more outside of them
pub record SpelledTreesAreWidened : Type 0 where
  pub term : (names : NameTable) (ctx more : List Sort) (t : PlainTerm) → SpelledTerm names ctx t → SpelledTerm names (ctx ++ more) t
  pub loc : (names : NameTable) (ctx more : List Sort) (l : PlainLoc) → SpelledLoc names ctx l → SpelledLoc names (ctx ++ more) l
  pub formula : (names : NameTable) (ctx more : List Sort) (a : PlainFormula) → SpelledFormula names ctx a → SpelledFormula names (ctx ++ more) a

-- below one more binder each has its sort, and is spelled
pub record SpelledTreesAreLifted : Type 0 where
  pub term : (names : NameTable) (s : Sort) (ctx : List Sort) (t : PlainTerm) → SpelledTerm names ctx t → AtSort (sort_of_term t) (term_shift 0 1 t) (SpelledTerm names (s ∷ ctx) (term_shift 0 1 t))
  pub loc : (names : NameTable) (s : Sort) (ctx : List Sort) (l : PlainLoc) → SpelledLoc names ctx l → SpelledLoc names (s ∷ ctx) (loc_shift 0 1 l)
  pub formula : (names : NameTable) (s : Sort) (ctx : List Sort) (a : PlainFormula) → SpelledFormula names ctx a → SpelledFormula names (s ∷ ctx) (formula_shift 0 1 a)

-- a term of the sort put for the index of the innermost binder
pub record SpelledTermsArePut : Type 0 where
  pub term : (names : NameTable) (s : Sort) (ctx : List Sort) (t u : PlainTerm) → AtSort s t (SpelledTerm names ctx t) → SpelledTerm names (s ∷ ctx) u → AtSort (sort_of_term u) (term_subst 0 0 t u) (SpelledTerm names ctx (term_subst 0 0 t u))
  pub loc : (names : NameTable) (s : Sort) (ctx : List Sort) (t : PlainTerm) (l : PlainLoc) → AtSort s t (SpelledTerm names ctx t) → SpelledLoc names (s ∷ ctx) l → SpelledLoc names ctx (loc_subst 0 0 t l)
  pub formula : (names : NameTable) (s : Sort) (ctx : List Sort) (t : PlainTerm) (a : PlainFormula) → AtSort s t (SpelledTerm names ctx t) → SpelledFormula names (s ∷ ctx) a → SpelledFormula names ctx (formula_subst 0 0 t a)

-- where indices have nine digits, that fits 32 bits
pub record NarrowTreesFit : Type 0 where
  pub term_lifted : (t : PlainTerm) → NarrowTerm t → TermFits 0 1 t
  pub loc_lifted : (l : PlainLoc) → NarrowLoc l → LocFits 0 1 l
  pub formula_lifted : (a : PlainFormula) → NarrowFormula a → ShiftFits 0 1 a
  pub put_in_term : (t u : PlainTerm) → NarrowTerm t → NarrowTerm u → TermSubstFits 0 0 t u
  pub put_in_formula : (t : PlainTerm) (a : PlainFormula) → NarrowTerm t → NarrowFormula a → SubstFits 0 0 t a

-- ---- sequents

-- a sequent that rules take is spelled part by part, with narrow indices, and is closed
pub record TakenSequentsAreSpelled : Type 0 where
  pub spelled : (names : NameTable) (s : PlainSequent) → IsSpelledSequent names s → SpelledSequent names s
  pub narrow : (names : NameTable) (s : PlainSequent) → IsSpelledSequent names s → NarrowSequent s
  pub closed : (names : NameTable) (s : PlainSequent) → IsSpelledSequent names s → IsClosed s

pub record PlacesAreSpelled : Type 0 where
  pub formula : (names : NameTable) (s : PlainSequent) (q : PlainPlace) (a : PlainFormula) → SpelledSequent names s → at_place s q ≡ Some (FormulaPart a) → IsSpelledAt names s q a
  pub term : (names : NameTable) (s : PlainSequent) (q : PlainPlace) (t : PlainTerm) → SpelledSequent names s → at_place s q ≡ Some (TermPart t) → IsTermSpelledAt names s q t
