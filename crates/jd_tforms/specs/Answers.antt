-- The answer to an expression where a formula or a term has to stand: the tree, or the least fault of all its parts.
use Rattle.std.specs.Prelude.{◌≡◌, ◌≤◌, ℕ, [], Bool, true, false, nat_lt, cond, ◌&&◌, Option, Some, None}
use Rattle.jd_base.specs.declared.sort.Sort.{Sort}
use Rattle.jd_syntax.specs.Sxs.{Bracketed}
use Rattle.jd_term.specs.Terms.{PlainTerm, sort_of_term}
use Rattle.jd_term.specs.TermSizes.{term_depth}
use Rattle.jd_term.specs.Formulas.{PlainFormula}
use Rattle.jd_term.specs.FormulaSizes.{formula_depth}
use Rattle.jd_tgrammar.specs.NameTables.{NameTable}
use Rattle.jd_tgrammar.specs.Spelling.{term_text, formula_text}
use Rattle.jd_tforms.specs.Forms.{TermPlace, FormulaPlace}
use Rattle.jd_tforms.specs.HasForm.{has_form}
use Rattle.jd_tforms.specs.Known.{TermKnown, FormulaKnown}
use Rattle.jd_tforms.specs.Reading.{read}
use Rattle.jd_tforms.specs.Sorted.{has_sort, term_sorted, formula_sorted}

-- in their order, the least first
pub data Fault : Type 0 where
  NoForm : Fault
  UnknownSymbol : Fault
  SortMismatch : Fault
  TooDeep : Fault

pub data Answer (T : Type 0) : Type 0 where
  Is : T → Answer T
  Refused : Fault → Answer T

-- the greatest depth of a tree
abbrev pub most_deep : ℕ
most_deep = 1000

-- by whether it has a form, what it is, and whether that has the sorts and the depth
abbrev pub answer : {T : Type 0} → Bool → Option T → (T → Bool) → (T → ℕ) → Answer T
answer false found sorted depth = Refused NoForm
answer true None sorted depth = Refused UnknownSymbol
answer true (Some t) sorted depth = cond (sorted t) (cond (nat_lt most_deep (depth t)) (Refused TooDeep) (Is t)) (Refused SortMismatch)

abbrev pub is_of : Sort → PlainTerm → Bool
is_of s t = has_sort s t && term_sorted t

-- under no binder
abbrev pub term_answer : NameTable → Sort → Bracketed → Answer PlainTerm
term_answer names s x = answer (has_form x TermPlace) ((read names x).term []) (is_of s) term_depth

abbrev pub formula_answer : NameTable → Bracketed → Answer PlainFormula
formula_answer names x = answer (has_form x FormulaPlace) ((read names x).formula []) (formula_sorted names) formula_depth

-- ---- which trees the grammar spells

-- a closed term whose words stand for what is in it and whose parts have the sorts of their places, and its text
pub record IsTerm (names : NameTable) (s : Sort) (x : Bracketed) (t : PlainTerm) : Type 0 where
  pub text : term_text names t ≡ x
  pub known : TermKnown names [] t
  pub sort : sort_of_term t ≡ s
  pub sorted : term_sorted t ≡ true
  pub depth : term_depth t ≤ most_deep

pub record IsFormula (names : NameTable) (x : Bracketed) (a : PlainFormula) : Type 0 where
  pub text : formula_text names a ≡ x
  pub known : FormulaKnown names [] a
  pub sorted : formula_sorted names a ≡ true
  pub depth : formula_depth a ≤ most_deep
