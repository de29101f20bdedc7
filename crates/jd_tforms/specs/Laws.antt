-- The laws of reading.
use Rattle.std.specs.Prelude.{◌≡◌, ◌↔◌, List, true, Some}
use Rattle.jd_base.specs.declared.sort.Sort.{Sort}
use Rattle.jd_syntax.specs.Sxs.{Bracketed}
use Rattle.jd_term.specs.Terms.{PlainTerm, PlainLoc}
use Rattle.jd_term.specs.Formulas.{PlainFormula}
use Rattle.jd_tgrammar.specs.NameTables.{NameTable}
use Rattle.jd_tgrammar.specs.Spelling.{term_text, loc_text, formula_text}
use Rattle.jd_tforms.specs.Answers.{Is, term_answer, formula_answer, IsTerm, IsFormula}
use Rattle.jd_tforms.specs.Forms.{TermPlace, FormulaPlace}
use Rattle.jd_tforms.specs.HasForm.{has_form}
use Rattle.jd_tforms.specs.Known.{TermKnown, LocKnown, FormulaKnown}
use Rattle.jd_tforms.specs.Reading.{read}

-- what is read is known, and has the text that was read
pub record Sound (names : NameTable) (ctx : List Sort) (x : Bracketed) : Type 0 where
  pub term : (t : PlainTerm) → (read names x).term ctx ≡ Some t → (term_text names t ≡ x) × TermKnown names ctx t
  pub loc : (l : PlainLoc) → (read names x).loc ctx ≡ Some l → (loc_text names l ≡ x) × LocKnown names ctx l
  pub formula : (a : PlainFormula) → (read names x).formula ctx ≡ Some a → (formula_text names a ≡ x) × FormulaKnown names ctx a

-- what is known is read from its text
pub record Complete (names : NameTable) (ctx : List Sort) : Type 0 where
  pub term : (t : PlainTerm) → TermKnown names ctx t → (read names (term_text names t)).term ctx ≡ Some t
  pub loc : (l : PlainLoc) → LocKnown names ctx l → (read names (loc_text names l)).loc ctx ≡ Some l
  pub formula : (a : PlainFormula) → FormulaKnown names ctx a → (read names (formula_text names a)).formula ctx ≡ Some a

-- what is read has a form
pub record HasForms (names : NameTable) (ctx : List Sort) (x : Bracketed) : Type 0 where
  pub term : (t : PlainTerm) → (read names x).term ctx ≡ Some t → has_form x TermPlace ≡ true
  pub formula : (a : PlainFormula) → (read names x).formula ctx ≡ Some a → has_form x FormulaPlace ≡ true

pub record ReadIsWritten : Type 0 where
  pub sound : (names : NameTable) (ctx : List Sort) (x : Bracketed) → Sound names ctx x
  pub complete : (names : NameTable) (ctx : List Sort) → Complete names ctx
  pub forms : (names : NameTable) (ctx : List Sort) (x : Bracketed) → HasForms names ctx x

-- the answer is a tree exactly where the grammar spells it so
pub record Answers : Type 0 where
  pub term : (names : NameTable) (s : Sort) (x : Bracketed) (t : PlainTerm) → (term_answer names s x ≡ Is t) ↔ IsTerm names s x t
  pub formula : (names : NameTable) (x : Bracketed) (a : PlainFormula) → (formula_answer names x ≡ Is a) ↔ IsFormula names x a
