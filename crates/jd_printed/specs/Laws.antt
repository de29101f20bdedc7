-- What is printed is read as what was printed, and what was read is printed with the tokens that were read.
use Rattle.std.specs.Prelude.{◌≡◌, ◌≤◌, ℕ, List}
use Rattle.std.specs.List.{AllByRecursion}
use Rattle.jd_base.specs.declared.sort.Sort.{Sort}
use Rattle.jd_syntax.specs.Sxs.{Bracketed}
use Rattle.jd_bracketed.specs.Answers.{AnswersText, Tree, most_levels}
use Rattle.jd_bracketed.specs.Tokens.{kinds, tokens_of}
use Rattle.jd_bracketed.specs.Trees.{spell, depth}
use Rattle.jd_written.specs.Written.{text_of}
use Rattle.jd_term.specs.Terms.{PlainTerm}
use Rattle.jd_term.specs.Formulas.{PlainFormula}
use Rattle.jd_model.specs.Sequents.{PlainSequent}
use Rattle.jd_tgrammar.specs.NameTables.{NameTable}
use Rattle.jd_tgrammar.specs.Spelling.{term_text, formula_text}
use Rattle.jd_tforms.specs.Answers.{Is, IsTerm, IsFormula, term_answer, formula_answer}
use Rattle.jd_sequent_print.specs.Lines.{sequent_text}

-- the text of an expression
abbrev pub printed : Bracketed → List ℕ
printed x = text_of (spell x)

-- ---- trees that the grammar spells

abbrev pub IsSpelledTerm : NameTable → Sort → PlainTerm → Type 0
IsSpelledTerm names s t = IsTerm names s (term_text names t) t

abbrev pub IsSpelledFormula : NameTable → PlainFormula → Type 0
IsSpelledFormula names a = IsFormula names (formula_text names a) a

pub record IsSpelledSequent (names : NameTable) (s : PlainSequent) : Type 0 where
  pub left : AllByRecursion (IsSpelledFormula names) s.left
  pub right : AllByRecursion (IsSpelledFormula names) s.right

-- ---- laws

pub record TermsAreRead : Type 0 where
  -- the text is read as the term's expression, where that has no more levels than any may have, and this is read as the term
  pub text : (names : NameTable) (s : Sort) (t : PlainTerm) → IsSpelledTerm names s t → depth (term_text names t) ≤ most_levels → AnswersText (printed (term_text names t)) (Tree (term_text names t))
  pub tree : (names : NameTable) (s : Sort) (t : PlainTerm) → IsSpelledTerm names s t → term_answer names s (term_text names t) ≡ Is t
  -- what was read is printed with the same tokens: it is the same text, up to white space and comments
  pub tokens : (names : NameTable) (s : Sort) (bytes : List ℕ) (x : Bracketed) (t : PlainTerm) → AnswersText bytes (Tree x) → term_answer names s x ≡ Is t
      → kinds (tokens_of (printed (term_text names t))) ≡ kinds (tokens_of bytes)
  -- no two have one text
  pub one_text : (names : NameTable) (s : Sort) (t u : PlainTerm) → IsSpelledTerm names s t → IsSpelledTerm names s u → printed (term_text names t) ≡ printed (term_text names u) → t ≡ u

-- the same of formulas
pub record FormulasAreRead : Type 0 where
  pub text : (names : NameTable) (a : PlainFormula) → IsSpelledFormula names a → depth (formula_text names a) ≤ most_levels → AnswersText (printed (formula_text names a)) (Tree (formula_text names a))
  pub tree : (names : NameTable) (a : PlainFormula) → IsSpelledFormula names a → formula_answer names (formula_text names a) ≡ Is a
  pub tokens : (names : NameTable) (bytes : List ℕ) (x : Bracketed) (a : PlainFormula) → AnswersText bytes (Tree x) → formula_answer names x ≡ Is a
      → kinds (tokens_of (printed (formula_text names a))) ≡ kinds (tokens_of bytes)
  pub one_text : (names : NameTable) (a b : PlainFormula) → IsSpelledFormula names a → IsSpelledFormula names b → printed (formula_text names a) ≡ printed (formula_text names b) → a ≡ b

pub record PrintedIsRead : Type 0 where
  pub terms : TermsAreRead
  pub formulas : FormulasAreRead
  -- no two sequents have one text
  pub sequents : (names : NameTable) (s t : PlainSequent) → IsSpelledSequent names s → IsSpelledSequent names t → sequent_text names s ≡ sequent_text names t → s ≡ t
