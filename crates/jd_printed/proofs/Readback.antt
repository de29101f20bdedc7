-- What is printed is read as what was printed.
use Rattle.std.proofs.Common.{◌≡◌, ℕ, true, List, [], refl, sym, ap, ◌∙◌, subst}
use Rattle.jd_base.specs.declared.sort.Sort.{Sort}
use Rattle.jd_syntax.specs.Sxs.{Bracketed}
use Rattle.jd_bracketed.specs.Answers.{AnswersText, Tree}
use Rattle.jd_bracketed.specs.Tokens.{kinds, tokens_of}
use Rattle.jd_bracketed.specs.Trees.{spell}
use Rattle.jd_bracketed.proofs.Runs.{one_reading}
use Rattle.jd_written.specs.Written.{AllWritable}
use Rattle.jd_written.proofs.Reading.{tokens_read, one_text, expression_read}
use Rattle.jd_term.specs.Terms.{PlainTerm}
use Rattle.jd_term.specs.Formulas.{PlainFormula}
use Rattle.jd_tgrammar.specs.NameTables.{NameTable}
use Rattle.jd_tgrammar.specs.Spelling.{term_text, formula_text}
use Rattle.jd_tforms.specs.Answers.{Is, IsTerm, IsFormula, term_answer, formula_answer}
use Rattle.jd_tforms.specs.Forms.{TermPlace, FormulaPlace}
use Rattle.jd_tforms.proofs.Answering.{answers}
use Rattle.jd_tforms.proofs.Formed.{term_formed, formula_formed}
use Rattle.jd_printed.specs.Laws.{IsSpelledTerm, IsSpelledFormula, TermsAreRead, FormulasAreRead, PrintedIsRead, printed}
use Rattle.jd_printed.proofs.Lines.{one_sequent}
use Rattle.jd_printed.proofs.Shown.{shown}

same_answer : {T : Type 0} (s t : T) → Is s ≡ Is t → s ≡ t
same_answer s t e = cc

-- tokens of what was read as that expression
read_tokens : (bytes : List ℕ) (x : Bracketed) → AnswersText bytes (Tree x) → AllWritable (spell x) → kinds (tokens_of (printed x)) ≡ kinds (tokens_of bytes)
read_tokens bytes x is words = tokens_read true 0 (spell x) words ∙ sym is.spelled

-- ---- terms

term_words : (names : NameTable) (s : Sort) (t : PlainTerm) → IsSpelledTerm names s t → AllWritable (spell (term_text names t))
term_words names s t h = shown (term_text names t) TermPlace refl (term_formed names [] t h.known)

term_read : (names : NameTable) (s : Sort) (x : Bracketed) (t : PlainTerm) → IsTerm names s x t → term_answer names s x ≡ Is t
term_read names s x t h = (answers.term names s x t).1 h

term_is : (names : NameTable) (s : Sort) (x : Bracketed) (t : PlainTerm) → term_answer names s x ≡ Is t → IsTerm names s x t
term_is names s x t e = (answers.term names s x t).0 e

-- what was read has its own text
spelled_term : (names : NameTable) (s : Sort) (x : Bracketed) (t : PlainTerm) → IsTerm names s x t → IsSpelledTerm names s t
spelled_term names s x t h = record { text = refl; known = h.known; sort = h.sort; sorted = h.sorted; depth = h.depth }

terms_are_read : TermsAreRead
terms_are_read = record {
  text = λ names s t h within. expression_read (term_text names t) (term_words names s t h) within;
  tree = λ names s t h. term_read names s (term_text names t) t h;
  tokens = λ names s bytes x t is e.
      let h = term_is names s x t e in
      read_tokens bytes (term_text names t) (subst (λ y. AnswersText bytes (Tree y)) (sym h.text) is) (term_words names s t (spelled_term names s x t h));
  one_text = λ names s t u h k e.
      let same = one_reading (term_text names t) (term_text names u) (one_text (spell (term_text names t)) (spell (term_text names u)) (term_words names s t h) (term_words names s u k) e) in
      same_answer t u (sym (term_read names s (term_text names t) t h) ∙ (ap (term_answer names s) same ∙ term_read names s (term_text names u) u k));
}

-- ---- formulas

formula_read : (names : NameTable) (x : Bracketed) (a : PlainFormula) → IsFormula names x a → formula_answer names x ≡ Is a
formula_read names x a h = (answers.formula names x a).1 h

formula_is : (names : NameTable) (x : Bracketed) (a : PlainFormula) → formula_answer names x ≡ Is a → IsFormula names x a
formula_is names x a e = (answers.formula names x a).0 e

spelled_formula : (names : NameTable) (x : Bracketed) (a : PlainFormula) → IsFormula names x a → IsSpelledFormula names a
spelled_formula names x a h = record { text = refl; known = h.known; sorted = h.sorted; depth = h.depth }

formula_words : (names : NameTable) (a : PlainFormula) → IsSpelledFormula names a → AllWritable (spell (formula_text names a))
formula_words names a h = shown (formula_text names a) FormulaPlace refl (formula_formed names [] a h.known)

one_formula : (names : NameTable) (a b : PlainFormula) → IsSpelledFormula names a → IsSpelledFormula names b → printed (formula_text names a) ≡ printed (formula_text names b) → a ≡ b
one_formula names a b h k e =
    let same = one_reading (formula_text names a) (formula_text names b) (one_text (spell (formula_text names a)) (spell (formula_text names b)) (formula_words names a h) (formula_words names b k) e) in
    same_answer a b (sym (formula_read names (formula_text names a) a h) ∙ (ap (formula_answer names) same ∙ formula_read names (formula_text names b) b k))

formulas_are_read : FormulasAreRead
formulas_are_read = record {
  text = λ names a h within. expression_read (formula_text names a) (formula_words names a h) within;
  tree = λ names a h. formula_read names (formula_text names a) a h;
  tokens = λ names bytes x a is e.
      let h = formula_is names x a e in
      read_tokens bytes (formula_text names a) (subst (λ y. AnswersText bytes (Tree y)) (sym h.text) is) (formula_words names a (spelled_formula names x a h));
  one_text = one_formula;
}

pub printed_is_read : PrintedIsRead
printed_is_read = record {
  terms = terms_are_read;
  formulas = formulas_are_read;
  sequents = λ names s t h k e. one_sequent names (formula_words names) (one_formula names) s t h k e;
}
