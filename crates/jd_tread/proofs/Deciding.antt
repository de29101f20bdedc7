-- The answer by its four questions.
use Rattle.std.proofs.Common.{◌≡◌, ◌-◌, ◌^◌, ℕ, Bool, true, false, cond, min, nat_lt, [], Option, Some, None, refl, sym, ap, ◌∙◌, subst, arith}
use Rattle.std.proofs.lemmas.Bool.Decides.{nat_tests}
use Rattle.jd_syntax.specs.Sxs.{Bracketed}
use Rattle.jd_term.specs.Formulas.{PlainFormula}
use Rattle.jd_term.specs.Terms.{PlainTerm}
use Rattle.jd_tgrammar.specs.NameTables.{NameTable}
use Rattle.jd_tforms.specs.Answers.{Is, Refused, SortMismatch, TooDeep, most_deep, answer}
use Rattle.jd_tforms.specs.Forms.{FormulaPlace, TermPlace}
use Rattle.jd_tforms.specs.HasForm.{has_form}
use Rattle.jd_tforms.specs.Reading.{read}
use Rattle.jd_tforms.proofs.Whole.{read_is_written}
use Rattle.jd_tread.specs.Faults.{IsFault}
use Rattle.jd_tread.specs.declared.refusal.TermRefusal.{TermRefusal}
use Rattle.jd_tread.specs.declared.refusal.TermRefusal.TheVariants as refusals

pub deep : (n d : ℕ) → d ≡ min n (2 ^ 64 - 1) → nat_lt 1000 d ≡ nat_lt most_deep n
deep n d e = by (nat_lt 1000 d) refl
  where
    by : (b : Bool) → nat_lt 1000 d ≡ b → b ≡ nat_lt most_deep n
    by true is = grind (arith, nat_tests, e, is)
    by false is = grind (arith, nat_tests, e, is)

-- nothing was read: the expression has no form, or a name in it stands for nothing
pub unread : {T : Type 0} (b : Bool) (o : Option T) (sorted : T → Bool) (depth : T → ℕ) (e : TermRefusal) → e ≡ cond b refusals.UnknownSymbol refusals.Syntax → None ≡ o → IsFault e (answer b o sorted depth)
unread b o sorted depth e is none = subst (λ p. IsFault e (answer b p sorted depth)) none (subst (λ f. IsFault f (answer b None sorted depth)) (sym is) (by b))
  where
    by : (c : Bool) → IsFault (cond c refusals.UnknownSymbol refusals.Syntax) (answer c None sorted depth)
    by true = refl
    by false = refl

-- something was read, which has a form
module _ {T : Type 0} (b : Bool) (o : Option T) (sorted : T → Bool) (depth : T → ℕ) (t : T) (formed : o ≡ Some t → b ≡ true) (read : o ≡ Some t) where
  asked : answer b o sorted depth ≡ answer true (Some t) sorted depth
  asked = ap (λ c. answer c o sorted depth) (formed read) ∙ ap (λ p. answer true p sorted depth) read

  pub no_sort : false ≡ sorted t → answer b o sorted depth ≡ Refused SortMismatch
  no_sort h = asked ∙ rw (sym h) refl

  pub too_deep : true ≡ sorted t → true ≡ nat_lt most_deep (depth t) → answer b o sorted depth ≡ Refused TooDeep
  too_deep h i = asked ∙ rw (sym h, sym i) refl

  pub is_it : true ≡ sorted t → false ≡ nat_lt most_deep (depth t) → answer b o sorted depth ≡ Is t
  is_it h i = asked ∙ rw (sym h, sym i) refl

-- what is read has a form
pub term_formed : (names : NameTable) (x : Bracketed) (t : PlainTerm) → (read names x).term [] ≡ Some t → has_form x TermPlace ≡ true
term_formed names x t e = (read_is_written.forms names [] x).term t e

pub formula_formed : (names : NameTable) (x : Bracketed) (a : PlainFormula) → (read names x).formula [] ≡ Some a → has_form x FormulaPlace ≡ true
formula_formed names x a e = (read_is_written.forms names [] x).formula a e
