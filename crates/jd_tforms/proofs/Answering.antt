-- The answer is a tree exactly where the grammar spells it so.
use Rattle.std.proofs.Common.{◌≡◌, ◌≤◌, ℕ, [], Bool, true, false, ◌&&◌, nat_lt, cond, Option, Some, None, refl, sym, ap, ◌∙◌, subst, true≢false, arith}
use Rattle.std.proofs.lemmas.Bool.{and_parts}
use Rattle.std.proofs.lemmas.Bool.Decides.{nat_tests}
use Rattle.jd_base.specs.declared.sort.Sort.{Sort}
use Rattle.jd_base.specs.declared.sort.Sort.TheVariants.{Int as IntSort, Bool as BoolSort, Ref as RefSort, Heap as HeapSort, Field as FieldSort}
use Rattle.jd_syntax.specs.CodeNames.{same_sort}
use Rattle.jd_syntax.specs.Sxs.{Bracketed}
use Rattle.jd_term.specs.Terms.{PlainTerm, sort_of_term}
use Rattle.jd_term.specs.TermSizes.{term_depth}
use Rattle.jd_term.specs.Formulas.{PlainFormula}
use Rattle.jd_term.specs.FormulaSizes.{formula_depth}
use Rattle.jd_tgrammar.specs.NameTables.{NameTable}
use Rattle.jd_tgrammar.specs.Spelling.{term_text, formula_text}
use Rattle.jd_tforms.specs.Forms.{TermPlace, FormulaPlace}
use Rattle.jd_tforms.specs.HasForm.{has_form}
use Rattle.jd_tforms.specs.Reading.{read}
use Rattle.jd_tforms.specs.Sorted.{has_sort, term_sorted, formula_sorted}
use Rattle.jd_tforms.specs.Answers.{Is, Refused, SortMismatch, TooDeep, most_deep, answer, is_of, term_answer, formula_answer, IsTerm, IsFormula}
use Rattle.jd_tforms.specs.Laws.{Answers}
use Rattle.jd_tforms.proofs.Sound.{holds}
use Rattle.jd_tforms.proofs.Complete.{term_complete, formula_complete}
use Rattle.jd_tforms.proofs.Formed.{term_formed, formula_formed}

not_deep : (n : ℕ) → nat_lt most_deep n ≡ false → n ≤ most_deep
not_deep n e = grind (arith, nat_tests, e)

deep_not : (n : ℕ) → n ≤ most_deep → nat_lt most_deep n ≡ false
deep_not n le = grind (arith, nat_tests, le)

same_answer : {T : Type 0} (s t : T) → Is s ≡ Is t → s ≡ t
same_answer s t e = cc

is_answer : {T : Type 0} (b : Bool) (o : Option T) (sorted : T → Bool) (depth : T → ℕ) (t : T) → answer b o sorted depth ≡ Is t →
    (o ≡ Some t) × (sorted t ≡ true) × (depth t ≤ most_deep)
is_answer false o sorted depth t e = absurd cc
is_answer true None sorted depth t e = absurd cc
is_answer {T} true (Some s) sorted depth t e = by (sorted s) refl (nat_lt most_deep (depth s)) refl e
  where
    by : (k : Bool) → sorted s ≡ k → (l : Bool) → nat_lt most_deep (depth s) ≡ l → cond k (cond l (Refused TooDeep) (Is s)) (Refused SortMismatch) ≡ Is t →
        (Some s ≡ Some t) × (sorted t ≡ true) × (depth t ≤ most_deep)
    by true k false l is =
        let same = same_answer s t is in
        (ap Some same, subst (λ u. sorted u ≡ true) same k, subst (λ u. depth u ≤ most_deep) same (not_deep (depth s) l))
    by true k true l is = absurd cc
    by false k l m is = absurd cc

answer_is : {T : Type 0} (b : Bool) (o : Option T) (sorted : T → Bool) (depth : T → ℕ) (t : T) → b ≡ true → o ≡ Some t → sorted t ≡ true → depth t ≤ most_deep → answer b o sorted depth ≡ Is t
answer_is b o sorted depth t e is k le = rw (e, is, k, deep_not (depth t) le) refl

sort_same : (s t : Sort) → same_sort s t ≡ true → s ≡ t
sort_same IntSort IntSort e = refl
sort_same BoolSort BoolSort e = refl
sort_same RefSort RefSort e = refl
sort_same HeapSort HeapSort e = refl
sort_same FieldSort FieldSort e = refl
sort_same _ _ e = absurd (true≢false (sym e))

same_itself : (s : Sort) → same_sort s s ≡ true
same_itself IntSort = refl
same_itself BoolSort = refl
same_itself RefSort = refl
same_itself HeapSort = refl
same_itself FieldSort = refl

both_true : (a b : Bool) → a ≡ true → b ≡ true → (a && b) ≡ true
both_true true b e g = g
both_true false b e g = e

term_is : (names : NameTable) (s : Sort) (x : Bracketed) (t : PlainTerm) → term_answer names s x ≡ Is t → IsTerm names s x t
term_is names s x t e =
    let h = is_answer (has_form x TermPlace) ((read names x).term []) (is_of s) term_depth t e in
    let g = (holds names x).term [] t h.0 in
    let p = and_parts (has_sort s t) (term_sorted t) h.1 in
    record { text = g.0; known = g.1; sort = sort_same (sort_of_term t) s p.0; sorted = p.1; depth = h.2 }

is_term : (names : NameTable) (s : Sort) (x : Bracketed) (t : PlainTerm) → IsTerm names s x t → term_answer names s x ≡ Is t
is_term names s x t h =
    subst (λ y. term_answer names s y ≡ Is t) h.text
    (answer_is (has_form (term_text names t) TermPlace) ((read names (term_text names t)).term []) (is_of s) term_depth t
    (term_formed names [] t h.known) (term_complete names [] t h.known)
    (both_true (has_sort s t) (term_sorted t) (ap (λ r. same_sort r s) h.sort ∙ same_itself s) h.sorted) h.depth)

formula_is : (names : NameTable) (x : Bracketed) (a : PlainFormula) → formula_answer names x ≡ Is a → IsFormula names x a
formula_is names x a e =
    let h = is_answer (has_form x FormulaPlace) ((read names x).formula []) (formula_sorted names) formula_depth a e in
    let g = (holds names x).formula [] a h.0 in
    record { text = g.0; known = g.1; sorted = h.1; depth = h.2 }

is_formula : (names : NameTable) (x : Bracketed) (a : PlainFormula) → IsFormula names x a → formula_answer names x ≡ Is a
is_formula names x a h =
    subst (λ y. formula_answer names y ≡ Is a) h.text
    (answer_is (has_form (formula_text names a) FormulaPlace) ((read names (formula_text names a)).formula []) (formula_sorted names) formula_depth a
    (formula_formed names [] a h.known) (formula_complete names [] a h.known) h.sorted h.depth)

pub answers : Answers
answers = record {
  term = λ names s x t. ((λ e. term_is names s x t e), (λ h. is_term names s x t h));
  formula = λ names x a. ((λ e. formula_is names x a e), (λ h. is_formula names x a h));
}
