-- What code has clauses speak of is what contracts have.
use Rattle.std.proofs.Common.{◌≡◌, ℕ, zero, suc, List, [], ◌∷◌, map, get_or, pos, IfOk, Ok, Option, Result, refl, ap, subst, ◌∙◌}
use mathlib.Core.Path.{fun_ext}
use Rattle.jd_syntax.specs.CodeNames.{heap_name}
use Rattle.jd_term.specs.Terms as terms
use Rattle.jd_term.specs.Terms.{PlainTerm}
use Rattle.jd_term.specs.TermViews.{term_view}
use Rattle.jd_term.specs.declared.term.Term.{Term}
use Rattle.jd_model.specs.Cases.{DeclaredType, Parameter}
use Rattle.jd_model.specs.SpecialNames.{entry_heap, receiver, thrown_variable}
use Rattle.jd_jml_meaning.specs.Meaning as meaning
use Rattle.jd_jml_meaning.specs.ContractFormulas.{constant_at, contract_spelling, result_term}
use Rattle.jd_jml_meaning.specs.Translation.{Spelling}
use Rattle.jd_jml_formulas.specs.Spellings.{argument_in, at_time, spelling_view}
use Rattle.jd_jml_formulas.specs.declared.making.Spelled.{Spelled}
use Rattle.jd_case_clauses.specs.Spelled.{parameter_term}

-- what holds of what was made where it is there
pub made : {A E : Type 0} (P : A → Type 0) (r : Result A E) (a : A) → r ≡ Ok a → IfOk r P → P a
made P r a is h = subst (λ i. IfOk i P) is h

constants_listed : (xs : List Parameter) (k : ℕ) → get_or (map parameter_term xs) k (terms.Number (pos 0)) ≡ constant_at xs k
constants_listed [] k = refl
constants_listed (x ∷ xs) zero = refl
constants_listed (x ∷ xs) (suc k) = constants_listed xs k

arguments_are : (ts : List Term) (xs : List Parameter) → map term_view ts ≡ map parameter_term xs → argument_in ts ≡ constant_at xs
arguments_are ts xs is = fun_ext (λ k. ap (λ l. get_or l k (terms.Number (pos 0))) is ∙ constants_listed xs k)

module _ (A : Type 0) (f : meaning.When → A) where
  by_time : (x y : A) → x ≡ f meaning.Now → y ≡ f meaning.Before → at_time x y ≡ f
  by_time x y now before = fun_ext by
    where
      by : (t : meaning.When) → at_time x y t ≡ f t
      by meaning.Now = now
      by meaning.Before = before

abbrev of_parts : (meaning.When → PlainTerm) → (meaning.When → ℕ → PlainTerm) → PlainTerm → PlainTerm → PlainTerm → Spelling
of_parts h a o r x = record { heap = h; argument = a; this = o; result = r; thrown = x }

pub same_spelling : (s : Spelled) (xs : List Parameter) (r : Option DeclaredType) → term_view s.now ≡ terms.ProgramVariable heap_name → term_view s.before ≡ terms.Constant entry_heap
    → map term_view s.arguments.items ≡ map parameter_term xs → map term_view s.arguments_before.items ≡ map parameter_term xs
    → term_view s.this ≡ terms.Constant receiver → term_view s.value ≡ result_term r → term_view s.thrown ≡ terms.ProgramVariable thrown_variable
    → spelling_view s ≡ contract_spelling xs r
same_spelling s xs r now before arguments arguments_before this value thrown =
    let whole = contract_spelling xs r in
    let v = spelling_view s in
    ap (λ h. of_parts h v.argument v.this v.result v.thrown) (by_time PlainTerm whole.heap (term_view s.now) (term_view s.before) now before)
    ∙ ap (λ a. of_parts whole.heap a v.this v.result v.thrown)
    (by_time (ℕ → PlainTerm) whole.argument (argument_in s.arguments.items) (argument_in s.arguments_before.items) (arguments_are s.arguments.items xs arguments) (arguments_are s.arguments_before.items xs arguments_before))
    ∙ ap (λ o. of_parts whole.heap whole.argument o v.result v.thrown) this
    ∙ ap (λ o. of_parts whole.heap whole.argument whole.this o v.thrown) value
    ∙ ap (of_parts whole.heap whole.argument whole.this whole.result) thrown
