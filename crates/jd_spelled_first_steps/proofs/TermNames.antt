-- The words of variables of methods are none of constants.
use Rattle.std.proofs.Common.{List, None, Some, [], ap, cond, false, not, option_map, refl, subst, suc, sym, true, true≢false, zero, ◌&&◌, ◌∙◌, ◌∷◌, ◌≡◌, ◌≢◌, ℕ}
use Rattle.std.proofs.lemmas.Bool.{and_parts, ne_eqb}
use Rattle.std.specs.List.{list_all, slice_get}
use Rattle.std.specs.Prelude.{codes}
use Rattle.jd_names.specs.Identifiers.{is_variable_byte, is_variable_word}
use Rattle.jd_spelled_first_steps.proofs.SimpleTerms.{none_both}
use Rattle.jd_spelled_first_steps.specs.Laws.{VariablesAreTermNames}
use Rattle.jd_spelled_first_steps.specs.TermNames.{AreTermNames}
use Rattle.jd_syntax.specs.Names.{Name}
use Rattle.jd_tforms.specs.Naming.{constant_of, letter_sort, named, special_sort}
use Rattle.jd_tforms.specs.Shapes.{is_digit, is_name, is_special_byte}

no_sign : (w : List ℕ) → is_variable_word w ≡ true → special_sort 35 w ≡ None
no_sign [] h = refl
no_sign (a ∷ []) h = refl
no_sign (a ∷ (b ∷ bs)) h =
    let all = (and_parts (not (is_digit a)) (list_all is_variable_byte (a ∷ (b ∷ bs))) h).1 in
    let first = (and_parts (is_variable_byte a) (list_all is_variable_byte (b ∷ bs)) all).0 in
    ap (λ t. cond (t && list_all is_special_byte bs) (letter_sort b) None) (ne_eqb a 35 (λ at. true≢false (sym (subst (λ c. is_variable_byte c ≡ true) at first))))

no_constant : (w : List ℕ) → is_variable_word w ≡ true → constant_of w ≡ None
no_constant w h = ap (λ o. cond (is_name w) (option_map (named w) o) None) (no_sign w h) ∙ none_both (is_name w)

each_is_term_name : (xs : List Name) → ((i : ℕ) (x : Name) → slice_get xs i ≡ Some x → is_variable_word x.text ≡ true) → ((i : ℕ) (x : Name) → slice_get xs i ≡ Some x → x.text ≢ codes "created") → AreTermNames xs
each_is_term_name [] words others = tt
each_is_term_name (x ∷ xs) words others =
    ((others zero x refl, no_constant x.text (words zero x refl)), each_is_term_name xs (λ i y. words (suc i) y) (λ i y. others (suc i) y))

pub variables_are_term_names : VariablesAreTermNames
variables_are_term_names xs are others = each_is_term_name xs are.words others
