-- What the code's attributes show.
use Rattle.std.proofs.Common.{◌≡◌, ℕ, List, [], ◌∷◌, map, take, drop, refl, sym, ap, ap₂, ◌∙◌}
use Rattle.jd_grammar.specs.Grammars.{Forest}
use Rattle.jd_grammar.specs.Nodes.{StandFor, all_of, filled}
use Rattle.jd_grammar.specs.declared.piles.NodeParts.{NodeParts}
use Rattle.jd_grammar.proofs.Walks.{made_values}
use Rattle.jd_jml_tokens.specs.declared.lexeme.Lexeme.{Lexeme}
use Rattle.jd_jml_tokens.specs.Lexemes.{PlainLexeme, lexeme_view}
use Rattle.jd_jml_attributes.specs.declared.form.Form.{Form}
use Rattle.jd_jml_attributes.specs.declared.rows.Rule.{Rule}
use Rattle.jd_jml_attributes.specs.Forms.{empty, form_view}
use Rattle.jd_jml_attributes.specs.Rules.{row_of}
use Rattle.jd_jml_attributes.specs.Judging.{first_form, form_by, form_of, form_of_node, forms_view, names_of}

abbrev Row : Type 0
Row = ℕ × Rule

-- the parts' views are those of what is listed
listed_views : (none : NodeParts Form) (parts : List Form) → forms_view (filled none parts) ≡ filled (forms_view none) (map form_view parts)
listed_views none [] = refl
listed_views none (a ∷ []) = refl
listed_views none (a ∷ b ∷ []) = refl
listed_views none (a ∷ b ∷ c ∷ []) = refl
listed_views none (a ∷ b ∷ c ∷ d ∷ more) = refl

pub form_of_parts : (p : ℕ) (ts : List PlainLexeme) (stack : List Form) (n : ℕ) (row : Row) (none parts : NodeParts Form) (v : Form) → forms_view none ≡ all_of empty → row ≡ row_of p → n ≡ names_of p → parts ≡ filled none (take n stack) → form_view v ≡ form_by row.1 ts (forms_view parts) → form_view v ≡ form_of_node p ts (map form_view (take (names_of p) stack))
form_of_parts p ts stack n row none parts v bare of count is e =
    let us = take (names_of p) stack in
    let whole : forms_view parts ≡ filled (all_of empty) (map form_view us) = ap forms_view (is ∙ ap (λ k. filled none (take k stack)) count) ∙ (listed_views none us ∙ ap (λ m. filled m (map form_view us)) bare) in
    e ∙ ap₂ (λ (r : Row) fs. form_by r.1 ts fs) of whole

-- what is left on the stack
pub drop_as : {V : Type 0} (p : ℕ) (stack : List V) (n : ℕ) (rest : List V) → n ≡ names_of p → rest ≡ drop n stack → rest ≡ drop (names_of p) stack
drop_as p stack n rest count is = is ∙ ap (λ k. drop k stack) count

pub judged : (t : Forest) (ts : List Lexeme) (f : Form) → StandFor (λ p us ws v. form_view v ≡ form_of_node p (map lexeme_view us) (map form_view ws)) t ts (f ∷ []) → form_of t (map lexeme_view ts) ≡ form_view f
judged t ts f stands =
    ap first_form (sym (made_values _ form_view lexeme_view form_of_node t ts (f ∷ []) (λ p us ws v h. h) stands))
