-- The two parts of the attributes, each by a fold of its own.
use Rattle.std.proofs.Common.{◌≡◌, ℕ, List, [], ◌∷◌, map, take, drop, length, refl, sym, ap, ap₂, ◌∙◌}
use Rattle.std.proofs.lemmas.List.{map-id}
use Rattle.jd_grammar.specs.Folds.{values}
use Rattle.jd_grammar.specs.Grammars.{Forest, Done, Leaf, Node, yield}
use Rattle.jd_grammar.specs.Nodes.{StandFor, all_of, filled}
use Rattle.jd_grammar.specs.declared.piles.NodeParts.{NodeParts}
use Rattle.jd_grammar.proofs.Walks.{made_values}
use Rattle.jd_java_tokens.specs.declared.lexeme.Lexeme.{Lexeme}
use Rattle.jd_java_tokens.specs.Contents.{PlainLexeme}
use Rattle.jd_java_tokens.specs.Lexemes.{lexeme_view}
use Rattle.jd_java_attributes.specs.declared.form.Form.{Form}
use Rattle.jd_java_attributes.specs.declared.form.TheConstants.{EMPTY}
use Rattle.jd_java_attributes.specs.declared.heading.Heading.{Heading}
use Rattle.jd_java_attributes.specs.declared.heading.Told.{Told}
use Rattle.jd_java_attributes.specs.declared.rows.Rule.{Rule}
use Rattle.jd_java_attributes.specs.Folding.{form_at, heading_at, told_view, told_views}
use Rattle.jd_java_attributes.specs.Headings.{PlainHeading, bare, heading_view, told}
use Rattle.jd_java_attributes.specs.Judging.{PlainAttributes, attributes, attributes_of, first_of_all, names_of, nothing, plain_forms, plain_headings}
use Rattle.jd_java_attributes.specs.Rules.{made, row_of, with_high}

abbrev Row : Type 0
Row = ℕ × ℕ × Rule

-- ---- what a part of values is, where each node makes it of that part of its parts

shown_values : {T V W : Type 0} (show : V → W) (make : ℕ → List T → List V → V) (other : ℕ → List T → List W → W) (f : Forest) (ts : List T) → ((p : ℕ) (us : List T) (vs : List V) → show (make p us vs) ≡ other p us (map show vs)) → map show (values make f ts) ≡ values other f ts
shown_values show make other Done ts by = refl
shown_values show make other (Leaf k f) ts by = shown_values show make other f (drop 1 ts) by
shown_values show make other (Node p c f) ts by =
    ap₂ (λ x xs. x ∷ xs) (by p ts (values make c ts) ∙ ap (other p ts) (shown_values show make other c ts by)) (shown_values show make other f (drop (length (yield c)) ts) by)

abbrev the_form : PlainAttributes → Form
the_form a = a.form

abbrev the_heading : PlainAttributes → PlainHeading
the_heading a = a.heading

forms_filled : (vs : List PlainAttributes) → plain_forms (filled (all_of nothing) vs) ≡ filled (all_of EMPTY) (map the_form vs)
forms_filled [] = refl
forms_filled (a ∷ []) = refl
forms_filled (a ∷ b ∷ []) = refl
forms_filled (a ∷ b ∷ c ∷ []) = refl
forms_filled (a ∷ b ∷ c ∷ d ∷ more) = refl

headings_filled : (vs : List PlainAttributes) → plain_headings (filled (all_of nothing) vs) ≡ filled (all_of bare) (map the_heading vs)
headings_filled [] = refl
headings_filled (a ∷ []) = refl
headings_filled (a ∷ b ∷ []) = refl
headings_filled (a ∷ b ∷ c ∷ []) = refl
headings_filled (a ∷ b ∷ c ∷ d ∷ more) = refl

abbrev first_form : List Form → Form
first_form [] = EMPTY
first_form (x ∷ xs) = x

abbrev first_heading : List PlainHeading → PlainHeading
first_heading [] = bare
first_heading (x ∷ xs) = x

form_first : (vs : List PlainAttributes) → (first_of_all vs).form ≡ first_form (map the_form vs)
form_first [] = refl
form_first (a ∷ others) = refl

heading_first : (vs : List PlainAttributes) → (first_of_all vs).heading ≡ first_heading (map the_heading vs)
heading_first [] = refl
heading_first (a ∷ others) = refl

pub form_stands : (f : Forest) (ts : List Lexeme) (v : Form) → StandFor (λ p us ws x. x ≡ form_at p (map lexeme_view us) ws) f ts (v ∷ []) → (attributes_of f (map lexeme_view ts)).form ≡ v
form_stands f ts v stands =
    let us = map lexeme_view ts in
    let all = made_values _ (λ (x : Form). x) lexeme_view form_at f ts (v ∷ []) (λ p us ws x h. h ∙ ap (form_at p (map lexeme_view us)) (sym (map-id ws))) stands in
    form_first (values attributes f us)
    ∙ ap first_form (shown_values the_form attributes form_at f us (λ p ts vs. ap (λ parts. with_high ts (made (row_of p).2 (row_of p).0 ts parts)) (forms_filled vs)) ∙ sym all)

pub heading_stands : (f : Forest) (ts : List Lexeme) (v : Told) (h : Heading) → StandFor (λ p us ws x. told_view x ≡ heading_at p (map lexeme_view us) (map told_view ws)) f ts (v ∷ []) → heading_view h ≡ told_view v → (attributes_of f (map lexeme_view ts)).heading ≡ heading_view h
heading_stands f ts v h stands is =
    let us = map lexeme_view ts in
    let all = made_values _ told_view lexeme_view heading_at f ts (v ∷ []) (λ p us ws x e. e) stands in
    heading_first (values attributes f us)
    ∙ (ap first_heading (shown_values the_heading attributes heading_at f us (λ p ts vs. ap (told (row_of p).2 ts) (headings_filled vs)) ∙ sym all)
    ∙ sym is)

-- ---- the parts on a stack

pub form_of_parts : (p : ℕ) (ts : List PlainLexeme) (stack : List Form) (n : ℕ) (row : Row) (none parts : NodeParts Form) (v : Form) → none ≡ all_of EMPTY → row ≡ row_of p → n ≡ names_of p → parts ≡ filled none (take n stack) → v ≡ with_high ts (made row.2 row.0 ts parts) → v ≡ form_at p ts (take (names_of p) stack)
form_of_parts p ts stack n row none parts v empty of count is e =
    e ∙ ap₂ (λ (r : Row) us. with_high ts (made r.2 r.0 ts us)) of (is ∙ ap₂ (λ m k. filled m (take k stack)) empty count)

told_filled : (none : NodeParts Told) (parts : List Told) → told_views (filled none parts) ≡ filled (told_views none) (map told_view parts)
told_filled none [] = refl
told_filled none (a ∷ []) = refl
told_filled none (a ∷ b ∷ []) = refl
told_filled none (a ∷ b ∷ c ∷ []) = refl
told_filled none (a ∷ b ∷ c ∷ d ∷ more) = refl

pub heading_of_parts : (p : ℕ) (ts : List PlainLexeme) (stack : List Told) (n : ℕ) (row : Row) (none parts : NodeParts Told) (v : Told) → told_views none ≡ all_of bare → row ≡ row_of p → n ≡ names_of p → parts ≡ filled none (take n stack) → told_view v ≡ told row.2 ts (told_views parts) → told_view v ≡ heading_at p ts (map told_view (take (names_of p) stack))
heading_of_parts p ts stack n row none parts v none_told of count is e =
    let us = take (names_of p) stack in
    let whole : told_views parts ≡ filled (all_of bare) (map told_view us) = ap told_views (is ∙ ap (λ k. filled none (take k stack)) count) ∙ (told_filled none us ∙ ap (λ m. filled m (map told_view us)) none_told) in
    e ∙ ap₂ (λ (r : Row) hs. told r.2 ts hs) of whole

-- what is left on the stack
pub drop_as : {V : Type 0} (p : ℕ) (stack : List V) (n : ℕ) (rest : List V) → n ≡ names_of p → rest ≡ drop n stack → rest ≡ drop (names_of p) stack
drop_as p stack n rest count is = is ∙ ap (λ k. drop k stack) count
