-- Levels of expressions without an operator of theirs.
use Rattle.std.proofs.Common.{◌≡◌, ◌≤◌, ◌-◌, ℕ, zero, suc, List, [], ◌∷◌, map, replicate, refl, sym, ap, ◌∙◌, arith}
use Rattle.jd_grammar.specs.Counted.{IsKept, IsQuiet}
use Rattle.jd_grammar.specs.Nodes.{all_of, filled}
use Rattle.jd_jml_tokens.specs.Lexemes.{lexeme_view}
use Rattle.jd_jml_attributes.specs.declared.form.Form.{Form}
use Rattle.jd_jml_attributes.specs.declared.rows.Rule.{Rule}
use Rattle.jd_jml_attributes.specs.Forms.{empty, form_view}
use Rattle.jd_jml_attributes.specs.Judging.{form_by, names_of}
use Rattle.jd_jml_attributes.specs.Rules.{row_of}
use Rattle.jd_jml_attributes.specs.Short.{IsFormAt, IsLevel, IsSettled, alone, no_form}
use Rattle.jd_jml_attributes.proofs.Names.{few_names}

abbrev Row : Type 0
Row = ℕ × Rule

names_are : (p : ℕ) (row : Row) → row ≡ row_of p → names_of p ≡ row.0
names_are p row of = sym (ap (λ (r : Row). r.0) of)

none_filled : (n : ℕ) → n ≤ 4 → filled (all_of empty) (map form_view (replicate n no_form)) ≡ all_of empty
none_filled zero few = refl
none_filled (suc zero) few = refl
none_filled (suc (suc zero)) few = refl
none_filled (suc (suc (suc zero))) few = refl
none_filled (suc (suc (suc (suc zero)))) few = refl
none_filled (suc (suc (suc (suc (suc n))))) few = absurd (omega (arith, few))

pub quiet : (p : ℕ) (row : Row) → row ≡ row_of p → IsLevel row.1 → IsQuiet names_of IsFormAt no_form p row.0
quiet p row of l =
    let names = names_are p row of in
    let most = few_names p in
    let few : row.0 ≤ 4 = omega (arith, names, most) in
    record {
      names = names;
      quiet = λ ts.
          let us = map lexeme_view ts in
          sym (ap (λ (r : Row). form_by r.1 us (filled (all_of empty) (map form_view (replicate row.0 no_form)))) (sym of)
          ∙ (ap (form_by row.1 us) (none_filled row.0 few) ∙ l.quiet us));
    }

alone_filled : (n : ℕ) (f : Form) → n ≤ 3 → filled (all_of empty) (map form_view (f ∷ replicate n no_form)) ≡ alone (form_view f)
alone_filled zero f few = refl
alone_filled (suc zero) f few = refl
alone_filled (suc (suc zero)) f few = refl
alone_filled (suc (suc (suc zero))) f few = refl
alone_filled (suc (suc (suc (suc n)))) f few = absurd (omega (arith, few))

pub kept : (p n : ℕ) (row : Row) (f : Form) → row ≡ row_of p → IsLevel row.1 → IsSettled (form_view f) → (row.0 ≡ 0 → ⊥) → n ≡ row.0 - 1 → IsKept names_of IsFormAt no_form p n f
kept p n row f of l s some is =
    let all = names_are p row of in
    let most = few_names p in
    let names : names_of p ≡ suc n = omega (arith, all, some, is) in
    let few : n ≤ 3 = omega (arith, names, most) in
    record {
      names = names;
      keeps = λ ts.
          let us = map lexeme_view ts in
          sym (ap (λ (r : Row). form_by r.1 us (filled (all_of empty) (map form_view (f ∷ replicate n no_form)))) (sym of)
          ∙ (ap (form_by row.1 us) (alone_filled n f few) ∙ l.keeps (form_view f) s us));
    }
