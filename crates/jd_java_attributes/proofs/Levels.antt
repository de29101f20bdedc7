-- Levels of expressions without an operator of theirs.
use Rattle.std.proofs.Common.{◌≡◌, ◌≤◌, ℕ, zero, suc, List, [], ◌∷◌, map, replicate, take, drop, refl, sym, ap, ap₂, subst, ◌∙◌, arith}
use Rattle.jd_grammar.specs.Counted.{IsAlone, IsKept, IsQuiet}
use Rattle.jd_grammar.specs.Nodes.{all_of, filled}
use Rattle.jd_grammar.specs.declared.piles.NodeParts.{NodeParts}
use Rattle.jd_java_tokens.specs.Contents.{PlainLexeme}
use Rattle.jd_java_tokens.specs.Lexemes.{lexeme_view}
use Rattle.jd_java_attributes.specs.declared.form.Form.{Form}
use Rattle.jd_java_attributes.specs.declared.form.TheConstants.{EMPTY}
use Rattle.jd_java_attributes.specs.declared.heading.Told.TheVariants as tells
use Rattle.jd_java_attributes.specs.declared.rows.Rule.{Rule}
use Rattle.jd_java_attributes.specs.declared.rows.Rule.TheVariants as rules
use Rattle.jd_java_attributes.specs.Folding.{IsBlank, IsFormAt, IsSettled, IsToldAt, alone, form_at, told_view}
use Rattle.jd_java_attributes.specs.Headings.{PlainHeading, all_joined, bare, told}
use Rattle.jd_java_attributes.specs.Judging.{names_of}
use Rattle.jd_java_attributes.specs.Rules.{made, row_of, with_high}
use Rattle.jd_java_attributes.specs.Short.{IsLevel}
use Rattle.jd_java_attributes.proofs.Names.{few_names}
use Rattle.jd_java_attributes.proofs.Settled.{stays, stays_whole}

abbrev Row : Type 0
Row = ℕ × ℕ × Rule

pub level : IsLevel (0, 2, rules.Expression) 1
level = record { names = refl; keeps = λ f s ts. stays f s ts }

pub list : IsLevel (0, 2, rules.Parts) 1
list = record { names = refl; keeps = λ f s ts. stays_whole f s ts }

pub wide_level : IsLevel (0, 3, rules.Expression) 2
wide_level = record { names = refl; keeps = λ f s ts. stays f s ts }

pub only_level : IsLevel (0, 1, rules.Expression) 0
only_level = record { names = refl; keeps = λ f s ts. stays f s ts }

pub only_list : IsLevel (0, 1, rules.Parts) 0
only_list = record { names = refl; keeps = λ f s ts. stays_whole f s ts }

names_are : (p : ℕ) (row : Row) (n : ℕ) → row ≡ row_of p → row.1 ≡ n → names_of p ≡ n
names_are p row n of is = sym (ap (λ (r : Row). r.1) of) ∙ is

-- ---- forms

empty_filled : (n : ℕ) → n ≤ 4 → filled (all_of EMPTY) (replicate n EMPTY) ≡ all_of EMPTY
empty_filled zero few = refl
empty_filled (suc zero) few = refl
empty_filled (suc (suc zero)) few = refl
empty_filled (suc (suc (suc zero))) few = refl
empty_filled (suc (suc (suc (suc zero)))) few = refl
empty_filled (suc (suc (suc (suc (suc n))))) few = absurd (omega (arith, few))

pub quiet_form : (p : ℕ) (row : Row) → row ≡ row_of p → IsBlank row → IsQuiet names_of IsFormAt EMPTY p row.1
quiet_form p row of is =
    let names = names_are p row row.1 of refl in
    let most = few_names p in
    let few : row.1 ≤ 4 = omega (arith, names, most) in
    record {
      names = names;
      quiet = λ ts.
          let us = map lexeme_view ts in
          sym (ap (λ (r : Row). with_high us (made r.2 r.0 us (filled (all_of EMPTY) (replicate row.1 EMPTY)))) (sym of)
          ∙ (ap (λ parts. with_high us (made row.2 row.0 us parts)) (empty_filled row.1 few) ∙ is.empty us));
    }

alone_filled : (n : ℕ) (f : Form) → n ≤ 3 → filled (all_of EMPTY) (f ∷ replicate n EMPTY) ≡ alone f
alone_filled zero f few = refl
alone_filled (suc zero) f few = refl
alone_filled (suc (suc zero)) f few = refl
alone_filled (suc (suc (suc zero))) f few = refl
alone_filled (suc (suc (suc (suc n)))) f few = absurd (omega (arith, few))

pub kept_form : (p n : ℕ) (row : Row) (f : Form) → row ≡ row_of p → IsLevel row n → IsSettled f → IsKept names_of IsFormAt EMPTY p n f
kept_form p n row f of l s =
    let names = names_are p row (suc n) of l.names in
    let most = few_names p in
    let few : n ≤ 3 = omega (arith, names, most) in
    record {
      names = names;
      keeps = λ ts.
          let us = map lexeme_view ts in
          sym (ap (λ (r : Row). with_high us (made r.2 r.0 us (filled (all_of EMPTY) (f ∷ replicate n EMPTY)))) (sym of)
          ∙ (ap (λ parts. with_high us (made row.2 row.0 us parts)) (alone_filled n f few) ∙ l.keeps f s us));
    }

-- behind whose first part nothing stands
pub alone_form : (p : ℕ) (ts : List PlainLexeme) (stack after : List Form) (row : Row) (f v : Form) → row ≡ row_of p → IsAlone EMPTY row.1 f stack after → v ≡ with_high ts (made row.2 row.0 ts (alone f)) → v ≡ form_at p ts (take (names_of p) stack)
alone_form p ts stack after row f v of is e =
    let names = names_are p row row.1 of refl in
    let most = few_names p in
    let count = is.count in
    let few : is.others ≤ 3 = omega (arith, names, most, count) in
    e
    ∙ (ap (λ parts. with_high ts (made row.2 row.0 ts parts)) (sym (alone_filled is.others f few))
    ∙ ap₂ (λ (r : Row) us. with_high ts (made r.2 r.0 ts (filled (all_of EMPTY) us))) of (sym is.parts ∙ ap (λ k. take k stack) (sym names)))

pub alone_rest : (p : ℕ) (stack after : List Form) (row : Row) (f : Form) → row ≡ row_of p → IsAlone EMPTY row.1 f stack after → after ≡ drop (names_of p) stack
alone_rest p stack after row f of is = is.left ∙ ap (λ k. drop k stack) (sym (names_are p row row.1 of refl))

-- without parts
pub leaf_form : (p : ℕ) (ts : List PlainLexeme) (stack : List Form) (row : Row) (v : Form) → row ≡ row_of p → row.1 ≡ 0 → v ≡ with_high ts (made row.2 row.0 ts (alone EMPTY)) → v ≡ form_at p ts (take (names_of p) stack)
leaf_form p ts stack row v of none e =
    let names = names_are p row 0 of none in
    e ∙ (ap (λ (r : Row). with_high ts (made r.2 r.0 ts (all_of EMPTY))) of ∙ ap (λ k. form_at p ts (take k stack)) (sym names))

pub leaf_rest : (p : ℕ) (stack : List Form) (row : Row) → row ≡ row_of p → row.1 ≡ 0 → stack ≡ drop (names_of p) stack
leaf_rest p stack row of none = ap (λ k. drop k stack) (sym (names_are p row 0 of none))

-- ---- what is told

bare_filled : (n : ℕ) → n ≤ 4 → filled (all_of bare) (map told_view (replicate n tells.Nothing)) ≡ all_of bare
bare_filled zero few = refl
bare_filled (suc zero) few = refl
bare_filled (suc (suc zero)) few = refl
bare_filled (suc (suc (suc zero))) few = refl
bare_filled (suc (suc (suc (suc zero)))) few = refl
bare_filled (suc (suc (suc (suc (suc n))))) few = absurd (omega (arith, few))

pub quiet_telling : (p : ℕ) (row : Row) → row ≡ row_of p → ((ts : List PlainLexeme) (parts : NodeParts PlainHeading) → told row.2 ts parts ≡ all_joined parts) → IsQuiet names_of IsToldAt tells.Nothing p row.1
quiet_telling p row of tells_parts =
    let names = names_are p row row.1 of refl in
    let most = few_names p in
    let few : row.1 ≤ 4 = omega (arith, names, most) in
    record {
      names = names;
      quiet = λ ts.
          let us = map lexeme_view ts in
          sym (ap (λ (r : Row). told r.2 us (filled (all_of bare) (map told_view (replicate row.1 tells.Nothing)))) (sym of)
          ∙ (ap (told row.2 us) (bare_filled row.1 few) ∙ tells_parts us (all_of bare)));
    }
