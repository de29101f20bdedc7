-- Casts and sums of a node without fault.
use Rattle.std.proofs.Common.{◌≡◌, ◌⊎◌, ℕ, List, Bool, true, false, cond, ◌&&◌, Some, None, refl, sym, ap, subst, ◌∙◌, true≢false}
use Rattle.std.specs.Str.{bytes_eq}
use Rattle.std.proofs.lemmas.Slice.Eq.{bytes_eq-Decides}
use Rattle.jd_grammar.specs.declared.piles.NodeParts.{NodeParts}
use Rattle.jd_jml_tokens.specs.Lexemes.{PlainLexeme, place_of}
use Rattle.jd_syntax.specs.JavaTypes.{PlainIdentifier}
use Rattle.jd_syntax.specs.SpecTrees as jml
use Rattle.jd_syntax.specs.SpecTrees.{PlainSpec}
use Rattle.jd_syntax.specs.declared.java.InfixOperator.TheVariants as operators
use Rattle.jd_jml_values.specs.Values as values
use Rattle.jd_jml_values.specs.Values.{PlainValue}
use Rattle.jd_jml_values.specs.Parts.{expression_of, name_of}
use Rattle.jd_jml_attributes.specs.Forms.{PlainKind, Same, Name, Between, Other, PlainForm, empty, inside, is_range, in_order}
use Rattle.jd_jml_attributes.specs.Rules.{rest, all_in_order, above, suffix, parenthesized, sum}
use Rattle.jd_jml_texts.specs.Kept.{IsRange}
use Rattle.jd_jml_proper.proofs.Told.{OfExpr}
use Rattle.jd_jml_proper.proofs.Rules.{first_none, order_none, NoFaults, all_none, cast_told}

-- ---- where there are no faults

holds_if_none : (b : Bool) (at : ℕ) → cond b None (Some at) ≡ None → b ≡ true
holds_if_none true at e = refl
holds_if_none false at e = absurd cc

pub asked_none : (ts : List PlainLexeme) (p : NodeParts PlainForm) → (sum ts p).fault ≡ None → ((all_in_order empty p).fault ≡ None) × (is_range p.first.kind p.second.kind ≡ true)
asked_none ts p e =
    let (x, y) = first_none (all_in_order empty p).fault (cond (is_range p.first.kind p.second.kind) None (Some (place_of 4 ts))) e in
    (x, holds_if_none (is_range p.first.kind p.second.kind) (place_of 4 ts) y)

pub suffix1_none : (k : PlainKind) (p : NodeParts PlainForm) → (all_in_order (suffix k (in_order empty p.first)) (rest p)).fault ≡ None → NoFaults p
suffix1_none k p e =
    let (x, (b, c, d, h), u) = all_none (suffix k (in_order empty p.first)) (rest p) e in
    let (y, a, w) = order_none empty p.first x in
    (a, b, c, d)

pub suffix2_none : (k : PlainKind) (p : NodeParts PlainForm) → (all_in_order (suffix k (in_order (in_order empty p.first) p.second)) (rest (rest p))).fault ≡ None → NoFaults p
suffix2_none k p e =
    let (x, (c, d, h, i), u) = all_none (suffix k (in_order (in_order empty p.first) p.second)) (rest (rest p)) e in
    let (y, b, w) = order_none (in_order empty p.first) p.second x in
    let (z, a, w') = order_none empty p.first y in
    (a, b, c, d)

abbrev within : NodeParts PlainForm → PlainForm
within p = above (inside p.first.kind) (in_order empty p.first)

pub parenthesized_none : (p : NodeParts PlainForm) → (parenthesized p).fault ≡ None → NoFaults p
parenthesized_none p e =
    let (x, (b, c, d, h), u) = all_none (within p) (rest p) e in
    let (y, a, w) = order_none empty p.first x in
    (a, b, c, d)

-- ---- casts and sums

pub proper_cast : (p : NodeParts PlainForm) (parts : NodeParts PlainValue) → OfExpr p.first.kind parts.first
    → ((p.second.kind ≡ Same) ⊎ (p.second.kind ≡ Other)) × ((d : PlainSpec) → parts.second ≡ values.Expression d → (at : ℕ) × (p.second.cast ≡ Some at))
    → (parenthesized p).fault ≡ None → (d : PlainSpec) → parts.second ≡ values.Expression d → (at : ℕ) × (x : List ℕ) × (expression_of parts.first ≡ jml.Name at x)
proper_cast p parts h k e d is =
    let (x, y, u) = all_none (within p) (rest p) e in
    let (at, c) = k.1 d is in
    cast_told p.first.kind parts.first p.second.cast at h c u

and_both : (p q : Bool) → (p && q) ≡ true → (p ≡ true) × (q ≡ true)
and_both true q e = (refl, e)
and_both false q e = absurd (true≢false (sym e))

range_told : (k : PlainKind) (v : PlainValue) (x : List ℕ) → OfExpr k v → is_range (Name x) k ≡ true → IsRange x (expression_of v)
range_told (Between y z) v x (at, low, name, high, other, a, b, e) r =
    let (f, g) = and_both (bytes_eq y x) (bytes_eq z x) r in (
      at,
      low,
      name,
      high,
      other,
      a,
      b,
      ap expression_of e
          ∙ ap (λ w. jml.Infix at operators.AndAlso (jml.Infix low operators.LessOrEqual a (jml.Name name w)) (jml.Infix high operators.Less (jml.Name other z) b)) ((bytes_eq-Decides y x).0 f)
          ∙ ap (λ w. jml.Infix at operators.AndAlso (jml.Infix low operators.LessOrEqual a (jml.Name name x)) (jml.Infix high operators.Less (jml.Name other w) b)) ((bytes_eq-Decides z x).0 g),
    )
range_told _ v x h r = absurd (true≢false (sym r))

pub proper_sum : (ts : List PlainLexeme) (p : NodeParts PlainForm) (parts : NodeParts PlainValue) → (x : PlainIdentifier) × (parts.first ≡ values.Named x) × (p.first.kind ≡ Name x.name)
    → OfExpr p.second.kind parts.second → (sum ts p).fault ≡ None → IsRange (name_of parts.first).name (expression_of parts.second)
proper_sum ts p parts (x, is, ek) k e =
    let r = (asked_none ts p e).1 in
    subst (λ w. IsRange (name_of w).name (expression_of parts.second)) (sym is)
    (range_told p.second.kind parts.second x.name k (ap (λ w. is_range w p.second.kind) (sym ek) ∙ r))
