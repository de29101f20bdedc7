-- Attributes, without places.
use Rattle.std.proofs.Common.{◌≡◌, ℕ, zero, suc, List, [], ◌∷◌, map, Bool, true, false, cond, nat_lt, Option, Some, None, refl, ap, ◌∙◌}
use Rattle.jd_grammar.specs.Nodes.{all_of, filled}
use Rattle.jd_grammar.specs.declared.piles.NodeParts.{NodeParts}
use Rattle.jd_jml_tokens.specs.Lexemes.{PlainLexeme, place_of}
use Rattle.jd_jml_attributes.specs.declared.rows.Rule.{Rule}
use Rattle.jd_jml_attributes.specs.declared.rows.Rule.TheVariants as rules
use Rattle.jd_jml_attributes.specs.Forms.{PlainKind, Same, Name, NameInParentheses, Other, PlainForm, empty, first_of, inside, linked, is_range, unmet, cast_behind, in_order}
use Rattle.jd_jml_attributes.specs.Rules.{row_of, all_in_order, rest, operands, behind_operands, of_kind, above, suffix, closed, asked_at, step_before, made, high_at, with_high}
use Rattle.jd_jml_attributes.specs.Judging.{form_of_node}
use Rattle.jd_jml_places.proofs.Values.{two, three, unplaced, place_apart, text_apart}

-- whether there is a place
abbrev pub somewhere : Option ℕ → Option ℕ
somewhere None = None
somewhere (Some at) = Some 0

abbrev pub unplaced_form : PlainForm → PlainForm
unplaced_form f = record { height = f.height; adds = f.adds; kind = f.kind; cast = somewhere f.cast; fault = somewhere f.fault; high = somewhere f.high }

abbrev unplaced_forms : NodeParts PlainForm → NodeParts PlainForm
unplaced_forms parts = record { first = unplaced_form parts.first; second = unplaced_form parts.second; third = unplaced_form parts.third; fourth = unplaced_form parts.fourth }

forms_apart : (fs : List PlainForm) → unplaced_forms (filled (all_of empty) fs) ≡ filled (all_of empty) (map unplaced_form fs)
forms_apart [] = refl
forms_apart (a ∷ []) = refl
forms_apart (a ∷ b ∷ []) = refl
forms_apart (a ∷ b ∷ c ∷ []) = refl
forms_apart (a ∷ b ∷ c ∷ d ∷ fs) = refl

-- ---- one before another

first_apart : (p q : Option ℕ) → somewhere (first_of p q) ≡ first_of (somewhere p) (somewhere q)
first_apart (Some p) (Some q) = refl
first_apart (Some p) None = refl
first_apart None (Some q) = refl
first_apart None None = refl

unmet_apart : (k : PlainKind) (c : Option ℕ) → somewhere (unmet k c) ≡ unmet k (somewhere c)
unmet_apart Same c = refl
unmet_apart NameInParentheses c = refl
unmet_apart _ c = refl

cast_apart : (k : PlainKind) (c d : Option ℕ) → somewhere (cast_behind k c d) ≡ cast_behind k (somewhere c) (somewhere d)
cast_apart Same c d = refl
cast_apart _ c d = refl

order_apart : (a b : PlainForm) → unplaced_form (in_order a b) ≡ in_order (unplaced_form a) (unplaced_form b)
order_apart a b =
    three (λ c f h. record (in_order a b) { cast = c; fault = f; high = h })
    (cast_apart a.kind a.cast b.cast)
    (first_apart (first_of a.fault b.fault) (unmet a.kind b.cast) ∙ two first_of (first_apart a.fault b.fault) (unmet_apart a.kind b.cast))
    (first_apart a.high b.high)

all_order_apart : (f : PlainForm) (parts : NodeParts PlainForm) → unplaced_form (all_in_order f parts) ≡ all_in_order (unplaced_form f) (unplaced_forms parts)
all_order_apart f parts =
    order_apart (in_order (in_order (in_order f parts.first) parts.second) parts.third) parts.fourth
    ∙ ap (λ x. in_order x (unplaced_form parts.fourth))
    (order_apart (in_order (in_order f parts.first) parts.second) parts.third
    ∙ ap (λ x. in_order x (unplaced_form parts.third))
    (order_apart (in_order f parts.first) parts.second ∙ ap (λ x. in_order x (unplaced_form parts.second)) (order_apart f parts.first)))

operands_apart : (n : ℕ) (parts : NodeParts PlainForm) → unplaced_form (operands n parts) ≡ operands n (unplaced_forms parts)
operands_apart zero parts = refl
operands_apart (suc zero) parts = order_apart empty parts.first
operands_apart (suc (suc n)) parts = order_apart (in_order empty parts.first) parts.second ∙ ap (λ x. in_order x (unplaced_form parts.second)) (order_apart empty parts.first)

behind_operands_apart : (n : ℕ) (parts : NodeParts PlainForm) → unplaced_forms (behind_operands n parts) ≡ behind_operands n (unplaced_forms parts)
behind_operands_apart zero parts = refl
behind_operands_apart (suc zero) parts = refl
behind_operands_apart (suc (suc n)) parts = refl

-- ---- rules

fault_apart : (b : Bool) (n : ℕ) (ts : List PlainLexeme) → somewhere (cond b None (Some (place_of n ts))) ≡ cond b None (Some (place_of n (unplaced ts)))
fault_apart true n ts = refl
fault_apart false n ts = ap Some (place_apart n ts)

asked_apart : (ts : List PlainLexeme) (n : ℕ) (b : Bool) (f : PlainForm) → unplaced_form (asked_at ts n b f) ≡ asked_at (unplaced ts) n b (unplaced_form f)
asked_apart ts n b f =
    ap (λ g. record (unplaced_form f) { fault = g })
    (first_apart f.fault (cond b None (Some (place_of n ts))) ∙ ap (first_of (somewhere f.fault)) (fault_apart b n ts))

step_apart : (k : PlainKind) (parts : NodeParts PlainForm) → unplaced_form (step_before k parts) ≡ step_before k (unplaced_forms parts)
step_apart Same parts = ap (λ (f : PlainForm). record f { adds = 0; kind = Other; cast = None }) (order_apart parts.first parts.second)
step_apart _ parts =
    order_apart (suffix Other (in_order empty parts.first)) parts.second
    ∙ ap (λ x. in_order (suffix Other x) (unplaced_form parts.second)) (order_apart empty parts.first)

made_apart : (r : Rule) (ts : List PlainLexeme) (parts : NodeParts PlainForm) → unplaced_form (made r ts parts) ≡ made r (unplaced ts) (unplaced_forms parts)
made_apart rules.Parts ts parts = all_order_apart empty parts
made_apart rules.Expression ts parts = ap closed (all_order_apart empty parts)
made_apart rules.Operand ts parts = refl
made_apart rules.Identifier ts parts = ap (λ x. of_kind (Name x)) (text_apart ts)
made_apart rules.Above ts parts = ap (above Other) (all_order_apart empty parts)
made_apart rules.Parenthesized ts parts =
    ap closed
    (all_order_apart (above (inside parts.first.kind) (in_order empty parts.first)) (rest parts)
    ∙ ap (λ x. all_in_order (above (inside parts.first.kind) x) (unplaced_forms (rest parts))) (order_apart empty parts.first))
made_apart rules.CastOperand ts parts =
    two (λ f at. record (above Other f) { cast = Some at }) (order_apart empty parts.first) (place_apart 0 ts)
made_apart (rules.Suffix n link) ts parts =
    all_order_apart (suffix (linked link parts.first.kind) (operands n parts)) (behind_operands n parts)
    ∙ two (λ x y. all_in_order (suffix (linked link parts.first.kind) x) y) (operands_apart n parts) (behind_operands_apart n parts)
made_apart rules.Sum ts parts =
    asked_apart ts 4 (is_range parts.first.kind parts.second.kind) (above Other (all_in_order empty parts))
    ∙ ap (λ f. asked_at (unplaced ts) 4 (is_range parts.first.kind parts.second.kind) (above Other f)) (all_order_apart empty parts)
made_apart rules.Step ts parts = step_apart parts.second.kind parts
made_apart rules.Last ts parts = ap (λ (f : PlainForm). record f { adds = 0; kind = Same; cast = None }) (order_apart empty parts.first)

high_apart : (ts : List PlainLexeme) (height : ℕ) (h : Option ℕ) → somewhere (high_at ts height h) ≡ high_at (unplaced ts) height (somewhere h)
high_apart ts height (Some at) = refl
high_apart ts height None = by (nat_lt 200 height)
  where
    by : (b : Bool) → somewhere (cond b (Some (place_of 0 ts)) None) ≡ cond b (Some (place_of 0 (unplaced ts))) None
    by true = ap Some (place_apart 0 ts)
    by false = refl

with_high_apart : (ts : List PlainLexeme) (f : PlainForm) → unplaced_form (with_high ts f) ≡ with_high (unplaced ts) (unplaced_form f)
with_high_apart ts f = ap (λ h. record (unplaced_form f) { high = h }) (high_apart ts f.height f.high)

pub form_apart : (p : ℕ) (ts : List PlainLexeme) (fs : List PlainForm) → unplaced_form (form_of_node p ts fs) ≡ form_of_node p (unplaced ts) (map unplaced_form fs)
form_apart p ts fs =
    with_high_apart ts (made (row_of p).1 ts (filled (all_of empty) fs))
    ∙ ap (with_high (unplaced ts)) (made_apart (row_of p).1 ts (filled (all_of empty) fs) ∙ ap (made (row_of p).1 (unplaced ts)) (forms_apart fs))

pub none_apart : (p q : Option ℕ) → somewhere p ≡ somewhere q → p ≡ None → q ≡ None
none_apart p None e h = refl
none_apart None (Some q) e h = absurd cc
none_apart (Some p) (Some q) e h = absurd cc
