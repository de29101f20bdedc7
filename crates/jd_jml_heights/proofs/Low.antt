-- What a derivation tells of what is too high is there exactly where its height is above 200.
use Rattle.std.proofs.Common.{◌≡◌, ℕ, zero, suc, ◌+◌, ◌≤◌, min, max, Bool, true, false, cond, nat_lt, List, [], ◌∷◌, drop, length, Option, Some, None, refl, ap, ◌∙◌, arith}
use Rattle.std.proofs.lemmas.Bool.Decides.{nat_tests}
use Rattle.jd_grammar.specs.Grammars.{Forest, Done, Leaf, Node, yield}
use Rattle.jd_grammar.specs.Folds.{values}
use Rattle.jd_grammar.specs.Nodes.{all_of, filled}
use Rattle.jd_grammar.specs.declared.piles.NodeParts.{NodeParts}
use Rattle.jd_jml_tokens.specs.Lexemes.{PlainLexeme, place_of}
use Rattle.jd_jml_attributes.specs.declared.rows.Rule.{Rule}
use Rattle.jd_jml_attributes.specs.declared.rows.Rule.TheVariants as rules
use Rattle.jd_jml_attributes.specs.Forms.{PlainKind, Same, Other, PlainForm, empty, first_of, inside, linked, in_order}
use Rattle.jd_jml_attributes.specs.Rules.{row_of, rest, all_in_order, operands, behind_operands, above, suffix, step_before, made, high_at, with_high}
use Rattle.jd_jml_attributes.specs.Judging.{form_of_node, first_form, form_of}

-- ---- no place where the height is not above 200

abbrev Low : PlainForm → Type 0
Low f = f.height ≤ 200 → f.high ≡ None

abbrev LowParts : NodeParts PlainForm → Type 0
LowParts p = Low p.first × Low p.second × Low p.third × Low p.fourth

left_low : (m n k : ℕ) → max (min (m + n) 201) k ≤ 200 → m ≤ 200
left_low m n k le = omega arith

right_low : (m n k : ℕ) → max (min (m + n) 201) k ≤ 200 → k ≤ 200
right_low m n k le = omega arith

part_low : (m : ℕ) → min (m + 1) 201 ≤ 200 → m ≤ 200
part_low m le = omega arith

both_none : (p q : Option ℕ) → p ≡ None → q ≡ None → first_of p q ≡ None
both_none p q e g = ap (λ x. first_of x q) e ∙ g

empty_low : Low empty
empty_low = λ le. refl

order_low : (a b : PlainForm) → Low a → Low b → Low (in_order a b)
order_low a b x y = λ le. both_none a.high b.high (x (left_low a.height b.adds b.height le)) (y (right_low a.height b.adds b.height le))

all_low : (f : PlainForm) (p : NodeParts PlainForm) → Low f → LowParts p → Low (all_in_order f p)
all_low f p x (a, b, c, d) =
    order_low (in_order (in_order (in_order f p.first) p.second) p.third) p.fourth
    (order_low (in_order (in_order f p.first) p.second) p.third (order_low (in_order f p.first) p.second (order_low f p.first x a) b) c) d

first_low : (f : PlainForm) → Low f → Low (in_order empty f)
first_low f x = order_low empty f empty_low x

above_low : (kind : PlainKind) (f : PlainForm) → Low f → Low (above kind f)
above_low kind f x = λ le. x (part_low f.height le)

suffix_low : (kind : PlainKind) (f : PlainForm) → Low f → Low (suffix kind f)
suffix_low kind f x = λ le. x (part_low f.height le)

rest_low : (p : NodeParts PlainForm) → LowParts p → LowParts (rest p)
rest_low p (a, b, c, d) = (b, c, d, empty_low)

operands_low : (n : ℕ) (p : NodeParts PlainForm) → LowParts p → Low (operands n p)
operands_low zero p h = empty_low
operands_low (suc zero) p h = first_low p.first h.0
operands_low (suc (suc n)) p h = order_low (in_order empty p.first) p.second (first_low p.first h.0) h.1

behind_low : (n : ℕ) (p : NodeParts PlainForm) → LowParts p → LowParts (behind_operands n p)
behind_low zero p h = h
behind_low (suc zero) p h = rest_low p h
behind_low (suc (suc n)) p h = rest_low (rest p) (rest_low p h)

step_low : (k : PlainKind) (p : NodeParts PlainForm) → LowParts p → Low (step_before k p)
step_low Same p h = order_low p.first p.second h.0 h.1
step_low _ p h = order_low (suffix Other (in_order empty p.first)) p.second (suffix_low Other (in_order empty p.first) (first_low p.first h.0)) h.1

made_low : (r : Rule) (ts : List PlainLexeme) (p : NodeParts PlainForm) → LowParts p → Low (made r ts p)
made_low rules.Parts ts p h = all_low empty p empty_low h
made_low rules.Expression ts p h = all_low empty p empty_low h
made_low rules.Operand ts p h = empty_low
made_low rules.Identifier ts p h = λ le. refl
made_low rules.Above ts p h = above_low Other (all_in_order empty p) (all_low empty p empty_low h)
made_low rules.Parenthesized ts p h =
    all_low (above (inside p.first.kind) (in_order empty p.first)) (rest p) (above_low (inside p.first.kind) (in_order empty p.first) (first_low p.first h.0)) (rest_low p h)
made_low rules.CastOperand ts p h = above_low Other (in_order empty p.first) (first_low p.first h.0)
made_low (rules.Suffix n link) ts p h =
    all_low (suffix (linked link p.first.kind) (operands n p)) (behind_operands n p) (suffix_low (linked link p.first.kind) (operands n p) (operands_low n p h)) (behind_low n p h)
made_low rules.Sum ts p h = above_low Other (all_in_order empty p) (all_low empty p empty_low h)
made_low rules.Step ts p h = step_low p.second.kind p h
made_low rules.Last ts p h = first_low p.first h.0

-- ---- with the place of what is too high

with_low : (ts : List PlainLexeme) (f : PlainForm) → Low f → Low (with_high ts f)
with_low ts f x = λ le.
    let test : nat_lt 200 f.height ≡ false = grind (arith, nat_tests, le) in
    ap (high_at ts f.height) (x le) ∙ ap (λ b. cond b (Some (place_of 0 ts)) None) test

with_none : (ts : List PlainLexeme) (f : PlainForm) → (with_high ts f).high ≡ None → f.height ≤ 200
with_none ts f e = by f.high e
  where
    test : (b : Bool) → nat_lt 200 f.height ≡ b → cond b (Some (place_of 0 ts)) None ≡ None → f.height ≤ 200
    test true is g = absurd cc
    test false is g = grind (arith, nat_tests, is)

    by : (o : Option ℕ) → high_at ts f.height o ≡ None → f.height ≤ 200
    by (Some at) g = absurd cc
    by None g = test (nat_lt 200 f.height) refl g

-- ---- derivations

abbrev AllLow : List PlainForm → Type 0
AllLow [] = Unit {0}
AllLow (f ∷ fs) = Low f × AllLow fs

parts_low : (fs : List PlainForm) → AllLow fs → LowParts (filled (all_of empty) fs)
parts_low [] h = (empty_low, empty_low, empty_low, empty_low)
parts_low (a ∷ []) h = (h.0, empty_low, empty_low, empty_low)
parts_low (a ∷ b ∷ []) h = (h.0, h.1.0, empty_low, empty_low)
parts_low (a ∷ b ∷ c ∷ []) h = (h.0, h.1.0, h.1.1.0, empty_low)
parts_low (a ∷ b ∷ c ∷ d ∷ more) h = (h.0, h.1.0, h.1.1.0, h.1.1.1.0)

node_low : (p : ℕ) (ts : List PlainLexeme) (fs : List PlainForm) → AllLow fs → Low (form_of_node p ts fs)
node_low p ts fs h = with_low ts (made (row_of p).1 ts (filled (all_of empty) fs)) (made_low (row_of p).1 ts (filled (all_of empty) fs) (parts_low fs h))

forest_low : (f : Forest) (ts : List PlainLexeme) → AllLow (values form_of_node f ts)
forest_low Done ts = tt
forest_low (Leaf k f) ts = forest_low f (drop 1 ts)
forest_low (Node p c f) ts = (node_low p ts (values form_of_node c ts) (forest_low c ts), forest_low f (drop (length (yield c)) ts))

pub root_low : (f : Forest) (ts : List PlainLexeme) → (form_of f ts).height ≤ 200 → (form_of f ts).high ≡ None
root_low f ts le = first (values form_of_node f ts) (forest_low f ts) le
  where
    first : (fs : List PlainForm) → AllLow fs → (first_form fs).height ≤ 200 → (first_form fs).high ≡ None
    first [] h l = refl
    first (g ∷ gs) h l = h.0 l

pub root_none : (f : Forest) (ts : List PlainLexeme) → (form_of f ts).high ≡ None → (form_of f ts).height ≤ 200
root_none Done ts e = omega arith
root_none (Leaf k f) ts e = root_none f (drop 1 ts) e
root_none (Node p c f) ts e = with_none ts (made (row_of p).1 ts (filled (all_of empty) (values form_of_node c ts))) e
