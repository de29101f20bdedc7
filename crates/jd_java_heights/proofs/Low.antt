-- What a derivation tells of what is too high is there exactly where a height is above 200.
use Rattle.std.proofs.Common.{◌≡◌, ℕ, zero, suc, ◌+◌, ◌≤◌, min, max, Bool, true, false, cond, nat_lt, ◌||◌, List, [], ◌∷◌, drop, length, Option, Some, None, refl, ap, ◌∙◌, arith}
use Rattle.std.proofs.lemmas.Bool.Decides.{nat_tests}
use Rattle.jd_grammar.specs.Grammars.{Forest, Done, Leaf, Node, yield}
use Rattle.jd_grammar.specs.Folds.{values}
use Rattle.jd_grammar.specs.Nodes.{all_of, filled}
use Rattle.jd_grammar.specs.declared.piles.NodeParts.{NodeParts}
use Rattle.jd_java_tokens.specs.Contents.{PlainLexeme}
use Rattle.jd_java_tokens.specs.Heads.{place_of}
use Rattle.jd_java_attributes.specs.declared.form.Form.{Form}
use Rattle.jd_java_attributes.specs.declared.form.Kind.{Kind}
use Rattle.jd_java_attributes.specs.declared.form.Kind.TheVariants as kinds
use Rattle.jd_java_attributes.specs.declared.form.Asked.{Asked}
use Rattle.jd_java_attributes.specs.declared.form.Asked.TheVariants as asks
use Rattle.jd_java_attributes.specs.declared.rows.Rule.{Rule}
use Rattle.jd_java_attributes.specs.declared.rows.Rule.TheVariants as rules
use Rattle.jd_java_attributes.specs.Forms.{first_of, inside, in_order}
use Rattle.jd_java_attributes.specs.Rules.{row_of, rest, all_in_order, operands, behind_operands, only_tokens, operand, above, suffix, nested, made, high_at, with_high}
use Rattle.jd_java_attributes.specs.Judging.{PlainAttributes, nothing, plain_forms, attributes, first_of_all, attributes_of}

-- ---- no place where no height is above 200

abbrev Low : Form → Type 0
Low f = f.height ≤ 200 → f.nesting ≤ 200 → f.high ≡ None

abbrev LowParts : NodeParts Form → Type 0
LowParts p = Low p.first × Low p.second × Low p.third × Low p.fourth

left_low : (m n k : ℕ) → max (min (m + n) 201) k ≤ 200 → m ≤ 200
left_low m n k le = omega arith

right_low : (m n k : ℕ) → max (min (m + n) 201) k ≤ 200 → k ≤ 200
right_low m n k le = omega arith

left_nested : (m n : ℕ) → max m n ≤ 200 → m ≤ 200
left_nested m n le = omega arith

right_nested : (m n : ℕ) → max m n ≤ 200 → n ≤ 200
right_nested m n le = omega arith

part_low : (m : ℕ) → min (m + 1) 201 ≤ 200 → m ≤ 200
part_low m le = omega arith

both_none : (p q : Option ℕ) → p ≡ None → q ≡ None → first_of p q ≡ None
both_none p q e g = ap (λ x. first_of x q) e ∙ g

order_low : (a b : Form) → Low a → Low b → Low (in_order a b)
order_low a b x y = λ le ln.
    both_none a.high b.high (x (left_low a.height b.adds b.height le) (left_nested a.nesting b.nesting ln))
    (y (right_low a.height b.adds b.height le) (right_nested a.nesting b.nesting ln))

all_low : (f : Form) (p : NodeParts Form) → Low f → LowParts p → Low (all_in_order f p)
all_low f p x (a, b, c, d) =
    order_low (in_order (in_order (in_order f p.first) p.second) p.third) p.fourth
    (order_low (in_order (in_order f p.first) p.second) p.third (order_low (in_order f p.first) p.second (order_low f p.first x a) b) c) d

tokens_low : (n : ℕ) → Low (only_tokens n)
tokens_low n = λ le ln. refl

above_low : (kind : Kind) (f : Form) → Low f → Low (above kind f)
above_low kind f x = λ le ln. x (part_low f.height le) ln

suffix_low : (kind : Kind) (asked : Asked) (f : Form) → Low f → Low (suffix kind asked f)
suffix_low kind asked f x = λ le ln. x (part_low f.height le) ln

nested_low : (f : Form) → Low f → Low (nested f)
nested_low f x = λ le ln. x le (part_low f.nesting ln)

rest_low : (p : NodeParts Form) → LowParts p → LowParts (rest p)
rest_low p (a, b, c, d) = (b, c, d, λ le ln. refl)

operands_low : (m : ℕ) (f : Form) (p : NodeParts Form) → Low f → LowParts p → Low (operands m f p)
operands_low zero f p x h = x
operands_low (suc zero) f p x h = order_low f p.first x h.0
operands_low (suc (suc m)) f p x h = order_low (in_order f p.first) p.second (order_low f p.first x h.0) h.1

behind_low : (m : ℕ) (p : NodeParts Form) → LowParts p → LowParts (behind_operands m p)
behind_low zero p h = h
behind_low (suc zero) p h = rest_low p h
behind_low (suc (suc m)) p h = rest_low (rest p) (rest_low p h)

made_low : (r : Rule) (n : ℕ) (ts : List PlainLexeme) (p : NodeParts Form) → LowParts p → Low (made r n ts p)
made_low rules.Expression n ts p h = all_low (only_tokens n) p (tokens_low n) h
made_low (rules.Operand kind) n ts p h = all_low (operand kind (only_tokens n)) p (tokens_low n) h
made_low (rules.Above m kind) n ts p h =
    all_low (above kind (operands m (only_tokens n) p)) (behind_operands m p) (above_low kind (operands m (only_tokens n) p) (operands_low m (only_tokens n) p (tokens_low n) h)) (behind_low m p h)
made_low rules.Parenthesized n ts p h =
    all_low (above (inside p.first.kind) (in_order (only_tokens n) p.first)) (rest p)
    (above_low (inside p.first.kind) (in_order (only_tokens n) p.first) (order_low (only_tokens n) p.first (tokens_low n) h.0)) (rest_low p h)
made_low rules.Count n ts p h = above_low kinds.Effect (in_order (only_tokens n) p.first) (order_low (only_tokens n) p.first (tokens_low n) h.0)
made_low rules.CastOperand n ts p h = above_low kinds.Other (in_order (only_tokens n) p.first) (order_low (only_tokens n) p.first (tokens_low n) h.0)
made_low (rules.Suffix m kind) n ts p h =
    all_low (suffix kind asks.Nothing (operands m (only_tokens n) p)) (behind_operands m p)
    (suffix_low kind asks.Nothing (operands m (only_tokens n) p) (operands_low m (only_tokens n) p (tokens_low n) h)) (behind_low m p h)
made_low (rules.TargetSuffix m) n ts p h =
    all_low (suffix kinds.Effect (asks.Target (place_of 0 ts)) (operands m (only_tokens n) p)) (behind_operands m p)
    (suffix_low kinds.Effect (asks.Target (place_of 0 ts)) (operands m (only_tokens n) p) (operands_low m (only_tokens n) p (tokens_low n) h)) (behind_low m p h)
made_low rules.EffectFirst n ts p h = all_low (only_tokens n) p (tokens_low n) h
made_low rules.NameEffect n ts p h = all_low (only_tokens n) p (tokens_low n) h
made_low rules.Nested n ts p h = nested_low (all_in_order (only_tokens n) p) (all_low (only_tokens n) p (tokens_low n) h)
made_low rules.Statements n ts p h = all_low (only_tokens n) (record p { first = nested p.first }) (tokens_low n) (nested_low p.first h.0, h.1, h.2, h.3)
made_low _ n ts p h = all_low (only_tokens n) p (tokens_low n) h

-- ---- with the place of what is too high

either_false : (p q : Bool) → p ≡ false → q ≡ false → (p || q) ≡ false
either_false false q e g = g
either_false true q e g = e

with_low : (ts : List PlainLexeme) (f : Form) → Low f → Low (with_high ts f)
with_low ts f x = λ le ln.
    let high : nat_lt 200 f.height ≡ false = grind (arith, nat_tests, le) in
    let deep : nat_lt 200 f.nesting ≡ false = grind (arith, nat_tests, ln) in
    ap (high_at ts f) (x le ln) ∙ ap (λ b. cond b (Some (place_of 0 ts)) None) (either_false (nat_lt 200 f.height) (nat_lt 200 f.nesting) high deep)

with_none : (ts : List PlainLexeme) (f : Form) → (with_high ts f).high ≡ None → (f.height ≤ 200) × (f.nesting ≤ 200)
with_none ts f e = by f.high e
  where
    test : (b c : Bool) → nat_lt 200 f.height ≡ b → nat_lt 200 f.nesting ≡ c → cond (b || c) (Some (place_of 0 ts)) None ≡ None
        → (f.height ≤ 200) × (f.nesting ≤ 200)
    test true c is k g = absurd cc
    test false true is k g = absurd cc
    test false false is k g = (grind (arith, nat_tests, is), grind (arith, nat_tests, k))

    by : (o : Option ℕ) → high_at ts f o ≡ None → (f.height ≤ 200) × (f.nesting ≤ 200)
    by (Some at) g = absurd cc
    by None g = test (nat_lt 200 f.height) (nat_lt 200 f.nesting) refl refl g

-- ---- derivations

abbrev AllLow : List PlainAttributes → Type 0
AllLow [] = Unit {0}
AllLow (a ∷ marks) = Low a.form × AllLow marks

none_low : Low nothing.form
none_low = λ le ln. refl

parts_low : (marks : List PlainAttributes) → AllLow marks → LowParts (plain_forms (filled (all_of nothing) marks))
parts_low [] h = (none_low, none_low, none_low, none_low)
parts_low (a ∷ []) h = (h.0, none_low, none_low, none_low)
parts_low (a ∷ b ∷ []) h = (h.0, h.1.0, none_low, none_low)
parts_low (a ∷ b ∷ c ∷ []) h = (h.0, h.1.0, h.1.1.0, none_low)
parts_low (a ∷ b ∷ c ∷ d ∷ more) h = (h.0, h.1.0, h.1.1.0, h.1.1.1.0)

abbrev form_made : ℕ → List PlainLexeme → List PlainAttributes → Form
form_made p ts marks = made (row_of p).2 (row_of p).0 ts (plain_forms (filled (all_of nothing) marks))

node_low : (p : ℕ) (ts : List PlainLexeme) (marks : List PlainAttributes) → AllLow marks → Low (attributes p ts marks).form
node_low p ts marks h = with_low ts (form_made p ts marks) (made_low (row_of p).2 (row_of p).0 ts (plain_forms (filled (all_of nothing) marks)) (parts_low marks h))

forest_low : (f : Forest) (ts : List PlainLexeme) → AllLow (values attributes f ts)
forest_low Done ts = tt
forest_low (Leaf k f) ts = forest_low f (drop 1 ts)
forest_low (Node p c f) ts = (node_low p ts (values attributes c ts) (forest_low c ts), forest_low f (drop (length (yield c)) ts))

pub root_low : (f : Forest) (ts : List PlainLexeme) → (attributes_of f ts).form.height ≤ 200 → (attributes_of f ts).form.nesting ≤ 200
    → (attributes_of f ts).form.high ≡ None
root_low f ts le ln = first (values attributes f ts) (forest_low f ts) le ln
  where
    first : (marks : List PlainAttributes) → AllLow marks → (first_of_all marks).form.height ≤ 200 → (first_of_all marks).form.nesting ≤ 200
        → (first_of_all marks).form.high ≡ None
    first [] h l n = refl
    first (g ∷ gs) h l n = h.0 l n

pub root_none : (f : Forest) (ts : List PlainLexeme) → (attributes_of f ts).form.high ≡ None
    → ((attributes_of f ts).form.height ≤ 200) × ((attributes_of f ts).form.nesting ≤ 200)
root_none Done ts e = (omega arith, omega arith)
root_none (Leaf k f) ts e = root_none f (drop 1 ts) e
root_none (Node p c f) ts e = with_none ts (form_made p ts (values attributes c ts)) e
