-- What a rule without fault tells of the parts of a node: they are without fault too.
use Rattle.std.proofs.Common.{◌≡◌, ℕ, zero, suc, List, Bool, true, false, cond, Option, Some, None, refl, sym, ap, ◌∙◌}
use Rattle.jd_grammar.specs.declared.piles.NodeParts.{NodeParts}
use Rattle.jd_java_tokens.specs.Contents.{PlainLexeme}
use Rattle.jd_java_tokens.specs.Heads.{place_of, text_of}
use Rattle.jd_syntax.specs.JavaTrees.{JavaExpr}
use Rattle.jd_java_values.specs.Values as values
use Rattle.jd_java_values.specs.Values.{PlainValue}
use Rattle.jd_java_attributes.specs.declared.form.Form.{Form}
use Rattle.jd_java_attributes.specs.declared.form.Kind.TheVariants as kinds
use Rattle.jd_java_attributes.specs.declared.form.Asked.TheVariants as asks
use Rattle.jd_java_attributes.specs.declared.rows.Rule.{Rule}
use Rattle.jd_java_attributes.specs.declared.rows.Rule.TheVariants as rules
use Rattle.jd_java_attributes.specs.Forms.{first_of, is_target, inside, unmet, in_order}
use Rattle.jd_java_attributes.specs.Rules.{rest, all_in_order, only_tokens, operand, above, suffix, nested, is_effect, made}
use Rattle.jd_java_attributes.specs.Headings.{PlainHeading, joined, all_joined, declaration_by, misplaced, unless_named, told}
use Rattle.jd_java_attributes.specs.declared.heading.Declared.{Declared}
use Rattle.jd_java_attributes.specs.declared.heading.Declared.TheVariants as declares
use Rattle.jd_java_proper.proofs.Told.{IsName, OfOperand, cast_told}

pub first_none : (p q : Option ℕ) → first_of p q ≡ None → (p ≡ None) × (q ≡ None)
first_none (Some p) (Some q) e = absurd cc
first_none (Some p) None e = absurd cc
first_none None q e = (refl, e)

pub both_none : (p q : Option ℕ) → p ≡ None → q ≡ None → first_of p q ≡ None
both_none p q e g = ap (λ x. first_of x q) e ∙ g

-- ---- forms

pub order_none : (a b : Form) → (in_order a b).fault ≡ None → (a.fault ≡ None) × (b.fault ≡ None) × (unmet a.kind b.asked ≡ None)
order_none a b e =
    let (ab, u) = first_none (first_of a.fault b.fault) (unmet a.kind b.asked) e in
    let (x, y) = first_none a.fault b.fault ab in
    (x, y, u)

abbrev pub NoFaults : NodeParts Form → Type 0
NoFaults p = (p.first.fault ≡ None) × (p.second.fault ≡ None) × (p.third.fault ≡ None) × (p.fourth.fault ≡ None)

-- of all in order: none in what stands before them, nor in them, nor between the first of them and that
pub all_none : (f : Form) (p : NodeParts Form) → (all_in_order f p).fault ≡ None → (f.fault ≡ None) × NoFaults p × (unmet f.kind p.first.asked ≡ None)
all_none f p e =
    let (abc, d, u) = order_none (in_order (in_order (in_order f p.first) p.second) p.third) p.fourth e in
    let (ab, c, u') = order_none (in_order (in_order f p.first) p.second) p.third abc in
    let (a, b, u'') = order_none (in_order f p.first) p.second ab in
    let (x, y, z) = order_none f p.first a in
    (x, (y, b, c, d), z)

-- with the first, and with the first two, in what stands before the others
one_none : (f g : Form) (p : NodeParts Form) → (g.fault ≡ None → (in_order f p.first).fault ≡ None) → (all_in_order g (rest p)).fault ≡ None → NoFaults p
one_none f g p same e =
    let (x, (b, c, d, h), u) = all_none g (rest p) e in
    let (y, a, w) = order_none f p.first (same x) in
    (a, b, c, d)

two_none : (f g : Form) (p : NodeParts Form) → (g.fault ≡ None → (in_order (in_order f p.first) p.second).fault ≡ None) → (all_in_order g (rest (rest p))).fault ≡ None → NoFaults p
two_none f g p same e =
    let (x, (c, d, h, i), u) = all_none g (rest (rest p)) e in
    let (y, b, w) = order_none (in_order f p.first) p.second (same x) in
    let (z, a, w') = order_none f p.first y in
    (a, b, c, d)

-- rules that look at the first part alone
abbrev pub is_single : Rule → Bool
is_single rules.Count = true
is_single rules.CastOperand = true
is_single _ = false

abbrev pub NoneBehind : NodeParts Form → Type 0
NoneBehind p = (p.second.fault ≡ None) × (p.third.fault ≡ None) × (p.fourth.fault ≡ None)

pub forms_none : (r : Rule) (n : ℕ) (ts : List PlainLexeme) (p : NodeParts Form) → (is_single r ≡ true → NoneBehind p) → (made r n ts p).fault ≡ None → NoFaults p
forms_none rules.Expression n ts p s e = (all_none (only_tokens n) p e).1
forms_none (rules.Operand kind) n ts p s e = (all_none (operand kind (only_tokens n)) p e).1
forms_none (rules.Above zero kind) n ts p s e = (all_none (above kind (only_tokens n)) p e).1
forms_none (rules.Above (suc zero) kind) n ts p s e = one_none (only_tokens n) (above kind (in_order (only_tokens n) p.first)) p (λ x. x) e
forms_none (rules.Above (suc (suc m)) kind) n ts p s e = two_none (only_tokens n) (above kind (in_order (in_order (only_tokens n) p.first) p.second)) p (λ x. x) e
forms_none rules.Parenthesized n ts p s e = one_none (only_tokens n) (above (inside p.first.kind) (in_order (only_tokens n) p.first)) p (λ x. x) e
forms_none rules.Count n ts p s e =
    let (x, y) = first_none (in_order (only_tokens n) p.first).fault (cond (is_target p.first.kind) None (Some (place_of (in_order (only_tokens n) p.first).tokens ts))) e in
    let (z, a, u) = order_none (only_tokens n) p.first x in
    let (b, c, d) = s refl in
    (a, b, c, d)
forms_none rules.CastOperand n ts p s e =
    let (z, a, u) = order_none (only_tokens n) p.first e in
    let (b, c, d) = s refl in
    (a, b, c, d)
forms_none (rules.Suffix zero kind) n ts p s e = (all_none (suffix kind asks.Nothing (only_tokens n)) p e).1
forms_none (rules.Suffix (suc zero) kind) n ts p s e = one_none (only_tokens n) (suffix kind asks.Nothing (in_order (only_tokens n) p.first)) p (λ x. x) e
forms_none (rules.Suffix (suc (suc m)) kind) n ts p s e = two_none (only_tokens n) (suffix kind asks.Nothing (in_order (in_order (only_tokens n) p.first) p.second)) p (λ x. x) e
forms_none (rules.TargetSuffix zero) n ts p s e = (all_none (suffix kinds.Effect (asks.Target (place_of 0 ts)) (only_tokens n)) p e).1
forms_none (rules.TargetSuffix (suc zero)) n ts p s e = one_none (only_tokens n) (suffix kinds.Effect (asks.Target (place_of 0 ts)) (in_order (only_tokens n) p.first)) p (λ x. x) e
forms_none (rules.TargetSuffix (suc (suc m))) n ts p s e =
    two_none (only_tokens n) (suffix kinds.Effect (asks.Target (place_of 0 ts)) (in_order (in_order (only_tokens n) p.first) p.second)) p (λ x. x) e
forms_none rules.EffectFirst n ts p s e =
    let (x, y) = first_none (all_in_order (only_tokens n) p).fault (cond (is_effect p.first.kind) None (Some (place_of p.first.tokens ts))) e in
    (all_none (only_tokens n) p x).1
forms_none rules.NameEffect n ts p s e =
    let whole = all_in_order (only_tokens n) p in
    let (x, y) = first_none whole.fault (cond (is_effect whole.kind) None (Some (place_of whole.tokens ts))) e in
    (all_none (only_tokens n) p x).1
forms_none rules.Nested n ts p s e = (all_none (only_tokens n) p e).1
forms_none rules.Statements n ts p s e = (all_none (only_tokens n) (record p { first = nested p.first }) e).1
forms_none _ n ts p s e = (all_none (only_tokens n) p e).1

-- what is cast to a class stands behind a name alone
pub cast_proper : (p : NodeParts Form) (v w : PlainValue) (n : ℕ) (ts : List PlainLexeme) → OfOperand p.first.kind v → ((d : JavaExpr) → w ≡ values.Expression d → (at : ℕ) × (p.second.asked ≡ asks.Class at))
    → (made rules.Parenthesized n ts p).fault ≡ None → (d : JavaExpr) → w ≡ values.Expression d → IsName v
cast_proper p v w n ts o h e d is =
    let (x, y, u) = all_none (above (inside p.first.kind) (in_order (only_tokens n) p.first)) (rest p) e in
    let (at, c) = h d is in
    cast_told p.first.kind v p.second.asked at o c u

-- ---- headings

abbrev pub NoHeadingFaults : NodeParts PlainHeading → Type 0
NoHeadingFaults p = (p.first.fault ≡ None) × (p.second.fault ≡ None) × (p.third.fault ≡ None) × (p.fourth.fault ≡ None)

joined_none : (p : NodeParts PlainHeading) → (all_joined p).fault ≡ None → NoHeadingFaults p
joined_none p e =
    let (ab, cd) = first_none (joined p.first p.second).fault (joined p.third p.fourth).fault e in
    let (a, b) = first_none p.first.fault p.second.fault ab in
    let (c, d) = first_none p.third.fault p.fourth.fault cd in
    (a, b, c, d)

declaration_fault : (d : Declared) (name : List ℕ) (h : PlainHeading) → (declaration_by d name h).fault ≡ h.fault
declaration_fault (declares.Constructor at) name h = refl
declaration_fault _ name h = refl

pub headings_none : (r : Rule) (ts : List PlainLexeme) (p : NodeParts PlainHeading) → (told r ts p).fault ≡ None → NoHeadingFaults p
headings_none rules.Static ts p e = joined_none p e
headings_none rules.Final ts p e = joined_none p e
headings_none rules.Fields ts p e = joined_none p e
headings_none rules.Constant ts p e = joined_none p e
headings_none rules.Constructor ts p e = joined_none p e
headings_none rules.Declaration ts p e = joined_none p (sym (declaration_fault (all_joined p).declared (text_of ts) (all_joined p)) ∙ e)
headings_none rules.Member ts p e = joined_none p (first_none (all_joined p).fault (misplaced (all_joined p)) e).0
headings_none rules.Parameter ts p e = joined_none p e
headings_none rules.Class ts p e =
    let h = all_joined p in
    joined_none p (first_none h.fault (first_of (unless_named p.second.name h.constructor) h.other) e).0
headings_none rules.Identifier ts p e = joined_none p e
headings_none _ ts p e = joined_none p e
