-- What the kind of a form says of a value.
use Rattle.std.proofs.Common.{◌≡◌, ℕ, List, [], ◌++◌, Some, None, refl, sym, ap, ◌∙◌}
use Rattle.jd_grammar.specs.declared.piles.NodeParts.{NodeParts}
use Rattle.jd_syntax.specs.JavaTrees as java
use Rattle.jd_syntax.specs.JavaTrees.{JavaExpr}
use Rattle.jd_java_values.specs.Values as values
use Rattle.jd_java_values.specs.Values.{PlainSuffix, PlainValue}
use Rattle.jd_java_values.specs.Parts.{expression_of, suffixes_of, arguments_of}
use Rattle.jd_java_expressions.specs.Applying.{all_applied, named}
use Rattle.jd_java_expressions.specs.Meaning.{behind_one, all_suffixes}
use Rattle.jd_java_attributes.specs.declared.form.Kind.{Kind}
use Rattle.jd_java_attributes.specs.declared.form.Kind.TheVariants as kinds
use Rattle.jd_java_attributes.specs.declared.form.Asked.{Asked}
use Rattle.jd_java_attributes.specs.declared.form.Asked.TheVariants as asks
use Rattle.jd_java_attributes.specs.Forms.{behind, inside, unmet}

pub two : {A B C : Type 0} (f : A → B → C) {a a' : A} {b b' : B} → a ≡ a' → b ≡ b' → f a b ≡ f a' b'
two f {a} {a'} {b} {b'} e g = ap (λ x. f x b) e ∙ ap (f a') g

pub three : {A B C D : Type 0} (f : A → B → C → D) {a a' : A} {b b' : B} {c c' : C} → a ≡ a' → b ≡ b' → c ≡ c' → f a b c ≡ f a' b' c'
three f {a} {a'} {b} {b'} {c} {c'} e g h = ap (λ x. f x b c) e ∙ two (f a') g h

-- ---- what is told

abbrev pub IsName : PlainValue → Type 0
IsName v = (at : ℕ) × (x : List ℕ) × (expression_of v ≡ java.Name at x)

abbrev pub NoName : Kind → Type 0
NoName k = k ≡ kinds.Name → ⊥

abbrev pub OfOperand : Kind → PlainValue → Type 0
OfOperand k v = k ≡ kinds.Name → IsName v

-- what stands behind an operand
abbrev pub OfTail : Kind → PlainValue → Type 0
OfTail k w = NoName k × (k ≡ kinds.Same → suffixes_of w ≡ [])

-- the arguments behind a name, if it is called
abbrev pub OfCall : Kind → PlainValue → Type 0
OfCall k w = NoName k × (k ≡ kinds.Same → arguments_of w ≡ None)

-- ---- one before another

behind_name : (k m : Kind) → behind k m ≡ kinds.Name → NoName m → (m ≡ kinds.Same) × (k ≡ kinds.Name)
behind_name k kinds.Same e n = (refl, e)
behind_name k kinds.Name e n = absurd (n e)
behind_name k kinds.NameInParentheses e n = absurd (n e)
behind_name k kinds.Target e n = absurd (n e)
behind_name k kinds.Effect e n = absurd (n e)
behind_name k kinds.Other e n = absurd (n e)

no_name_behind : (k m : Kind) → NoName k → NoName m → NoName (behind k m)
no_name_behind k m h n e = let (s, x) = behind_name k m e n in h x

same_behind : (k m : Kind) → behind k m ≡ kinds.Same → (k ≡ kinds.Same) × (m ≡ kinds.Same)
same_behind k kinds.Same e = (e, refl)
same_behind k kinds.Name e = absurd cc
same_behind k kinds.NameInParentheses e = absurd cc
same_behind k kinds.Target e = absurd cc
same_behind k kinds.Effect e = absurd cc
same_behind k kinds.Other e = absurd cc

same_before : (k : Kind) → behind kinds.Same k ≡ k
same_before kinds.Same = refl
same_before _ = refl

pub same_is_no_name : NoName kinds.Same
same_is_no_name e = absurd cc

pub target_is_no_name : NoName kinds.Target
target_is_no_name e = absurd cc

pub effect_is_no_name : NoName kinds.Effect
effect_is_no_name e = absurd cc

pub other_is_no_name : NoName kinds.Other
other_is_no_name e = absurd cc

pub target_is_not_same : kinds.Target ≡ kinds.Same → ⊥
target_is_not_same e = cc

pub effect_is_not_same : kinds.Effect ≡ kinds.Same → ⊥
effect_is_not_same e = cc

pub other_is_not_same : kinds.Other ≡ kinds.Same → ⊥
other_is_not_same e = cc

pub no_name_inside : (k : Kind) → NoName (inside k)
no_name_inside kinds.Same e = absurd cc
no_name_inside kinds.Name e = absurd cc
no_name_inside kinds.NameInParentheses e = absurd cc
no_name_inside kinds.Target e = absurd cc
no_name_inside kinds.Effect e = absurd cc
no_name_inside kinds.Other e = absurd cc

-- of four behind another
abbrev pub chain : Kind → Kind → Kind → Kind → Kind → Kind
chain k a b c d = behind (behind (behind (behind k a) b) c) d

pub no_name_chain : (k a b c d : Kind) → NoName k → NoName a → NoName b → NoName c → NoName d → NoName (chain k a b c d)
no_name_chain k a b c d h n o p q =
    no_name_behind (behind (behind (behind k a) b) c) d (no_name_behind (behind (behind k a) b) c (no_name_behind (behind k a) b (no_name_behind k a h n) o) p) q

-- a name, and nothing behind it
name_chain : (k a b c d : Kind) → chain k a b c d ≡ kinds.Name → NoName a → NoName b → NoName c → NoName d
    → (k ≡ kinds.Name) × (a ≡ kinds.Same) × (b ≡ kinds.Same) × (c ≡ kinds.Same) × (d ≡ kinds.Same)
name_chain k a b c d e n o p q =
    let (sd, ec) = behind_name (behind (behind (behind k a) b) c) d e q in
    let (sc, eb) = behind_name (behind (behind k a) b) c ec p in
    let (sb, ea) = behind_name (behind k a) b eb o in
    let (sa, ek) = behind_name k a ea n in
    (ek, sa, sb, sc, sd)

same_chain : (k a b c d : Kind) → chain k a b c d ≡ kinds.Same → (k ≡ kinds.Same) × (a ≡ kinds.Same) × (b ≡ kinds.Same) × (c ≡ kinds.Same) × (d ≡ kinds.Same)
same_chain k a b c d e =
    let (ed, sd) = same_behind (behind (behind (behind k a) b) c) d e in
    let (ec, sc) = same_behind (behind (behind k a) b) c ed in
    let (eb, sb) = same_behind (behind k a) b ec in
    let (ea, sa) = same_behind k a eb in
    (ea, sa, sb, sc, sd)

-- ---- operands

nothing_behind : (parts : NodeParts PlainValue) → suffixes_of parts.second ≡ [] → suffixes_of parts.third ≡ [] → suffixes_of parts.fourth ≡ [] → behind_one parts ≡ []
nothing_behind parts a b c = three (λ (x y z : List PlainSuffix). x ++ (y ++ z)) a b c

pub no_operand : (k : Kind) (v : PlainValue) → NoName k → OfOperand k v
no_operand k v n e = absurd (n e)

-- the first alone
pub first_operand : (v : PlainValue) (a b c d : Kind) → OfOperand a v → NoName b → NoName c → NoName d → OfOperand (chain kinds.Same a b c d) v
first_operand v a b c d h o p q e =
    let (sd, ec) = behind_name (behind (behind (behind kinds.Same a) b) c) d e q in
    let (sc, eb) = behind_name (behind (behind kinds.Same a) b) c ec p in
    let (sb, ea) = behind_name (behind kinds.Same a) b eb o in
    h (sym (same_before a) ∙ ea)

pub operand_told : (parts : NodeParts PlainValue) (a b c d : Kind) → OfOperand a parts.first → OfTail b parts.second → OfTail c parts.third → OfTail d parts.fourth
    → OfOperand (chain kinds.Same a b c d) (values.Expression (all_applied (expression_of parts.first) (behind_one parts)))
operand_told parts a b c d h o p q e =
    let (sd, ec) = behind_name (behind (behind (behind kinds.Same a) b) c) d e q.0 in
    let (sc, eb) = behind_name (behind (behind kinds.Same a) b) c ec p.0 in
    let (sb, ea) = behind_name (behind kinds.Same a) b eb o.0 in
    let (at, x, is) = h (sym (same_before a) ∙ ea) in
    (at, x, two all_applied is (nothing_behind parts (o.1 sb) (p.1 sc) (q.1 sd)))

pub name_told : (at : ℕ) (w : List ℕ) (parts : NodeParts PlainValue) (a b c d : Kind) → OfCall a parts.first → OfTail b parts.second → OfTail c parts.third → OfTail d parts.fourth
    → OfOperand (chain kinds.Name a b c d) (values.Expression (all_applied (named at w (arguments_of parts.first)) (behind_one parts)))
name_told at w parts a b c d h o p q e =
    let (ek, sa, sb, sc, sd) = name_chain kinds.Name a b c d e h.0 o.0 p.0 q.0 in
    (at, w, two all_applied (ap (named at w) (h.1 sa)) (nothing_behind parts (o.1 sb) (p.1 sc) (q.1 sd)))

-- ---- what stands behind them

pub tails_told : (parts : NodeParts PlainValue) (a b c d : Kind) → OfTail a parts.first → OfTail b parts.second → OfTail c parts.third → OfTail d parts.fourth
    → OfTail (chain kinds.Same a b c d) (values.Suffixes (all_suffixes parts))
tails_told parts a b c d h o p q = (
  no_name_chain kinds.Same a b c d same_is_no_name h.0 o.0 p.0 q.0,
  λ e. let (sk, sa, sb, sc, sd) = same_chain kinds.Same a b c d e in two (λ (x y : List PlainSuffix). x ++ y) (h.1 sa) (nothing_behind parts (o.1 sb) (p.1 sc) (q.1 sd)),
)

-- something, and more behind it
pub tail_told : (w : PlainValue) (k a b c d : Kind) → NoName k → (k ≡ kinds.Same → ⊥) → NoName a → NoName b → NoName c → NoName d → OfTail (chain k a b c d) w
tail_told w k a b c d h s n o p q = (no_name_chain k a b c d h n o p q, λ e. let (sk, sa, sb, sc, sd) = same_chain k a b c d e in absurd (s sk))

pub call_told : (w : PlainValue) (k a b c d : Kind) → NoName k → (k ≡ kinds.Same → ⊥) → NoName a → NoName b → NoName c → NoName d → OfCall (chain k a b c d) w
call_told w k a b c d h s n o p q = (no_name_chain k a b c d h n o p q, λ e. let (sk, sa, sb, sc, sd) = same_chain k a b c d e in absurd (s sk))

-- ---- casts

pub no_some : (n : ℕ) → Some n ≡ None → ⊥
no_some n e = cc

pub cast_told : (k : Kind) (v : PlainValue) (c : Asked) (at : ℕ) → OfOperand k v → c ≡ asks.Class at → unmet (inside k) c ≡ None → IsName v
cast_told kinds.Name v c at h is u = h refl
cast_told kinds.Same v c at h is u = absurd (no_some at (sym (ap (unmet (inside kinds.Same)) is) ∙ u))
cast_told kinds.NameInParentheses v c at h is u = absurd (no_some at (sym (ap (unmet (inside kinds.NameInParentheses)) is) ∙ u))
cast_told kinds.Target v c at h is u = absurd (no_some at (sym (ap (unmet (inside kinds.Target)) is) ∙ u))
cast_told kinds.Effect v c at h is u = absurd (no_some at (sym (ap (unmet (inside kinds.Effect)) is) ∙ u))
cast_told kinds.Other v c at h is u = absurd (no_some at (sym (ap (unmet (inside kinds.Other)) is) ∙ u))

pub no_expression : (ss : List PlainSuffix) (d : JavaExpr) → values.Suffixes ss ≡ values.Expression d → ⊥
no_expression ss d e = cc
