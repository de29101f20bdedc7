-- What an attribute's kind says of a value.
use Rattle.std.proofs.Common.{◌≡◌, ℕ, List, [], ◌∷◌, ◌++◌, refl, sym, ap, subst, ◌∙◌}
use Rattle.jd_syntax.specs.SpecTrees as jml
use Rattle.jd_syntax.specs.SpecTrees.{PlainSpec}
use Rattle.jd_syntax.specs.declared.java.InfixOperator.TheVariants as operators
use Rattle.jd_jml_values.specs.Values as values
use Rattle.jd_jml_values.specs.Values.{PlainSuffix, PlainValue}
use Rattle.jd_jml_values.specs.Parts.{expression_of, suffixes_of}
use Rattle.jd_jml_expressions.specs.Applying.{applied, all_applied}
use Rattle.jd_jml_attributes.specs.declared.form.Link.TheVariants as links
use Rattle.jd_jml_attributes.specs.Forms.{PlainKind, Same, Name, NameInParentheses, Less, AtMost, Below, AndBelow, Between, Other, less_behind, and_behind, behind, linked}

-- ---- expressions

abbrev pub IsSome : PlainValue → Type 0
IsSome v = (e : PlainSpec) × (v ≡ values.Expression e)

abbrev pub OfExpr : PlainKind → PlainValue → Type 0
OfExpr Same v = ⊥
OfExpr (Name x) v = (at : ℕ) × (v ≡ values.Expression (jml.Name at x))
OfExpr NameInParentheses v = IsSome v
OfExpr Less v = ⊥
OfExpr (AtMost x) v = (at name : ℕ) × (a : PlainSpec) × (v ≡ values.Expression (jml.Infix at operators.LessOrEqual a (jml.Name name x)))
OfExpr (Below x) v = (at name : ℕ) × (b : PlainSpec) × (v ≡ values.Expression (jml.Infix at operators.Less (jml.Name name x) b))
OfExpr (AndBelow x) v = ⊥
OfExpr (Between x y) v =
    (at low name high other : ℕ) × (a b : PlainSpec)
    × (v ≡ values.Expression (jml.Infix at operators.AndAlso (jml.Infix low operators.LessOrEqual a (jml.Name name x)) (jml.Infix high operators.Less (jml.Name other y) b)))
OfExpr Other v = IsSome v

pub is_expr : (k : PlainKind) (v : PlainValue) → OfExpr k v → v ≡ values.Expression (expression_of v)
is_expr Same v h = absurd h
is_expr (Name x) v (at, e) = e ∙ sym (ap (λ w. values.Expression (expression_of w)) e)
is_expr NameInParentheses v (d, e) = e ∙ sym (ap (λ w. values.Expression (expression_of w)) e)
is_expr Less v h = absurd h
is_expr (AtMost x) v (at, name, a, e) = e ∙ sym (ap (λ w. values.Expression (expression_of w)) e)
is_expr (Below x) v (at, name, b, e) = e ∙ sym (ap (λ w. values.Expression (expression_of w)) e)
is_expr (AndBelow x) v h = absurd h
is_expr (Between x y) v (at, low, name, high, other, a, b, e) = e ∙ sym (ap (λ w. values.Expression (expression_of w)) e)
is_expr Other v (d, e) = e ∙ sym (ap (λ w. values.Expression (expression_of w)) e)

-- ---- what stands behind an operand

abbrev IsMany : PlainValue → Type 0
IsMany w = (ss : List PlainSuffix) × (w ≡ values.Suffixes ss)

-- of a comparison
abbrev pub OfRelational : PlainKind → PlainValue → Type 0
OfRelational Same w = w ≡ values.Suffixes []
OfRelational Less w = (b : PlainSpec) × (w ≡ values.Suffixes (values.Infix operators.Less b ∷ []))
OfRelational (AtMost x) w = (ss : List PlainSuffix) × (name : ℕ) × (w ≡ values.Suffixes (ss ++ values.Infix operators.LessOrEqual (jml.Name name x) ∷ []))
OfRelational Other w = IsMany w
OfRelational _ w = ⊥

-- of `&&`
abbrev pub OfAnd : PlainKind → PlainValue → Type 0
OfAnd Same w = w ≡ values.Suffixes []
OfAnd (AndBelow x) w = (high name : ℕ) × (b : PlainSpec) × (w ≡ values.Suffixes (values.Infix operators.AndAlso (jml.Infix high operators.Less (jml.Name name x) b) ∷ []))
OfAnd Other w = IsMany w
OfAnd _ w = ⊥

-- of all others
abbrev pub OfTail : PlainKind → PlainValue → Type 0
OfTail Same w = w ≡ values.Suffixes []
OfTail Other w = IsMany w
OfTail _ w = ⊥

-- ---- operands

abbrev pub put_together : PlainValue → PlainValue → PlainValue
put_together v w = values.Expression (all_applied (expression_of v) (suffixes_of w))

nothing_behind : (k : PlainKind) (v w : PlainValue) → OfExpr k v → w ≡ values.Suffixes [] → OfExpr k (put_together v w)
nothing_behind k v w h e = subst (OfExpr k) (is_expr k v h ∙ sym (ap (λ x. values.Expression (all_applied (expression_of v) (suffixes_of x))) e)) h

last_applied : (e : PlainSpec) (ss : List PlainSuffix) (s : PlainSuffix) → all_applied e (ss ++ s ∷ []) ≡ applied (all_applied e ss) s
last_applied e [] s = refl
last_applied e (t ∷ ss) s = last_applied (applied e t) ss s

together : (v w : PlainValue) (e : PlainSpec) (ss : List PlainSuffix) → v ≡ values.Expression e → w ≡ values.Suffixes ss → put_together v w ≡ values.Expression (all_applied e ss)
together v w e ss is js = ap (λ x. put_together x w) is ∙ ap (λ x. put_together (values.Expression e) x) js

less_operand : (k : PlainKind) (v w : PlainValue) (b : PlainSpec) → OfExpr k v → w ≡ values.Suffixes (values.Infix operators.Less b ∷ []) → OfExpr (less_behind k) (put_together v w)
less_operand (Name x) v w b (at, e) j = (at, at, b, together v w (jml.Name at x) _ e j)
less_operand Same v w b h j = absurd h
less_operand Less v w b h j = absurd h
less_operand (AndBelow x) v w b h j = absurd h
less_operand _ v w b h j = (_, refl)

pub relational_operand : (k m : PlainKind) (v w : PlainValue) → OfExpr k v → OfRelational m w → OfExpr (behind k m) (put_together v w)
relational_operand k Same v w h j = nothing_behind k v w h j
relational_operand k Less v w h (b, j) = less_operand k v w b h j
relational_operand k (AtMost x) v w h (ss, name, j) = (
  _,
  name,
  all_applied (expression_of v) ss,
  together v w (expression_of v) (ss ++ values.Infix operators.LessOrEqual (jml.Name name x) ∷ []) (is_expr k v h) j
      ∙ ap values.Expression (last_applied (expression_of v) ss (values.Infix operators.LessOrEqual (jml.Name name x))),
)
relational_operand k Other v w h j = (_, refl)
relational_operand k (Name x) v w h j = absurd j
relational_operand k NameInParentheses v w h j = absurd j
relational_operand k (Below x) v w h j = absurd j
relational_operand k (AndBelow x) v w h j = absurd j
relational_operand k (Between x y) v w h j = absurd j

and_operand_below : (k : PlainKind) (v w : PlainValue) (x : List ℕ) (high name : ℕ) (b : PlainSpec) → OfExpr k v
    → w ≡ values.Suffixes (values.Infix operators.AndAlso (jml.Infix high operators.Less (jml.Name name x) b) ∷ []) → OfExpr (and_behind k x) (put_together v w)
and_operand_below (AtMost y) v w x high name b (at, low, a, e) j = (at, at, low, high, name, a, b, together v w (jml.Infix at operators.LessOrEqual a (jml.Name low y)) _ e j)
and_operand_below Same v w x high name b h j = absurd h
and_operand_below Less v w x high name b h j = absurd h
and_operand_below (AndBelow y) v w x high name b h j = absurd h
and_operand_below _ v w x high name b h j = (_, refl)

pub and_operand : (k m : PlainKind) (v w : PlainValue) → OfExpr k v → OfAnd m w → OfExpr (behind k m) (put_together v w)
and_operand k Same v w h j = nothing_behind k v w h j
and_operand k (AndBelow x) v w h (high, name, b, j) = and_operand_below k v w x high name b h j
and_operand k Other v w h j = (_, refl)
and_operand k (Name x) v w h j = absurd j
and_operand k NameInParentheses v w h j = absurd j
and_operand k Less v w h j = absurd j
and_operand k (AtMost x) v w h j = absurd j
and_operand k (Below x) v w h j = absurd j
and_operand k (Between x y) v w h j = absurd j

pub tail_operand : (k m : PlainKind) (v w : PlainValue) → OfExpr k v → OfTail m w → OfExpr (behind k m) (put_together v w)
tail_operand k Same v w h j = nothing_behind k v w h j
tail_operand k Other v w h j = (_, refl)
tail_operand k (Name x) v w h j = absurd j
tail_operand k NameInParentheses v w h j = absurd j
tail_operand k Less v w h j = absurd j
tail_operand k (AtMost x) v w h j = absurd j
tail_operand k (Below x) v w h j = absurd j
tail_operand k (AndBelow x) v w h j = absurd j
tail_operand k (Between x y) v w h j = absurd j

-- ---- one thing, and more behind it

abbrev pub put_before : PlainSuffix → PlainValue → PlainValue
put_before s w = values.Suffixes (s ∷ suffixes_of w)

pub relational_before : (s : PlainSuffix) (k m : PlainKind) (w : PlainValue) → less_behind k ≡ Other → OfRelational k (values.Suffixes (s ∷ [])) → OfRelational m w → OfRelational (behind k m) (put_before s w)
relational_before s k Same w e h j = subst (OfRelational k) (sym (ap (put_before s) j)) h
relational_before s k Less w e h j = subst (λ x. OfRelational x (put_before s w)) (sym e) (s ∷ suffixes_of w, refl)
relational_before s k (AtMost x) w e h (ss, name, j) = (s ∷ ss, name, ap (put_before s) j)
relational_before s k Other w e h j = (_, refl)
relational_before s k (Name x) w e h j = absurd j
relational_before s k NameInParentheses w e h j = absurd j
relational_before s k (Below x) w e h j = absurd j
relational_before s k (AndBelow x) w e h j = absurd j
relational_before s k (Between x y) w e h j = absurd j

-- `<= e`
pub at_most_alone : (k : PlainKind) (v : PlainValue) → OfExpr k v → (less_behind (linked links.AtMost k) ≡ Other) × OfRelational (linked links.AtMost k) (values.Suffixes (values.Infix operators.LessOrEqual (expression_of v) ∷ []))
at_most_alone (Name x) v (at, e) = (refl, ([], at, ap (λ w. values.Suffixes (values.Infix operators.LessOrEqual (expression_of w) ∷ [])) e))
at_most_alone _ v h = (refl, (_, refl))

pub and_before : (s : PlainSuffix) (k m : PlainKind) (w : PlainValue) → ((x : List ℕ) → and_behind k x ≡ Other) → OfAnd k (values.Suffixes (s ∷ [])) → OfAnd m w → OfAnd (behind k m) (put_before s w)
and_before s k Same w e h j = subst (OfAnd k) (sym (ap (put_before s) j)) h
and_before s k (AndBelow x) w e h j = subst (λ y. OfAnd y (put_before s w)) (sym (e x)) (s ∷ suffixes_of w, refl)
and_before s k Other w e h j = (_, refl)
and_before s k (Name x) w e h j = absurd j
and_before s k NameInParentheses w e h j = absurd j
and_before s k Less w e h j = absurd j
and_before s k (AtMost x) w e h j = absurd j
and_before s k (Below x) w e h j = absurd j
and_before s k (Between x y) w e h j = absurd j

-- `&& e`
pub and_alone : (k : PlainKind) (v : PlainValue) → OfExpr k v → ((x : List ℕ) → and_behind (linked links.And k) x ≡ Other) × OfAnd (linked links.And k) (values.Suffixes (values.Infix operators.AndAlso (expression_of v) ∷ []))
and_alone (Below x) v (at, name, b, e) = (λ y. refl, (at, name, b, ap (λ w. values.Suffixes (values.Infix operators.AndAlso (expression_of w) ∷ [])) e))
and_alone _ v h = (λ y. refl, (_, refl))

pub tail_before : (s : PlainSuffix) (m : PlainKind) (w : PlainValue) → OfTail m w → OfTail (behind Other m) (put_before s w)
tail_before s Same w j = (_, refl)
tail_before s Other w j = (_, refl)
tail_before s (Name x) w j = absurd j
tail_before s NameInParentheses w j = absurd j
tail_before s Less w j = absurd j
tail_before s (AtMost x) w j = absurd j
tail_before s (Below x) w j = absurd j
tail_before s (AndBelow x) w j = absurd j
tail_before s (Between x y) w j = absurd j
