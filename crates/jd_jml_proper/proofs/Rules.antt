-- What a rule tells of the parts of a node without fault, and of what they make.
use Rattle.std.proofs.Common.{◌≡◌, ◌⊎◌, inl, inr, ℕ, List, [], Option, Some, None, refl, sym, ap, subst, ◌∙◌}
use Rattle.jd_grammar.specs.declared.piles.NodeParts.{NodeParts}
use Rattle.jd_syntax.specs.JavaTypes.{PlainIdentifier}
use Rattle.jd_syntax.specs.SpecTrees as jml
use Rattle.jd_syntax.specs.SpecTrees.{PlainSpec}
use Rattle.jd_jml_values.specs.Values as values
use Rattle.jd_jml_values.specs.Values.{PlainSuffix, PlainValue}
use Rattle.jd_jml_values.specs.Parts.{expression_of, suffixes_of, arguments_of, name_of}
use Rattle.jd_jml_expressions.specs.Applying.{all_applied, named}
use Rattle.jd_jml_attributes.specs.Forms.{PlainKind, Same, Name, NameInParentheses, Less, AtMost, Below, AndBelow, Between, Other, PlainForm, empty, first_of, inside, unmet, behind, in_order}
use Rattle.jd_jml_attributes.specs.Rules.{all_in_order, suffix, step_before}
use Rattle.jd_jml_proper.proofs.Told.{OfExpr, OfTail, tail_operand}

-- ---- kinds

pub same_behind : (k : PlainKind) → behind Same k ≡ k
same_behind Same = refl
same_behind Less = refl
same_behind (AndBelow x) = refl
same_behind _ = refl

kind_of : PlainForm → PlainKind
kind_of f = f.kind

abbrev IsEmpty : PlainForm → Type 0
IsEmpty f = f ≡ empty

-- nothing behind
pub without : (k : PlainKind) (f : PlainForm) → f ≡ empty → behind k f.kind ≡ k
without k f e = ap (λ (x : PlainForm). behind k x.kind) e

pub without2 : (k : PlainKind) (f g : PlainForm) → f ≡ empty → g ≡ empty → behind (behind k f.kind) g.kind ≡ k
without2 k f g e h = without (behind k f.kind) g h ∙ without k f e

pub without3 : (k : PlainKind) (f g h : PlainForm) → f ≡ empty → g ≡ empty → h ≡ empty → behind (behind (behind k f.kind) g.kind) h.kind ≡ k
without3 k f g h e i j = without (behind (behind k f.kind) g.kind) h j ∙ without2 k f g e i

pub none_kind : (p : NodeParts PlainForm) → p.first ≡ empty → p.second ≡ empty → p.third ≡ empty → p.fourth ≡ empty → (all_in_order empty p).kind ≡ Same
none_kind p a b c d = without3 (behind Same p.first.kind) p.second p.third p.fourth b c d ∙ without Same p.first a

pub one_kind : (p : NodeParts PlainForm) → p.second ≡ empty → p.third ≡ empty → p.fourth ≡ empty → (all_in_order empty p).kind ≡ p.first.kind
one_kind p b c d = without3 (behind Same p.first.kind) p.second p.third p.fourth b c d ∙ same_behind p.first.kind

pub two_kind : (p : NodeParts PlainForm) → p.third ≡ empty → p.fourth ≡ empty → (all_in_order empty p).kind ≡ behind p.first.kind p.second.kind
two_kind p c d = without2 (behind (behind Same p.first.kind) p.second.kind) p.third p.fourth c d ∙ ap (λ k. behind k p.second.kind) (same_behind p.first.kind)

pub three_kind : (p : NodeParts PlainForm) → p.fourth ≡ empty → (all_in_order empty p).kind ≡ behind (behind p.first.kind p.second.kind) p.third.kind
three_kind p d = without (behind (behind (behind Same p.first.kind) p.second.kind) p.third.kind) p.fourth d ∙ ap (λ k. behind (behind k p.second.kind) p.third.kind) (same_behind p.first.kind)

pub tail_kind : (k : PlainKind) (w : PlainValue) → OfTail k w → (k ≡ Same) ⊎ (k ≡ Other)
tail_kind Same w h = inl refl
tail_kind Other w h = inr refl
tail_kind (Name x) w h = absurd h
tail_kind NameInParentheses w h = absurd h
tail_kind Less w h = absurd h
tail_kind (AtMost x) w h = absurd h
tail_kind (Below x) w h = absurd h
tail_kind (AndBelow x) w h = absurd h
tail_kind (Between x y) w h = absurd h

pub inside_kind : (k : PlainKind) → (inside k ≡ NameInParentheses) ⊎ (inside k ≡ Other)
inside_kind (Name x) = inl refl
inside_kind _ = inr refl

abbrev InParentheses : PlainKind → Type 0
InParentheses k = (k ≡ NameInParentheses) ⊎ (k ≡ Other)

-- with nothing or anything behind it
pub stays_inside : (k m : PlainKind) → InParentheses k → (m ≡ Same) ⊎ (m ≡ Other) → InParentheses (behind k m)
stays_inside k m h (inl e) = subst (λ x. InParentheses (behind k x)) (sym e) h
stays_inside k m h (inr e) = inr (ap (behind k) e)

pub stays_other : (k m : PlainKind) → k ≡ Other → (m ≡ Same) ⊎ (m ≡ Other) → behind k m ≡ Other
stays_other k m h (inl e) = ap (behind k) e ∙ h
stays_other k m h (inr e) = ap (behind k) e

pub paren_operand : (k m : PlainKind) (e : PlainSpec) → k ≡ m → InParentheses m → OfExpr k (values.Expression e)
paren_operand k m e is (inl h) = subst (λ x. OfExpr x (values.Expression e)) (sym (is ∙ h)) (e, refl)
paren_operand k m e is (inr h) = subst (λ x. OfExpr x (values.Expression e)) (sym (is ∙ h)) (e, refl)

pub name_operand_kind : (k m n : PlainKind) (v w u : PlainValue) (x : PlainIdentifier) → v ≡ values.Named x → k ≡ Name x.name → ((m ≡ Same) × (arguments_of w ≡ None)) ⊎ (m ≡ Other) → OfTail n u
    → OfExpr (behind (behind k m) n) (values.Expression (all_applied (named (name_of v) (arguments_of w)) (suffixes_of u)))
name_operand_kind k m n v w u x is ek (inl (e, none)) t =
    subst (λ y. OfExpr (behind y n) (values.Expression (all_applied (named (name_of v) (arguments_of w)) (suffixes_of u)))) (sym (ap (λ y. behind y m) ek ∙ ap (behind (Name x.name)) e))
    (subst (λ y. OfExpr (behind (Name x.name) n) (values.Expression (all_applied y (suffixes_of u)))) (sym (ap (λ y. named (name_of y) (arguments_of w)) is ∙ ap (named x) none))
    (tail_operand (Name x.name) n (values.Expression (named x None)) u (x.at, refl) t))
name_operand_kind k m n v w u x is ek (inr e) t =
    subst (λ y. OfExpr (behind y n) (values.Expression (all_applied (named (name_of v) (arguments_of w)) (suffixes_of u)))) (sym (ap (behind k) e))
    (tail_operand Other n (values.Expression (named (name_of v) (arguments_of w))) u (_, refl) t)

-- ---- faults

pub first_none : (p q : Option ℕ) → first_of p q ≡ None → (p ≡ None) × (q ≡ None)
first_none (Some p) (Some q) e = absurd cc
first_none (Some p) None e = absurd cc
first_none None q e = (refl, e)

pub order_none : (a b : PlainForm) → (in_order a b).fault ≡ None → (a.fault ≡ None) × (b.fault ≡ None) × (unmet a.kind b.cast ≡ None)
order_none a b e =
    let (ab, u) = first_none (first_of a.fault b.fault) (unmet a.kind b.cast) e in
    let (x, y) = first_none a.fault b.fault ab in
    (x, y, u)

abbrev pub NoFaults : NodeParts PlainForm → Type 0
NoFaults p = (p.first.fault ≡ None) × (p.second.fault ≡ None) × (p.third.fault ≡ None) × (p.fourth.fault ≡ None)

-- of all in order: none in what stands before them, nor in them, nor between the first of them and that
pub all_none : (f : PlainForm) (p : NodeParts PlainForm) → (all_in_order f p).fault ≡ None → (f.fault ≡ None) × NoFaults p × (unmet f.kind p.first.cast ≡ None)
all_none f p e =
    let (abc, d, u) = order_none (in_order (in_order (in_order f p.first) p.second) p.third) p.fourth e in
    let (ab, c, u') = order_none (in_order (in_order f p.first) p.second) p.third abc in
    let (a, b, u'') = order_none (in_order f p.first) p.second ab in
    let (x, y, z) = order_none f p.first a in
    (x, (y, b, c, d), z)

pub empty_none : (f : PlainForm) → f ≡ empty → f.fault ≡ None
empty_none f e = ap (λ (x : PlainForm). x.fault) e

pub step_none : (k : PlainKind) (p : NodeParts PlainForm) → (step_before k p).fault ≡ None → (p.first.fault ≡ None) × (p.second.fault ≡ None)
step_none Same p e = let (x, y, u) = order_none p.first p.second e in (x, y)
step_none _ p e =
    let (x, y, u) = order_none (suffix Other (in_order empty p.first)) p.second e in
    let (a, b, w) = order_none empty p.first x in
    (b, y)

-- ---- casts

pub cast_told : (k : PlainKind) (v : PlainValue) (c : Option ℕ) (at : ℕ) → OfExpr k v → c ≡ Some at → unmet (inside k) c ≡ None → (place : ℕ) × (x : List ℕ) × (expression_of v ≡ jml.Name place x)
cast_told (Name x) v c at (place, e) is u = (place, x, ap expression_of e)
cast_told Same v c at h is u = absurd h
cast_told Less v c at h is u = absurd h
cast_told (AndBelow x) v c at h is u = absurd h
cast_told _ v c at h is u = absurd (no_some at (sym is ∙ u))
  where
    no_some : (n : ℕ) → Some n ≡ None → ⊥
    no_some n e = cc

pub not_expression : (k : PlainKind) (w : PlainValue) (d : PlainSpec) → OfTail k w → w ≡ values.Expression d → ⊥
not_expression Same w d h e = no_both [] (sym h ∙ e)
  where
    no_both : (ss : List PlainSuffix) → values.Suffixes ss ≡ values.Expression d → ⊥
    no_both ss x = cc
not_expression Other w d (ss, h) e = no_both (sym h ∙ e)
  where
    no_both : values.Suffixes ss ≡ values.Expression d → ⊥
    no_both x = cc
not_expression (Name x) w d h e = absurd h
not_expression NameInParentheses w d h e = absurd h
not_expression Less w d h e = absurd h
not_expression (AtMost x) w d h e = absurd h
not_expression (Below x) w d h e = absurd h
not_expression (AndBelow x) w d h e = absurd h
not_expression (Between x y) w d h e = absurd h

pub nothing_is_no_expression : (w : PlainValue) (d : PlainSpec) → w ≡ values.Nothing → w ≡ values.Expression d → ⊥
nothing_is_no_expression w d h e = no_both (sym h ∙ e)
  where
    no_both : values.Nothing ≡ values.Expression d → ⊥
    no_both x = cc
