-- How high forms are and how many levels they add, by numbers of which those above 201 are not told apart.
use Rattle.std.proofs.Common.{◌≡◌, ℕ, ◌+◌, ◌≤◌, min, max, refl, sym, ap, subst, ◌∙◌, arith}
use Rattle.jd_grammar.specs.declared.piles.NodeParts.{NodeParts}
use Rattle.jd_jml_attributes.specs.Forms.{PlainKind, Same, Other, PlainForm, empty, behind, in_order}
use Rattle.jd_jml_attributes.specs.Rules.{rest, all_in_order, suffix, closed, parenthesized, step_before}

-- ---- two numbers of a form

-- the height `h` and `a` levels are told as `m` and `n`
pub record Is (m n h a : ℕ) : Type 0 where
  pub height_is : m ≡ min h 201
  pub adds_is : n ≡ min a 201

abbrev pub IsForm : PlainForm → ℕ → ℕ → Type 0
IsForm f h a = Is f.height f.adds h a

abbrev pub Flat : PlainForm → Type 0
Flat f = IsForm f 0 0

-- ---- numbers

zero_is_told : 0 ≡ min 0 201
zero_is_told = omega arith

one_is_told : 1 ≡ min 1 201
one_is_told = omega arith

higher : (m n p h b k : ℕ) → m ≡ min h 201 → n ≡ min b 201 → p ≡ min k 201 → max (min (m + n) 201) p ≡ min (max (h + b) k) 201
higher m n p h b k x y z = omega arith

together : (m n a b : ℕ) → m ≡ min a 201 → n ≡ min b 201 → min (m + n) 201 ≡ min (a + b) 201
together m n a b x y = omega arith

next : (m h : ℕ) → m ≡ min h 201 → min (m + 1) 201 ≡ min (1 + h) 201
next m h x = omega arith

max_above : (h a : ℕ) → a ≤ h → max (0 + a) h ≡ h
max_above h a le = omega arith

max_none : (h : ℕ) → max (h + 0) 0 ≡ h
max_none h = omega arith

plus_none : (a : ℕ) → a + 0 ≡ a
plus_none a = omega arith

none_plus : (a : ℕ) → 0 + a ≡ a
none_plus a = omega arith

flat_max : (h k : ℕ) → max (h + 0) k ≡ max h k
flat_max h k = omega arith

flat_max3 : (h k l : ℕ) → max (max (h + 0) k + 0) l ≡ max (max h k) l
flat_max3 h k l = omega arith

flat_max4 : (h k l m : ℕ) → max (max (max (h + 0) k + 0) l + 0) m ≡ max (max (max h k) l) m
flat_max4 h k l m = omega arith

pub not_below : (h : ℕ) → 0 ≤ h
not_below h = omega arith

-- ---- forms

pub equal_to : {m n h a k b : ℕ} → Is m n h a → h ≡ k → a ≡ b → Is m n k b
equal_to i e g = record { height_is = i.height_is ∙ ap (λ x. min x 201) e; adds_is = i.adds_is ∙ ap (λ x. min x 201) g }

pub zero_is : Is 0 0 0 0
zero_is = record { height_is = zero_is_told; adds_is = zero_is_told }

pub nothing_is : {f : PlainForm} → f ≡ empty → Flat f
nothing_is {f} e = record { height_is = ap (λ (x : PlainForm). x.height) e ∙ zero_is_told; adds_is = ap (λ (x : PlainForm). x.adds) e ∙ zero_is_told }

-- one before the other
pub order_is : {m n p q h a k b : ℕ} → Is m n h a → Is p q k b → Is (max (min (m + q) 201) p) (min (n + q) 201) (max (h + b) k) (a + b)
order_is {m} {n} {p} {q} {h} {a} {k} {b} i j = record { height_is = higher m q p h b k i.height_is j.adds_is j.height_is; adds_is = together n q a b i.adds_is j.adds_is }

pub first_is : {m n h a : ℕ} → a ≤ h → Is m n h a → Is (max (min (0 + n) 201) m) (min (0 + n) 201) h a
first_is {m} {n} {h} {a} le i = equal_to (order_is zero_is i) (max_above h a le) (none_plus a)

-- nothing behind
pub end_is : {m n h a : ℕ} {g : PlainForm} → Is m n h a → g ≡ empty → Is (max (min (m + g.adds) 201) g.height) (min (n + g.adds) 201) h a
end_is {m} {n} {h} {a} {g} i e = equal_to (order_is i (nothing_is e)) (max_none h) (plus_none a)

-- one level above
pub above_is : {m n h a : ℕ} → Is m n h a → Is (min (m + 1) 201) 0 (1 + h) 0
above_is {m} {n} {h} {a} i = record { height_is = next m h i.height_is; adds_is = zero_is_told }

pub suffix_is : {m n h a : ℕ} → Is m n h a → Is (min (m + 1) 201) 1 (1 + h) 1
suffix_is {m} {n} {h} {a} i = record { height_is = next m h i.height_is; adds_is = one_is_told }

pub closed_is : {m n h a : ℕ} → Is m n h a → Is m 0 h 0
closed_is i = record { height_is = i.height_is; adds_is = zero_is_told }

-- ---- the parts of a node

pub parts0_is : (p : NodeParts PlainForm) → p.first ≡ empty → p.second ≡ empty → p.third ≡ empty → p.fourth ≡ empty → Flat (all_in_order empty p)
parts0_is p a b c d = end_is (end_is (end_is (end_is zero_is a) b) c) d

pub parts1_is : (p : NodeParts PlainForm) {h a : ℕ} → a ≤ h → IsForm p.first h a → p.second ≡ empty → p.third ≡ empty → p.fourth ≡ empty
    → IsForm (all_in_order empty p) h a
parts1_is p le i b c d = end_is (end_is (end_is (first_is le i) b) c) d

pub parts2_is : (p : NodeParts PlainForm) {h a k b : ℕ} → a ≤ h → IsForm p.first h a → IsForm p.second k b → p.third ≡ empty → p.fourth ≡ empty
    → IsForm (all_in_order empty p) (max (h + b) k) (a + b)
parts2_is p le i j c d = end_is (end_is (order_is (first_is le i) j) c) d

pub parts3_is : (p : NodeParts PlainForm) {h a k b l c : ℕ} → a ≤ h → IsForm p.first h a → IsForm p.second k b → IsForm p.third l c → p.fourth ≡ empty
    → IsForm (all_in_order empty p) (max (max (h + b) k + c) l) (a + b + c)
parts3_is p le i j k d = end_is (order_is (order_is (first_is le i) j) k) d

pub parts4_is : (p : NodeParts PlainForm) {h a k b l c m d : ℕ} → a ≤ h → IsForm p.first h a → IsForm p.second k b → IsForm p.third l c
    → IsForm p.fourth m d → IsForm (all_in_order empty p) (max (max (max (h + b) k + c) l + d) m) (a + b + c + d)
parts4_is p le i j k l = order_is (order_is (order_is (first_is le i) j) k) l

-- parts that add no levels
pub flat1_is : (p : NodeParts PlainForm) {h : ℕ} → IsForm p.first h 0 → p.second ≡ empty → p.third ≡ empty → p.fourth ≡ empty
    → IsForm (all_in_order empty p) h 0
flat1_is p {h} i b c d = parts1_is p (not_below h) i b c d

pub flat2_is : (p : NodeParts PlainForm) {h k : ℕ} → IsForm p.first h 0 → IsForm p.second k 0 → p.third ≡ empty → p.fourth ≡ empty
    → IsForm (all_in_order empty p) (max h k) 0
flat2_is p {h} {k} i j c d = equal_to (parts2_is p (not_below h) i j c d) (flat_max h k) refl

pub flat3_is : (p : NodeParts PlainForm) {h k l : ℕ} → IsForm p.first h 0 → IsForm p.second k 0 → IsForm p.third l 0 → p.fourth ≡ empty
    → IsForm (all_in_order empty p) (max (max h k) l) 0
flat3_is p {h} {k} {l} i j m d = equal_to (parts3_is p (not_below h) i j m d) (flat_max3 h k l) refl

pub flat4_is : (p : NodeParts PlainForm) {h k l m : ℕ} → IsForm p.first h 0 → IsForm p.second k 0 → IsForm p.third l 0 → IsForm p.fourth m 0
    → IsForm (all_in_order empty p) (max (max (max h k) l) m) 0
flat4_is p {h} {k} {l} {m} i j n o = equal_to (parts4_is p (not_below h) i j n o) (flat_max4 h k l m) refl

-- an operand, and what stands behind it
pub operand_is : (p : NodeParts PlainForm) {h k b : ℕ} → IsForm p.first h 0 → IsForm p.second k b → p.third ≡ empty → p.fourth ≡ empty
    → IsForm (closed (all_in_order empty p)) (max (h + b) k) 0
operand_is p {h} i j c d = closed_is (parts2_is p (not_below h) i j c d)

-- in parentheses, and what stands behind these
pub parenthesized_is : (p : NodeParts PlainForm) {h k b : ℕ} → IsForm p.first h 0 → IsForm p.second k b → p.third ≡ empty → p.fourth ≡ empty
    → IsForm (parenthesized p) (max (1 + h + b) k) 0
parenthesized_is p {h} i j c d = closed_is (end_is (end_is (end_is (order_is (above_is (first_is (not_below h) i)) j) c) d) refl)

-- ---- what stands behind an operand

pub alone_is : (kind : PlainKind) (p : NodeParts PlainForm) {h : ℕ} → IsForm p.first h 0 → p.second ≡ empty → p.third ≡ empty → p.fourth ≡ empty
    → IsForm (all_in_order (suffix kind (in_order empty p.first)) (rest p)) (1 + h) 1
alone_is kind p {h} i b c d = end_is (end_is (end_is (end_is (suffix_is (first_is (not_below h) i)) b) c) d) refl

pub before_is : (kind : PlainKind) (p : NodeParts PlainForm) {h k b : ℕ} → IsForm p.first h 0 → IsForm p.second k b → p.third ≡ empty
    → p.fourth ≡ empty → IsForm (all_in_order (suffix kind (in_order empty p.first)) (rest p)) (max (1 + h + b) k) (1 + b)
before_is kind p {h} i j c d = end_is (end_is (end_is (order_is (suffix_is (first_is (not_below h) i)) j) c) d) refl

pub two_before_is : (kind : PlainKind) (p : NodeParts PlainForm) {h k l b : ℕ} → IsForm p.first h 0 → IsForm p.second k 0 → IsForm p.third l b
    → p.fourth ≡ empty → IsForm (all_in_order (suffix kind (in_order empty p.first)) (rest p)) (max (max (1 + h + 0) k + b) l) (1 + 0 + b)
two_before_is kind p {h} i j k d = end_is (end_is (order_is (order_is (suffix_is (first_is (not_below h) i)) j) k) d) refl

pub choice_is : (kind : PlainKind) (p : NodeParts PlainForm) {h k : ℕ} → IsForm p.first h 0 → IsForm p.second k 0 → p.third ≡ empty → p.fourth ≡ empty
    → IsForm (all_in_order (suffix kind (in_order (in_order empty p.first) p.second)) (rest (rest p))) (1 + max (h + 0) k) 1
choice_is kind p {h} i j c d = end_is (end_is (end_is (end_is (suffix_is (order_is (first_is (not_below h) i) j)) c) d) refl) refl

-- ---- kinds

pub without : (k : PlainKind) (f : PlainForm) → f ≡ empty → behind k f.kind ≡ k
without k f e = ap (λ (x : PlainForm). behind k x.kind) e

without2 : (k : PlainKind) (f g : PlainForm) → f ≡ empty → g ≡ empty → behind (behind k f.kind) g.kind ≡ k
without2 k f g e h = without (behind k f.kind) g h ∙ without k f e

without3 : (k : PlainKind) (f g h : PlainForm) → f ≡ empty → g ≡ empty → h ≡ empty → behind (behind (behind k f.kind) g.kind) h.kind ≡ k
without3 k f g h e i j = without (behind (behind k f.kind) g.kind) h j ∙ without2 k f g e i

pub none_kind : (p : NodeParts PlainForm) → p.first ≡ empty → p.second ≡ empty → p.third ≡ empty → p.fourth ≡ empty
    → (all_in_order empty p).kind ≡ Same
none_kind p a b c d = without3 (behind Same p.first.kind) p.second p.third p.fourth b c d ∙ without Same p.first a

pub one_kind : (p : NodeParts PlainForm) (k : PlainKind) → p.first.kind ≡ k → p.second ≡ empty → p.third ≡ empty → p.fourth ≡ empty
    → (all_in_order empty p).kind ≡ behind Same k
one_kind p k e b c d = without3 (behind Same p.first.kind) p.second p.third p.fourth b c d ∙ ap (behind Same) e

pub two_kind : (p : NodeParts PlainForm) → p.second.kind ≡ Other → p.third ≡ empty → p.fourth ≡ empty → (all_in_order empty p).kind ≡ Other
two_kind p e c d = without2 (behind (behind Same p.first.kind) p.second.kind) p.third p.fourth c d ∙ ap (behind (behind Same p.first.kind)) e

-- ---- steps of a location

abbrev pub IsStep : PlainForm → ℕ → ℕ → Type 0
IsStep f h a = IsForm f h a × (f.kind ≡ Other)

-- the last one
pub last_step : (p : NodeParts PlainForm) (h k b : ℕ) → IsForm p.first h 0 → IsForm p.second k b → p.second.kind ≡ Same
    → IsStep (step_before p.second.kind p) (max (h + b) k) 0
last_step p h k b i j e = subst (λ x. IsStep (step_before x p) (max (h + b) k) 0) (sym e) (closed_is (order_is i j), refl)

-- and one before others
pub step_more : (p : NodeParts PlainForm) (h k b : ℕ) → IsForm p.first h 0 → IsForm p.second k b → p.second.kind ≡ Other
    → IsStep (step_before p.second.kind p) (max (1 + h + b) k) (1 + b)
step_more p h k b i j e = subst (λ x. IsStep (step_before x p) (max (1 + h + b) k) (1 + b)) (sym e) (order_is (suffix_is (first_is (not_below h) i)) j, ap (behind Other) e)
