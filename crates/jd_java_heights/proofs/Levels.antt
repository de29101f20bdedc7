-- How high forms are, how many levels they add and how high the statements in them are, by numbers of which those above 201 are not told apart.
use Rattle.std.proofs.Common.{◌≡◌, ℕ, ◌+◌, min, max, refl, ap, ◌∙◌, arith}
use Rattle.jd_grammar.specs.declared.piles.NodeParts.{NodeParts}
use Rattle.jd_java_attributes.specs.declared.form.Form.{Form}
use Rattle.jd_java_attributes.specs.Rules.{all_in_order, only_tokens}
use Rattle.jd_java_attributes.specs.Judging.{PlainAttributes, nothing}

-- ---- three numbers of a form

-- the height `h`, `a` levels and the statements' height `s` are told as `m`, `n` and `o`
pub record Is (m n o h a s : ℕ) : Type 0 where
  pub height_is : m ≡ min h 201
  pub adds_is : n ≡ min a 201
  pub nesting_is : o ≡ min s 201

abbrev pub IsForm : Form → ℕ → ℕ → ℕ → Type 0
IsForm f h a s = Is f.height f.adds f.nesting h a s

abbrev pub Flat : Form → Type 0
Flat f = IsForm f 0 0 0

-- ---- numbers

zero_is_told : 0 ≡ min 0 201
zero_is_told = omega arith

one_is_told : 1 ≡ min 1 201
one_is_told = omega arith

higher : (m n p h b k : ℕ) → m ≡ min h 201 → n ≡ min b 201 → p ≡ min k 201 → max (min (m + n) 201) p ≡ min (max (h + b) k) 201
higher m n p h b k x y z = omega arith

together_is : (m n a b : ℕ) → m ≡ min a 201 → n ≡ min b 201 → min (m + n) 201 ≡ min (a + b) 201
together_is m n a b x y = omega arith

highest_is : (m n a b : ℕ) → m ≡ min a 201 → n ≡ min b 201 → max m n ≡ min (max a b) 201
highest_is m n a b x y = omega arith

next : (m h : ℕ) → m ≡ min h 201 → min (m + 1) 201 ≡ min (1 + h) 201
next m h x = omega arith

-- ---- forms

pub equal_to : {m n o h a s k b t : ℕ} → Is m n o h a s → h ≡ k → a ≡ b → s ≡ t → Is m n o k b t
equal_to i e g l = record {
  height_is = i.height_is ∙ ap (λ x. min x 201) e;
  adds_is = i.adds_is ∙ ap (λ x. min x 201) g;
  nesting_is = i.nesting_is ∙ ap (λ x. min x 201) l;
}

pub zero_is : Is 0 0 0 0 0 0
zero_is = record { height_is = zero_is_told; adds_is = zero_is_told; nesting_is = zero_is_told }

pub nothing_is : {a : PlainAttributes} → a ≡ nothing → Flat a.form
nothing_is {a} e = record {
  height_is = ap (λ (x : PlainAttributes). x.form.height) e ∙ zero_is_told;
  adds_is = ap (λ (x : PlainAttributes). x.form.adds) e ∙ zero_is_told;
  nesting_is = ap (λ (x : PlainAttributes). x.form.nesting) e ∙ zero_is_told;
}

-- one before the other
pub order_is : {m n o p q r h a s k b t : ℕ} → Is m n o h a s → Is p q r k b t
    → Is (max (min (m + q) 201) p) (min (n + q) 201) (max o r) (max (h + b) k) (a + b) (max s t)
order_is {m} {n} {o} {p} {q} {r} {h} {a} {s} {k} {b} {t} i j = record {
  height_is = higher m q p h b k i.height_is j.adds_is j.height_is;
  adds_is = together_is n q a b i.adds_is j.adds_is;
  nesting_is = highest_is o r s t i.nesting_is j.nesting_is;
}

-- one level above
pub above_is : {m n o h a s : ℕ} → Is m n o h a s → Is (min (m + 1) 201) 0 o (1 + h) 0 s
above_is {m} {n} {o} {h} {a} {s} i = record { height_is = next m h i.height_is; adds_is = zero_is_told; nesting_is = i.nesting_is }

pub suffix_is : {m n o h a s : ℕ} → Is m n o h a s → Is (min (m + 1) 201) 1 o (1 + h) 1 s
suffix_is {m} {n} {o} {h} {a} {s} i = record { height_is = next m h i.height_is; adds_is = one_is_told; nesting_is = i.nesting_is }

pub closed_is : {m n o h a s : ℕ} → Is m n o h a s → Is m 0 o h 0 s
closed_is i = record { height_is = i.height_is; adds_is = zero_is_told; nesting_is = i.nesting_is }

pub nested_is : {m n o h a s : ℕ} → Is m n o h a s → Is m n (min (o + 1) 201) h a (1 + s)
nested_is {m} {n} {o} {h} {a} {s} i = record { height_is = i.height_is; adds_is = i.adds_is; nesting_is = next o s i.nesting_is }

-- ---- the parts of a node

abbrev pub together : NodeParts Form → Form
together p = all_in_order (only_tokens 0) p

-- behind one
pub all_is : (f : Form) (p : NodeParts Form) {h a s k b t l c u m d v n e w : ℕ} → IsForm f h a s → IsForm p.first k b t → IsForm p.second l c u
    → IsForm p.third m d v
    → IsForm p.fourth n e w
    → IsForm (all_in_order f p) (max (max (max (max (h + b) k + c) l + d) m + e) n) (a + b + c + d + e) (max (max (max (max s t) u) v) w)
all_is f p i j k l m = order_is (order_is (order_is (order_is i j) k) l) m

flat_heights : (k l m n : ℕ) → max (max (max (max (0 + 0) k + 0) l + 0) m + 0) n ≡ max (max (max k l) m) n
flat_heights k l m n = omega arith

flat_nesting : (t u v w : ℕ) → max (max (max (max 0 t) u) v) w ≡ max (max (max t u) v) w
flat_nesting t u v w = omega arith

-- of parts that add no levels
pub flats_is : (p : NodeParts Form) {k t l u m v n w : ℕ} → IsForm p.first k 0 t → IsForm p.second l 0 u → IsForm p.third m 0 v
    → IsForm p.fourth n 0 w
    → IsForm (together p) (max (max (max k l) m) n) 0 (max (max (max t u) v) w)
flats_is p {k} {t} {l} {u} {m} {v} {n} {w} i j g h = equal_to (all_is (only_tokens 0) p zero_is i j g h) (flat_heights k l m n) refl (flat_nesting t u v w)

only_first : (k : ℕ) → max (max (max k 0) 0) 0 ≡ k
only_first k = omega arith

only_second : (k : ℕ) → max (max (max 0 k) 0) 0 ≡ k
only_second k = omega arith

only_third : (k : ℕ) → max (max (max 0 0) k) 0 ≡ k
only_third k = omega arith

only_fourth : (k : ℕ) → max (max (max 0 0) 0) k ≡ k
only_fourth k = omega arith

only_both : (k l : ℕ) → max (max (max k l) 0) 0 ≡ max k l
only_both k l = omega arith

pub only1 : (p : NodeParts Form) {h s : ℕ} → IsForm p.first h 0 s → Flat p.second → Flat p.third → Flat p.fourth → IsForm (together p) h 0 s
only1 p {h} {s} a b c d = equal_to (flats_is p a b c d) (only_first h) refl (only_first s)

pub only2 : (p : NodeParts Form) {h s : ℕ} → Flat p.first → IsForm p.second h 0 s → Flat p.third → Flat p.fourth → IsForm (together p) h 0 s
only2 p {h} {s} a b c d = equal_to (flats_is p a b c d) (only_second h) refl (only_second s)

pub only3 : (p : NodeParts Form) {h s : ℕ} → Flat p.first → Flat p.second → IsForm p.third h 0 s → Flat p.fourth → IsForm (together p) h 0 s
only3 p {h} {s} a b c d = equal_to (flats_is p a b c d) (only_third h) refl (only_third s)

pub only4 : (p : NodeParts Form) {h s : ℕ} → Flat p.first → Flat p.second → Flat p.third → IsForm p.fourth h 0 s → IsForm (together p) h 0 s
only4 p {h} {s} a b c d = equal_to (flats_is p a b c d) (only_fourth h) refl (only_fourth s)

pub both_is : (p : NodeParts Form) {h s k t : ℕ} → IsForm p.first h 0 s → IsForm p.second k 0 t → Flat p.third → Flat p.fourth
    → IsForm (together p) (max h k) 0 (max s t)
both_is p {h} {s} {k} {t} a b c d = equal_to (flats_is p a b c d) (only_both h k) refl (only_both s t)

pub low_is : (p : NodeParts Form) → Flat p.first → Flat p.second → Flat p.third → Flat p.fourth → Flat (together p)
low_is p a b c d = only1 p a b c d

-- one level above the first part
above_first : (h : ℕ) → max (0 + 0) h ≡ h
above_first h = omega arith

pub raised_is : {m n o h s : ℕ} → Is m n o h 0 s → Is (min (max (min (0 + n) 201) m + 1) 201) 0 (max 0 o) (1 + h) 0 s
raised_is {m} {n} {o} {h} {s} i = equal_to (above_is (order_is zero_is i)) (ap (λ x. 1 + x) (above_first h)) refl (zero_max s)
  where
    zero_max : (k : ℕ) → max 0 k ≡ k
    zero_max k = omega arith

pub lifted_is : {m n o h s : ℕ} → Is m n o h 0 s → Is (min (max (min (0 + n) 201) m + 1) 201) 1 (max 0 o) (1 + h) 1 s
lifted_is {m} {n} {o} {h} {s} i = equal_to (suffix_is (order_is zero_is i)) (ap (λ x. 1 + x) (above_first h)) refl (zero_max s)
  where
    zero_max : (k : ℕ) → max 0 k ≡ k
    zero_max k = omega arith
