-- Tests that decide, and what they decide together.
use Rattle.std.proofs.Common.{Bool, Decides, List, None, Option, Some, ap, eq-eqb, eqb-true, false, inl, inr, is_some, nat_eq, not, refl, subst, sym, true, true≢false, ◌&&◌, ◌||◌, ◌≡◌, ◌∙◌, ◌∷◌, ◌⊎◌, ℕ, []}
use Rattle.std.proofs.lemmas.Bool.{and_from, and_parts, false_from_ne_true, not_from_false, not-true, or_cases, or_from, or_left, or_parts, or_right}
use Rattle.jd_base.specs.declared.sort.Sort.{Sort}
use Rattle.jd_base.specs.declared.sort.Sort.TheVariants as sorts
use Rattle.jd_model.specs.Places.{FormulaPart}
use Rattle.jd_model.specs.declared.sequent.Side.{Side}
use Rattle.jd_model.specs.declared.sequent.Side.TheVariants.{Left, Right}
use Rattle.jd_syntax.specs.CodeNames.{same_sort}
use Rattle.jd_taclet_stages.specs.Stages.{is_empty, is_side}
use Rattle.jd_term.specs.Formulas.{PlainFormula}

-- ---- together

pub itself : (b : Bool) → Decides b (b ≡ true)
itself b = (λ e. e, λ e. e)

pub always : Decides true (Unit {0})
always = (λ e. tt, λ h. refl)

pub never : Decides false ⊥
never = (λ e. true≢false (sym e), λ h. absurd h)

pub both : (a b : Bool) (P Q : Type 0) → Decides a P → Decides b Q → Decides (a && b) (P × Q)
both a b P Q p q = (λ e. let h = and_parts a b e in (p.0 h.0, q.0 h.1), λ h. and_from a b (p.1 h.0) (q.1 h.1))

pub either : (a b : Bool) (P Q : Type 0) → Decides a P → Decides b Q → Decides (a || b) (P ⊎ Q)
either a b P Q p q = (λ e. one (or_cases a b e), other)
  where
    one : (a ≡ true) ⊎ (b ≡ true) → P ⊎ Q
    one (inl e) = inl (p.0 e)
    one (inr e) = inr (q.0 e)

    other : P ⊎ Q → (a || b) ≡ true
    other (inl h) = or_left a b (p.1 h)
    other (inr h) = or_right a b (q.1 h)

-- the test fails just where it holds
abbrev pub Misses : Bool → Type 0 → Type 0
Misses b P = (b ≡ false → P) × (P → b ≡ false)

pub opposite : (b : Bool) (P : Type 0) → Decides b P → Misses b (P → ⊥)
opposite b P d = (λ e h. true≢false (sym (d.1 h) ∙ e), λ h. false_from_ne_true b (λ e. h (d.0 e)))

pub negated : (b : Bool) (P : Type 0) → Misses b P → Decides (not b) P
negated b P m = (λ e. m.0 (not-true b e), λ h. not_from_false b (m.1 h))

pub fails : (b : Bool) → Misses b (b ≡ false)
fails b = (λ e. e, λ e. e)

pub nowhere : Misses false (Unit {0})
nowhere = (λ e. tt, λ h. refl)

pub two : (a b : Bool) (P Q : Type 0) → Misses a P → Misses b Q → Misses (a || b) (P × Q)
two a b P Q p q = (λ e. let h = or_parts a b e in (p.0 h.0, q.0 h.1), λ h. or_from a b (p.1 h.0) (q.1 h.1))

pub three : (a b c : Bool) (P Q R : Type 0) → Misses a P → Misses b Q → Misses c R → Misses (a || b || c) (P × Q × R)
three a b c P Q R p q r = (
  λ e. let h = or_parts (a || b) c e in let g = or_parts a b h.0 in (p.0 g.0, q.0 g.1, r.0 h.1),
  λ h. or_from (a || b) c (or_from a b (p.1 h.0) (q.1 h.1)) (r.1 h.2),
)

pub four : (a b c d : Bool) (P Q R S : Type 0) → Misses a P → Misses b Q → Misses c R → Misses d S → Misses (a || b || c || d) (P × Q × R × S)
four a b c d P Q R S p q r s = (
  λ e. let h = or_parts (a || b || c) d e in let g = or_parts (a || b) c h.0 in let f = or_parts a b g.0 in (p.0 f.0, q.0 f.1, r.0 g.1, s.0 h.1),
  λ h. or_from (a || b || c) d (or_from (a || b) c (or_from a b (p.1 h.0) (q.1 h.1)) (r.1 h.2)) (s.1 h.3),
)

-- ---- some tests

pub numbers_decide : (m n : ℕ) → Decides (nat_eq m n) (m ≡ n)
numbers_decide m n = (eqb-true m n, eq-eqb m n)

pub sides_decide : (a b : Side) → Decides (is_side a b) (a ≡ b)
sides_decide Left Left = (λ e. refl, λ h. refl)
sides_decide Right Right = (λ e. refl, λ h. refl)
sides_decide Left Right = (λ e. absurd (true≢false (sym e)), λ h. sym (ap (is_side Left) h))
sides_decide Right Left = (λ e. absurd (true≢false (sym e)), λ h. sym (ap (is_side Right) h))

pub empty_decides : {A : Type 0} (l : List A) → Decides (is_empty l) (l ≡ [])
empty_decides [] = (λ e. refl, λ h. refl)
empty_decides (x ∷ l) = (λ e. absurd (true≢false (sym e)), λ h. ap is_empty h)

one_sort : (a b : Sort) → same_sort a b ≡ true → a ≡ b
one_sort sorts.Int sorts.Int e = refl
one_sort sorts.Bool sorts.Bool e = refl
one_sort sorts.Ref sorts.Ref e = refl
one_sort sorts.Heap sorts.Heap e = refl
one_sort sorts.Field sorts.Field e = refl
one_sort a b e = absurd (true≢false (sym e))

own_sort : (a : Sort) → same_sort a a ≡ true
own_sort sorts.Int = refl
own_sort sorts.Bool = refl
own_sort sorts.Ref = refl
own_sort sorts.Heap = refl
own_sort sorts.Field = refl

pub sorts_decide : (a b : Sort) → Decides (same_sort a b) (a ≡ b)
sorts_decide a b = (one_sort a b, λ e. subst (λ z. same_sort a z ≡ true) e (own_sort a))

-- ---- optional values

pub no_value : {A : Type 0} (o : Option A) → is_some o ≡ false → o ≡ None
no_value None e = refl
no_value (Some x) e = absurd (true≢false e)

pub not_some : {A : Type 0} (o : Option A) → not (is_some o) ≡ true → o ≡ None
not_some None e = refl
not_some (Some x) e = absurd (true≢false (sym e))

-- ---- parts and lists

pub formula_same : {x y : PlainFormula} → Some (FormulaPart x) ≡ Some (FormulaPart y) → x ≡ y
formula_same e = cc

pub no_cons : {A : Type 0} {x : A} {l : List A} → (x ∷ l) ≡ [] → ⊥
no_cons e = cc
