-- Bindings that bind no variable twice choose an instantiation that agrees with them, and matching keeps them so.
use Rattle.std.proofs.Common.{◌≡◌, ◌&&◌, Bool, true, false, cond, nat_eq, [], ◌∷◌, Option, Some, None, refl, sym, ap, ◌∙◌, subst, true≢false}
use Rattle.std.proofs.lemmas.Bool.{eqb-true, eq-eqb}
use Rattle.std.specs.Option.{IfSome}
use Rattle.jd_patterns.specs.Patterns.{SchemaVar}
use Rattle.jd_patterns.specs.Instances.{Instance}
use Rattle.jd_patterns.specs.Bindings.{Part, TheFormula, TheTerm, TheLiteral, TheLocations, TheKind, TheSort, TheName, TheResult, TheField, TheClass, TheLabel, TheCode, TheReturn, TheSimple, TheModality, TheContext, Bindings, Says, Agrees, Exactly, Tests, Verdict, OtherKind, Equal, Different, verdict, compare, placed, bind}
use Rattle.jd_patterns.specs.Variables.{Variable}
use Rattle.jd_patterns.specs.Chosen.{kind_of, number_of, is_of, bound_to, BoundOnce, as_formula, as_term, as_literal, as_locations, as_kind, as_sort, as_name, as_result, as_field, as_class, as_label, as_code, as_return, as_simple, as_modality, as_context, chosen}
use Rattle.jd_pattern_laws.specs.Laws.{IsDecided}

-- ---- tests

first_true : (a b : Bool) → (a && b) ≡ true → a ≡ true
first_true true b e = refl
first_true false b e = e

second_true : (a b : Bool) → (a && b) ≡ true → b ≡ true
second_true true b e = e
second_true false b e = absurd (true≢false (sym e))

both_true : (a b : Bool) → a ≡ true → b ≡ true → (a && b) ≡ true
both_true a b e f = ap (λ x. x && b) e ∙ f

-- what would be true if another were, and that is not, is false
not_true : (a : Bool) → (a ≡ true → ⊥) → a ≡ false
not_true true h = absurd (h refl)
not_true false h = refl

no_part : {x : Part} → Some x ≡ None → ⊥
no_part e = true≢false (ap (λ o. elim o as (λ _. Bool) [ None ↦ false | Some y ↦ true ]) e)

module _ (w : Tests) where
  -- the test of a variable's bindings is symmetric
  turned : (n m : SchemaVar) (x y : Part) → is_of w (kind_of y, m) (n, x) ≡ true → is_of w (kind_of x, n) (m, y) ≡ true
  turned n m x y e = both_true _ _
      (eq-eqb _ _ (sym (eqb-true (number_of (kind_of x)) (number_of (kind_of y)) (first_true _ _ e))))
      ((w.variable.decides m n).1 (sym ((w.variable.decides n m).0 (second_true (nat_eq (number_of (kind_of x)) (number_of (kind_of y))) _ e))))

  own : (n : SchemaVar) (x : Part) → is_of w (kind_of x, n) (n, x) ≡ true
  own n x = both_true _ _ (eq-eqb (number_of (kind_of x)) (number_of (kind_of x)) refl) ((w.variable.decides n n).1 refl)

  -- ---- the chosen instantiation

  found_says : (ρ : Bindings) (n : SchemaVar) (x : Part) → bound_to w (kind_of x, n) ρ ≡ Some x → Says (chosen w ρ) n x
  found_says ρ n (TheFormula x) e = ap as_formula e
  found_says ρ n (TheTerm x) e = ap as_term e
  found_says ρ n (TheLiteral x) e = ap as_literal e
  found_says ρ n (TheLocations x) e = ap as_locations e
  found_says ρ n (TheKind x) e = ap as_kind e
  found_says ρ n (TheSort x) e = ap as_sort e
  found_says ρ n (TheName x) e = ap as_name e
  found_says ρ n (TheResult x) e = ap as_result e
  found_says ρ n (TheField x) e = ap as_field e
  found_says ρ n (TheClass x) e = ap as_class e
  found_says ρ n (TheLabel x) e = ap as_label e
  found_says ρ n (TheCode x) e = ap as_code e
  found_says ρ n (TheReturn x) e = ap as_return e
  found_says ρ n (TheSimple x) e = ap as_simple e
  found_says ρ n (TheModality x) e = ap as_modality e
  found_says ρ n (TheContext x) e = ap as_context e

  -- each of these bindings is the first of its variable among those
  abbrev AllFound : Bindings → Bindings → Type 0
  AllFound [] ρ = Unit {0}
  AllFound (e ∷ τ) ρ = (bound_to w (kind_of e.1, e.0) ρ ≡ Some e.1) × AllFound τ ρ

  passed : (b : Bool) (x : Option Part) (y : Part) → cond b (Some y) x ≡ None → (b ≡ false) × (x ≡ None)
  passed true x y e = absurd (no_part e)
  passed false x y e = (refl, e)

  past : (e : SchemaVar × Part) (τ ρ : Bindings) → bound_to w (kind_of e.1, e.0) τ ≡ None → AllFound τ ρ → AllFound τ (e ∷ ρ)
  past e [] ρ h f = tt
  past e (b ∷ τ) ρ h f = let p = passed (is_of w (kind_of e.1, e.0) b) (bound_to w (kind_of e.1, e.0) τ) b.1 h in (ap (λ t. cond t (Some e.1) (bound_to w (kind_of b.1, b.0) ρ)) (not_true _ (λ t. true≢false (sym (turned e.0 b.0 e.1 b.1 t) ∙ p.0))) ∙ f.0, past e τ ρ p.1 f.1)

  all_found : (τ : Bindings) → BoundOnce w τ → AllFound τ τ
  all_found [] o = tt
  all_found (e ∷ τ) o = (ap (λ t. cond t (Some e.1) (bound_to w (kind_of e.1, e.0) τ)) (own e.0 e.1), past e τ τ o.0 (all_found τ o.1))

  found_agrees : (τ ρ : Bindings) → AllFound τ ρ → Agrees (chosen w ρ) τ
  found_agrees [] ρ f = tt
  found_agrees (e ∷ τ) ρ f = (found_says ρ e.0 e.1 f.0, found_agrees τ ρ f.1)

  pub chosen_agrees : (τ : Bindings) → BoundOnce w τ → Agrees (chosen w τ) τ
  chosen_agrees τ o = found_agrees τ τ (all_found τ o)

  -- ---- binding

  -- parts that compare as of two kinds are
  no_verdict : (b : Bool) → verdict b ≡ OtherKind → ⊥
  no_verdict true e = true≢false (ap (λ v. elim v as (λ _. Bool) [ OtherKind ↦ false | Equal ↦ true | Different ↦ true ]) e)
  no_verdict false e = true≢false (ap (λ v. elim v as (λ _. Bool) [ OtherKind ↦ false | Equal ↦ true | Different ↦ true ]) e)

  other_kind : (x y : Part) → compare w x y ≡ OtherKind → nat_eq (number_of (kind_of x)) (number_of (kind_of y)) ≡ false
  other_kind (TheFormula x) (TheFormula y) e = absurd (no_verdict _ e)
  other_kind (TheTerm x) (TheTerm y) e = absurd (no_verdict _ e)
  other_kind (TheLiteral x) (TheLiteral y) e = absurd (no_verdict _ e)
  other_kind (TheLocations x) (TheLocations y) e = absurd (no_verdict _ e)
  other_kind (TheKind x) (TheKind y) e = absurd (no_verdict _ e)
  other_kind (TheSort x) (TheSort y) e = absurd (no_verdict _ e)
  other_kind (TheName x) (TheName y) e = absurd (no_verdict _ e)
  other_kind (TheResult x) (TheResult y) e = absurd (no_verdict _ e)
  other_kind (TheField x) (TheField y) e = absurd (no_verdict _ e)
  other_kind (TheClass x) (TheClass y) e = absurd (no_verdict _ e)
  other_kind (TheLabel x) (TheLabel y) e = absurd (no_verdict _ e)
  other_kind (TheCode x) (TheCode y) e = absurd (no_verdict _ e)
  other_kind (TheReturn x) (TheReturn y) e = absurd (no_verdict _ e)
  other_kind (TheSimple x) (TheSimple y) e = absurd (no_verdict _ e)
  other_kind (TheModality x) (TheModality y) e = absurd (no_verdict _ e)
  other_kind (TheContext x) (TheContext y) e = absurd (no_verdict _ e)
  other_kind x y e = refl

  -- another variable that has no part gets none
  none_in : (v : Variable) (n : SchemaVar) (x : Part) (τ : Bindings) → is_of w v (n, x) ≡ false → bound_to w v τ ≡ None → IfSome (bind w n x τ) (λ υ. bound_to w v υ ≡ None)
  none_in v n x [] h f = ap (λ t. cond t (Some x) None) h
  none_in v n x (e ∷ τ) h f = by (cond (w.variable.same e.0 n) (compare w x e.1) OtherKind) (bind w n x τ) (none_in v n x τ h p.1)
    where
      p : (is_of w v e ≡ false) × (bound_to w v τ ≡ None)
      p = passed (is_of w v e) (bound_to w v τ) e.1 f

      by : (d : Verdict) (o : Option Bindings) → IfSome o (λ υ. bound_to w v υ ≡ None) → IfSome (placed d e τ o) (λ υ. bound_to w v υ ≡ None)
      by OtherKind None i = tt
      by OtherKind (Some υ) i = ap (λ t. cond t (Some e.1) (bound_to w v υ)) p.0 ∙ i
      by Equal o i = f
      by Different o i = tt

  pub bind_once : (n : SchemaVar) (x : Part) (τ : Bindings) → BoundOnce w τ → IfSome (bind w n x τ) (BoundOnce w)
  bind_once n x [] o = (refl, tt)
  bind_once n x (e ∷ τ) o = by (cond (w.variable.same e.0 n) (compare w x e.1) OtherKind) refl (bind w n x τ) refl (bind_once n x τ o.1)
    where
      apart : (b : Bool) → w.variable.same e.0 n ≡ b → cond b (compare w x e.1) OtherKind ≡ OtherKind → is_of w (kind_of e.1, e.0) (n, x) ≡ false
      apart true q h = ap (λ t. t && w.variable.same n e.0) (other_kind x e.1 h)
      apart false q h = not_true _ (λ t. true≢false (sym ((w.variable.decides e.0 n).1 (sym ((w.variable.decides n e.0).0 (second_true (nat_eq (number_of (kind_of x)) (number_of (kind_of e.1))) _ t)))) ∙ q))

      by : (d : Verdict) → cond (w.variable.same e.0 n) (compare w x e.1) OtherKind ≡ d → (r : Option Bindings) → bind w n x τ ≡ r → IfSome r (BoundOnce w) → IfSome (placed d e τ r) (BoundOnce w)
      by OtherKind h None is i = tt
      by OtherKind h (Some υ) is i = (subst (λ r. IfSome r (λ υ. bound_to w (kind_of e.1, e.0) υ ≡ None)) is (none_in (kind_of e.1, e.0) n x τ (apart (w.variable.same e.0 n) refl h) o.0), i)
      by Equal h r is i = o
      by Different h r is i = tt

-- what is exact and binds no variable twice is decided
pub decided : (w : Tests) (τ : Bindings) (Makes : Instance → Type 0) (o : Option Bindings) → ((σ : Instance) → Exactly σ τ (Makes σ) o) → IfSome o (BoundOnce w) → IsDecided w τ Makes o
decided w τ Makes None exact once = (((λ e σ h m. (exact σ).0 (h, m)), (λ h. refl)), tt)
decided w τ Makes (Some υ) exact once =
    let m : Agrees (chosen w υ) τ × Makes (chosen w υ) = (exact (chosen w υ)).1 (chosen_agrees w υ once) in
    (((λ e. absurd (none_here e)), (λ h. absurd (h (chosen w υ) m.0 m.1))), (once, m))
  where
    none_here : {x : Bindings} → Some x ≡ None → ⊥
    none_here e = true≢false (ap (λ o. elim o as (λ _. Bool) [ None ↦ false | Some y ↦ true ]) e)
