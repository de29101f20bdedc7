-- What a row assumes stands at the assumed places: cause eight.
use Rattle.std.proofs.Common.{Bool, Decides, List, None, Option, Some, ap, cond, false, nat_eq, refl, subst, sym, true, ◌&&◌, ◌↔◌, ◌≡◌, ◌∙◌, ◌∷◌, ℕ, []}
use Rattle.std.proofs.lemmas.Option.{none-some}
use Rattle.std.specs.Option.{IfSome, option_and_then}
use Rattle.jd_model.specs.Places.{FormulaPart, at_place, numbered}
use Rattle.jd_model.specs.Programs.{Program}
use Rattle.jd_model.specs.Sequents.{PlainPlace, PlainSequent}
use Rattle.jd_model.specs.declared.sequent.Side.{Side}
use Rattle.jd_model.specs.declared.sequent.Side.TheVariants.{Left, Right}
use Rattle.jd_pattern_laws.proofs.Binding.{formula_binds, on_binds, stays, then_binds}
use Rattle.jd_pattern_laws.proofs.Chosen.{bind_once}
use Rattle.jd_pattern_laws.proofs.Exact.{alike, parted, seq}
use Rattle.jd_pattern_laws.proofs.Keeping.{formula_keeps, keep_next, keep_on}
use Rattle.jd_pattern_laws.proofs.Meets.{Where}
use Rattle.jd_pattern_laws.specs.Laws.{Binds, MakesFormula, MatchingIsExact}
use Rattle.jd_patterns.specs.Bindings.{Bindings, Exactly, Tests, next}
use Rattle.jd_patterns.specs.Chosen.{BoundOnce}
use Rattle.jd_patterns.specs.Finds.{FitsFormula}
use Rattle.jd_patterns.specs.Instances.{Instance, of_formula}
use Rattle.jd_patterns.specs.Matching.{match_formula}
use Rattle.jd_patterns.specs.Patterns.{FormulaPattern}
use Rattle.jd_patterns.specs.Variables.{formula_variables}
use Rattle.jd_taclet_scripts.specs.Places.{AreAssumedAt, IsOther}
use Rattle.jd_taclet_stages.proofs.Deciding.{always, both, formula_same, negated, no_cons, numbers_decide, opposite, sides_decide}
use Rattle.jd_taclet_stages.specs.Ready.{assumed_variables}
use Rattle.jd_taclet_stages.specs.Stages.{assumed_at, is_other, is_side, match_assumed, whole_at}
use Rattle.jd_taclets.specs.Taclets.{AreFinds, FitAssumed}
use Rattle.jd_term.specs.Formulas.{PlainFormula}

-- ---- whole formulas

not_right : Left ≡ Right → ⊥
not_right e = cc

part_of : (o : Option PlainFormula) (y : PlainFormula) → option_and_then (λ a. Some (FormulaPart a)) o ≡ Some (FormulaPart y) → o ≡ Some y
part_of None y e = absurd (none-some (FormulaPart y) e)
part_of (Some a) y e = ap Some (formula_same e)

-- the formula of this number on the side, as the part at a place
abbrev IsThere : PlainSequent → Side → PlainPlace → PlainFormula → Type 0
IsThere s side q y = (q.side ≡ side) × (q.path ≡ []) × (at_place s q ≡ Some (FormulaPart y))

whole_is : (s : PlainSequent) (side own : Side) (n : ℕ) (path : List ℕ) (y : PlainFormula) → whole_at s side (record { side = own; index = n; path = path }) ≡ Some y → IsThere s side (record { side = own; index = n; path = path }) y
whole_is s Left Left n [] y e = (refl, refl, ap (option_and_then (λ a. Some (FormulaPart a))) e)
whole_is s Right Right n [] y e = (refl, refl, ap (option_and_then (λ a. Some (FormulaPart a))) e)
whole_is s Left Left n (k ∷ path) y e = absurd (none-some y e)
whole_is s Right Right n (k ∷ path) y e = absurd (none-some y e)
whole_is s Left Right n path y e = absurd (none-some y e)
whole_is s Right Left n path y e = absurd (none-some y e)

is_whole : (s : PlainSequent) (side own : Side) (n : ℕ) (path : List ℕ) (y : PlainFormula) → IsThere s side (record { side = own; index = n; path = path }) y → whole_at s side (record { side = own; index = n; path = path }) ≡ Some y
is_whole s Left Left n [] y h = part_of (numbered s.left n) y h.2
is_whole s Right Right n [] y h = part_of (numbered s.right n) y h.2
is_whole s Left Left n (k ∷ path) y h = absurd (no_cons h.1)
is_whole s Right Right n (k ∷ path) y h = absurd (no_cons h.1)
is_whole s Left Right n path y h = absurd (not_right (sym h.0))
is_whole s Right Left n path y h = absurd (not_right h.0)

-- ---- other formulas

other_decides : (own : Option PlainPlace) (q : PlainPlace) → Decides (is_other own q) (IsOther own q)
other_decides None q = always
other_decides (Some o) q = negated (is_side o.side q.side && nat_eq o.index q.index) ((o.side ≡ q.side) × (o.index ≡ q.index) → ⊥)
    (opposite (is_side o.side q.side && nat_eq o.index q.index) ((o.side ≡ q.side) × (o.index ≡ q.index))
    (both (is_side o.side q.side) (nat_eq o.index q.index) (o.side ≡ q.side) (o.index ≡ q.index) (sides_decide o.side q.side) (numbers_decide o.index q.index)))

-- ---- one that is assumed

module _ (p : Program) (s : PlainSequent) (own : Option PlainPlace) (σ : Instance) where
  abbrev IsAssumed : Side → FormulaPattern → PlainPlace → Type 0
  IsAssumed side a q = (q.side ≡ side) × (q.path ≡ []) × (at_place s q ≡ Some (FormulaPart (of_formula p σ a))) × IsOther own q

  module _ (side : Side) (a : FormulaPattern) (q : PlainPlace) (R F : Type 0) where
    there : (b : Bool) → Decides b (IsOther own q) → (o : Option PlainFormula) → ((y : PlainFormula) → o ≡ Some y → IsThere s side q y) → Where (cond b o None) (λ x. MakesFormula p σ a x × (R × F)) → (IsAssumed side a q × R) × (FitsFormula σ a × F)
    there false d o is h = absurd h
    there true d None is h = absurd h
    there true d (Some x) is h =
        let i : IsThere s side q x = is x refl in
        (((i.0, i.1, i.2 ∙ ap (λ z. Some (FormulaPart z)) (sym h.0.1), d.0 refl), h.1.0), (h.0.0, h.1.1))

    back : (b : Bool) → Decides b (IsOther own q) → (o : Option PlainFormula) → ((y : PlainFormula) → IsThere s side q y → o ≡ Some y) → (IsAssumed side a q × R) × (FitsFormula σ a × F) → Where (cond b o None) (λ x. MakesFormula p σ a x × (R × F))
    back b d o is h =
        subst (λ z. Where (cond z o None) (λ x. MakesFormula p σ a x × (R × F))) (sym (d.1 h.0.0.3))
        (subst (λ z. Where z (λ x. MakesFormula p σ a x × (R × F))) (sym (is (of_formula p σ a) (h.0.0.0, h.0.0.1, h.0.0.2))) ((h.1.0, refl), (h.0.1, h.1.1)))

    one_assumed : Where (assumed_at s own side (Some q)) (λ x. MakesFormula p σ a x × (R × F)) ↔ (IsAssumed side a q × R) × (FitsFormula σ a × F)
    one_assumed = (
      there (is_other own q) (other_decides own q) (whole_at s side q) (λ y e. whole_is s side q.side q.index q.path y e),
      back (is_other own q) (other_decides own q) (whole_at s side q) (λ y i. is_whole s side q.side q.index q.path y i),
    )

-- ---- all of them

module _ (matching : MatchingIsExact) (w : Tests) (p : Program) (s : PlainSequent) (own : Option PlainPlace) (σ : Instance) where
  pub assumed_law : (l : List (Side × FormulaPattern)) (qs : List (Option PlainPlace)) (τ : Bindings) → AreFinds l → Exactly σ τ (AreAssumedAt p σ s own l qs × FitAssumed p σ l) (match_assumed w s own l qs τ)
  assumed_law [] [] τ finds = (λ h. h.0, λ h. (h, (tt, tt)))
  assumed_law [] (q ∷ qs) τ finds = (λ h. absurd h.1.0, λ h. absurd h)
  assumed_law (a ∷ l) [] τ finds = (λ h. absurd h.1.0, λ h. absurd h)
  assumed_law (a ∷ l) (None ∷ qs) τ finds = (λ h. absurd h.1.0, λ h. absurd h)
  assumed_law (a ∷ l) (Some q ∷ qs) τ finds =
      let R = AreAssumedAt p σ s own l qs in
      let F = FitAssumed p σ l in
      let law = one_assumed p s own σ a.0 a.1 q R F in
      alike σ τ (Where (assumed_at s own a.0 (Some q)) (λ x. MakesFormula p σ a.1 x × (R × F))) _ (match_assumed w s own (a ∷ l) (Some q ∷ qs) τ) law.0 law.1
      (parted σ τ (assumed_at s own a.0 (Some q)) (λ x. MakesFormula p σ a.1 x × (R × F)) (λ x. next (match_formula w a.1 x τ) (match_assumed w s own l qs)) (λ x. seq σ τ (MakesFormula p σ a.1 x) (R × F) (match_formula w a.1 x τ) (match_assumed w s own l qs) (matching.of_formulas p w σ τ a.1 x finds.0) (λ υ. assumed_law l qs υ finds.1)))

module _ (w : Tests) (s : PlainSequent) (own : Option PlainPlace) where
  pub assumed_once : (l : List (Side × FormulaPattern)) (qs : List (Option PlainPlace)) (τ : Bindings) → BoundOnce w τ → IfSome (match_assumed w s own l qs τ) (BoundOnce w)
  assumed_once [] [] τ once = once
  assumed_once [] (q ∷ qs) τ once = tt
  assumed_once (a ∷ l) [] τ once = tt
  assumed_once (a ∷ l) (q ∷ qs) τ once = keep_on (BoundOnce w) (assumed_at s own a.0 q) _ (λ x. keep_next (BoundOnce w) (match_formula w a.1 x τ) (match_assumed w s own l qs) (formula_keeps w (BoundOnce w) (bind_once w) a.1 x τ once) (λ υ more. assumed_once l qs υ more))

  pub assumed_binds : (l : List (Side × FormulaPattern)) (qs : List (Option PlainPlace)) (τ : Bindings) → IfSome (match_assumed w s own l qs τ) (Binds (assumed_variables l) τ)
  assumed_binds [] [] τ = stays τ
  assumed_binds [] (q ∷ qs) τ = tt
  assumed_binds (a ∷ l) [] τ = tt
  assumed_binds (a ∷ l) (q ∷ qs) τ = on_binds τ (assumed_variables (a ∷ l)) (assumed_at s own a.0 q) _ (λ x. then_binds τ (formula_variables a.1) (assumed_variables l) (match_formula w a.1 x τ) (match_assumed w s own l qs) (formula_binds w a.1 x τ) (λ υ. assumed_binds l qs υ))
