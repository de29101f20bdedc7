-- What a row assumes, one after the other.
use Rattle.std.proofs.Common.{List, None, Option, Some, ap, arith, drop, get_or, length, map, refl, sym, ◌+◌, ◌<◌, ◌≡◌, ◌∙◌, ◌∷◌, ℕ, []}
use Rattle.std.proofs.lemmas.List.{drop_more}
use Rattle.jd_model.specs.Sequents.{PlainPlace, PlainSequent}
use Rattle.jd_model.specs.declared.sequent.Side.{Side}
use Rattle.jd_patterns.specs.Bindings.{Bindings, next, on}
use Rattle.jd_patterns.specs.Matching.{match_formula}
use Rattle.jd_patterns.specs.Patterns.{FormulaPattern}
use Rattle.jd_schema_matching.specs.Tested.{tests}
use Rattle.jd_taclet_stages.specs.Stages.{assumed_at, match_assumed}
use Rattle.jd_term.specs.Formulas.{PlainFormula}

module _ (s : PlainSequent) (own : Option PlainPlace) where
  abbrev pub assumed_one : Side × FormulaPattern → Option PlainPlace → Bindings → Option Bindings
  assumed_one a q τ = on (assumed_at s own a.0 q) (λ x. match_formula tests a.1 x τ)

  none_then : (o : Option Bindings) (k : Bindings → Option Bindings) → ((τ : Bindings) → k τ ≡ None) → next o k ≡ None
  none_then None k none = refl
  none_then (Some τ) k none = none τ

  none_on : (o : Option PlainFormula) (f : PlainFormula → Option Bindings) (k : Bindings → Option Bindings) → ((τ : Bindings) → k τ ≡ None) → on o (λ x. next (f x) k) ≡ None
  none_on None f k none = refl
  none_on (Some x) f k none = none_then (f x) k none

  -- places that are not as many
  pub none_assumed : (l : List (Side × FormulaPattern)) (qs : List (Option PlainPlace)) (τ : Bindings) → (length l ≡ length qs → ⊥) → match_assumed tests s own l qs τ ≡ None
  none_assumed [] [] τ other = absurd (other refl)
  none_assumed [] (q ∷ qs) τ other = refl
  none_assumed (a ∷ l) [] τ other = refl
  none_assumed (a ∷ l) (q ∷ qs) τ other =
      none_on (assumed_at s own a.0 q) (λ x. match_formula tests a.1 x τ) (match_assumed tests s own l qs) (λ φ. none_assumed l qs φ (λ e. other (omega (arith, e))))

  next_on : (o : Option PlainFormula) (f : PlainFormula → Option Bindings) (k : Bindings → Option Bindings) → on o (λ x. next (f x) k) ≡ next (on o f) k
  next_on None f k = refl
  next_on (Some x) f k = refl

  -- the next one of both lists
  pub one_assumed : {A P : Type 0} (f : A → Side × FormulaPattern) (g : P → Option PlainPlace) (as' : List A) (qs : List P) (i : ℕ) (a : A) (q : P) (τ : Bindings) → i < length as' → i < length qs → a ≡ get_or as' i a → q ≡ get_or qs i q → match_assumed tests s own (map f (drop i as')) (map g (drop i qs)) τ ≡ next (assumed_one (f a) (g q) τ) (match_assumed tests s own (map f (drop (i + 1) as')) (map g (drop (i + 1) qs)))
  one_assumed {A} {P} f g as' qs i a q τ lt lq is iq =
      ap (λ (l : List A). match_assumed tests s own (map f l) (map g (drop i qs)) τ) (drop_more as' i a lt ∙ ap (λ x. x ∷ drop (i + 1) as') (sym is))
      ∙ ap (λ (l : List P). match_assumed tests s own (f a ∷ map f (drop (i + 1) as')) (map g l) τ) (drop_more qs i q lq ∙ ap (λ x. x ∷ drop (i + 1) qs) (sym iq))
      ∙ next_on (assumed_at s own (f a).0 (g q)) (λ x. match_formula tests (f a).1 x τ) (match_assumed tests s own (map f (drop (i + 1) as')) (map g (drop (i + 1) qs)))
