-- Bindings that are told are bound: exactly, once, and so that all their variables are.
use Rattle.std.proofs.Common.{List, None, Option, Some, [], subst, ◌≡◌, ◌∷◌}
use Rattle.std.specs.Option.{IfSome, option_and_then}
use Rattle.jd_pattern_laws.proofs.Binding.{bind_binds, then_binds}
use Rattle.jd_pattern_laws.proofs.Chosen.{bind_once}
use Rattle.jd_pattern_laws.proofs.Exact.{bind_law, seq, stay}
use Rattle.jd_pattern_laws.proofs.Keeping.{keep_next}
use Rattle.jd_pattern_laws.specs.Laws.{Binds}
use Rattle.jd_patterns.specs.Bindings.{Agrees, Bindings, Exactly, Says, Tests, Within, bind}
use Rattle.jd_patterns.specs.Chosen.{BoundOnce, kind_of}
use Rattle.jd_patterns.specs.Instances.{Instance}
use Rattle.jd_patterns.specs.Variables.{Variable}
use Rattle.jd_taclet_stages.specs.Stages.{bind_all}

-- the variables of bindings
abbrev pub variables_in : Bindings → List Variable
variables_in [] = []
variables_in (e ∷ l) = (kind_of e.1, e.0) ∷ variables_in l

module _ (w : Tests) where
  all_law : (σ : Instance) (l τ : Bindings) → Exactly σ τ (Agrees σ l) (bind_all w l τ)
  all_law σ [] τ = stay σ τ
  all_law σ (e ∷ l) τ = seq σ τ (Says σ e.0 e.1) (Agrees σ l) (bind w e.0 e.1 τ) (bind_all w l) (bind_law w σ e.0 e.1 τ) (λ υ. all_law σ l υ)

  all_once : (l τ : Bindings) → BoundOnce w τ → IfSome (bind_all w l τ) (BoundOnce w)
  all_once [] τ once = once
  all_once (e ∷ l) τ once = keep_next (BoundOnce w) (bind w e.0 e.1 τ) (bind_all w l) (bind_once w e.0 e.1 τ once) (λ υ more. all_once l υ more)

  all_binds : (l τ : Bindings) → IfSome (bind_all w l τ) (Binds (variables_in l) τ)
  all_binds [] τ = (tt, λ v o. o)
  all_binds (e ∷ l) τ = then_binds τ ((kind_of e.1, e.0) ∷ []) (variables_in l) (bind w e.0 e.1 τ) (bind_all w l) (bind_binds w e.0 e.1 τ) (λ υ. all_binds l υ)

  -- ---- where there are some

  -- told is just what the instantiations of a property agree with
  pub told_law : (σ : Instance) (τ : Bindings) (P : Type 0) (o : Option Bindings) → (Agrees σ τ → P → Within σ o) → (Agrees σ τ → Within σ o → P) → Exactly σ τ P (option_and_then (λ l. bind_all w l τ) o)
  told_law σ τ P None f g = (λ h. f h.0 h.1, λ h. absurd h)
  told_law σ τ P (Some l) f g = (
    λ h. (all_law σ l τ).0 (h.0, f h.0 h.1),
    λ h. let y : Agrees σ τ × Agrees σ l = (all_law σ l τ).1 h in (y.0, g y.0 y.1),
  )

  pub told_once : (τ : Bindings) (o : Option Bindings) → BoundOnce w τ → IfSome (option_and_then (λ l. bind_all w l τ) o) (BoundOnce w)
  told_once τ None once = tt
  told_once τ (Some l) once = all_once l τ once

  pub told_binds : (τ : Bindings) (vs : List Variable) (o : Option Bindings) → IfSome o (λ l. variables_in l ≡ vs) → IfSome (option_and_then (λ l. bind_all w l τ) o) (Binds vs τ)
  told_binds τ vs None h = tt
  told_binds τ vs (Some l) h = subst (λ z. IfSome (bind_all w l τ) (Binds z τ)) h (all_binds l τ)
