-- The method that each routine of a program overrides nearest (JLS 8.4.8.1).
use Rattle.std.specs.Prelude.{◌≡◌, ◌⊎◌, ℕ, List, length, Option, Some, MatchOption}
use Rattle.std.specs.List.{slice_get}
use Rattle.jd_syntax.specs.JavaTrees.{JavaUnit}
use Rattle.jd_jclasses.specs.Methods.{routines, Overrides}

-- m overrides n, and n overrides each other method that m overrides
pub record OverridesNearest (units : List JavaUnit) (m n : ℕ) : Type 0 where
  pub overrides : Overrides units m n
  pub nearest : (other : ℕ) → Overrides units m other → (other ≡ n) ⊎ Overrides units n other

abbrev pub OverridesNone : List JavaUnit → ℕ → Type 0
OverridesNone units m = (n : ℕ) → Overrides units m n → ⊥

-- of each routine the method that it overrides nearest, None where it overrides none
pub record AreOverridden (units : List JavaUnit) (overridden : List (Option ℕ)) : Type 0 where
  pub each : length overridden ≡ length (routines units)
  pub nearest : (m : ℕ) (o : Option ℕ) → slice_get overridden m ≡ Some o → MatchOption o (OverridesNone units m) (OverridesNearest units m)
