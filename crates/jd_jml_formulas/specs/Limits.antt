-- Why no formula is made.
use Rattle.std.specs.Prelude.{ℕ, ◌<◌, ◌≤◌}
use Rattle.jd_jml_formulas.specs.declared.whole.Unmade.{Unmade}
use Rattle.jd_jml_formulas.specs.declared.whole.Unmade.TheVariants as causes

-- what the cause says of a formula of this size: it is above the limit, or it is within and memory ran out
abbrev pub Tells : ℕ → ℕ → Unmade → Type 0
Tells limit size causes.TooLarge = limit < size
Tells limit size causes.NoMemory = size ≤ limit
