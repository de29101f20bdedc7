-- Numbers and integers within a limit.
use Rattle.std.specs.Prelude.{ℕ, ◌+◌, ℤ, List, nat_lt, cond, Option, Some, None}
use Rattle.std.specs.Option.{option_and_then}
use Rattle.jd_tforms.specs.Shapes.{natural_of, minus}

abbrev pub natural_below : ℕ → List ℕ → Option ℕ
natural_below limit w = option_and_then (λ n. cond (nat_lt n limit) (Some n) None) (natural_of w)

-- the integer behind a minus
abbrev pub negative_below : ℕ → List ℕ → Option ℤ
negative_below limit w = option_and_then minus (natural_below (limit + 1) w)
