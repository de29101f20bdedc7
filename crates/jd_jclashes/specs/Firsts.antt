-- The first place at which something holds.
use Rattle.std.specs.Prelude.{ℕ, Option, Some, None, MatchOption, min}
use Rattle.jd_jclasses.specs.Refusals.{FirstAt, Nowhere}

-- this is the first place at which it holds, or it holds nowhere
abbrev pub IsFoundFirst : (ℕ → Type 0) → Option ℕ → Type 0
IsFoundFirst P found = MatchOption found (Nowhere P) (FirstAt P)

-- the earlier of two places, of which either may be missing
abbrev pub earlier_of : Option ℕ → Option ℕ → Option ℕ
earlier_of None other = other
earlier_of (Some i) None = Some i
earlier_of (Some i) (Some j) = Some (min i j)
