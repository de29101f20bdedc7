-- The lesser of two numbers that may be there.
use Rattle.std.specs.Prelude.{ℕ, nat_lt, cond, Option, Some, None}

abbrev pub least : Option ℕ → Option ℕ → Option ℕ
least None b = b
least (Some a) None = Some a
least (Some a) (Some b) = cond (nat_lt b a) (Some b) (Some a)
