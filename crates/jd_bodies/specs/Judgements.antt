-- What is said of a part of a body, or the token that is refused in it.
use Rattle.std.specs.Prelude.{ℕ, Bool, true, false, Result, Ok, Err}
use Rattle.jd_bodies.specs.declared.fault.Cause.{Cause}
use Rattle.jd_bodies.specs.declared.fault.Fault.{Fault}

-- Parts stand in the order in which they are written, and a whole is refused by itself only where no part is: so what comes first
-- here is the first refused token.
abbrev pub and_then : {A B : Type 0} → (A → Result B Fault) → Result A Fault → Result B Fault
and_then f (Ok a) = f a
and_then f (Err e) = Err e

abbrev pub refused : {A : Type 0} → ℕ → Cause → Result A Fault
refused at cause = Err (record { at = at; cause = cause })

-- that, where it is so; else the token is refused
abbrev pub only_if : {A : Type 0} → Bool → ℕ → Cause → A → Result A Fault
only_if true at cause a = Ok a
only_if false at cause a = refused at cause
