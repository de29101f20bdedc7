-- What is known of a part of a body that was judged.
use Rattle.std.specs.Prelude.{◌≡◌, ⊤, Result, Ok, Err}
use Rattle.jd_bodies.specs.declared.fault.Fault.{Fault}
use Rattle.jd_bodies.specs.Scopes.{Scope}
use Rattle.jd_statements.specs.declared.stop.Stop.{Stop}
use Rattle.jd_statements.specs.declared.stop.Stop.TheVariants.{Refused, NoMemory}

-- the token that is refused, if memory did not run out
abbrev pub IsStop : Result Scope Fault → Stop → Type 0
IsStop judged (Refused f) = judged ≡ Err f
IsStop judged NoMemory = ⊤

-- the same is in scope behind it, or that token is refused
abbrev pub keeping : {A : Type 0} → Scope → Result A Fault → Result Scope Fault
keeping s (Ok a) = Ok s
keeping s (Err f) = Err f
