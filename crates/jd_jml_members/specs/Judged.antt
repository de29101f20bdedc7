-- What is known of JML that was judged.
use Rattle.std.specs.Prelude.{◌≡◌, ⊤, List, Result, Ok, Err}
use Rattle.jd_specifications.specs.declared.fault.SpecFault.{SpecFault}
use Rattle.jd_specifications.specs.Scopes.{SpecLocal}
use Rattle.jd_jml_members.specs.declared.stop.Stop.{Stop}
use Rattle.jd_jml_members.specs.declared.stop.Stop.TheVariants.{Refused, NoMemory}

-- the token that is refused, if memory did not run out
abbrev pub IsStop : {A : Type 0} → Result A SpecFault → Stop → Type 0
IsStop judged (Refused f) = judged ≡ Err f
IsStop judged NoMemory = ⊤

-- these are in scope behind it, or that token is refused
abbrev pub kept : {A : Type 0} → List SpecLocal → Result A SpecFault → Result (List SpecLocal) SpecFault
kept locals (Ok a) = Ok locals
kept locals (Err f) = Err f
