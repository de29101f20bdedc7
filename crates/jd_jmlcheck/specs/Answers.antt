-- What a program's JML is answered with.
use Rattle.std.specs.Prelude.{◌≡◌, ⊤, ℕ, List, Option, Some, None, Result, Ok, Err}
use Rattle.jd_syntax.specs.JavaTrees.{JavaUnit}
use Rattle.jd_specifications.specs.declared.fault.SpecFault.{SpecFault}
use Rattle.jd_jml_refusals.specs.First.{IsFirst}
use Rattle.jd_jmlcheck.specs.Specified.{specs_of}
use Rattle.jd_jmlcheck.specs.Views.{refusal_view, specs_view}
use Rattle.jd_jmlcheck.specs.declared.made.Specs.{Specs}
use Rattle.jd_jmlcheck.specs.declared.refusal.SpecRefusal.{SpecRefusal}

-- this is the first refused token; want of memory says nothing of the files
abbrev pub IsRefused : List JavaUnit → Option (ℕ × SpecFault) → Type 0
IsRefused units None = ⊤
IsRefused units (Some fault) = IsFirst units (Some fault)

-- the specifications, where no token is refused; or the first one that is
abbrev pub IsAnswer : List JavaUnit → Result Specs SpecRefusal → Type 0
IsAnswer units (Ok s) = IsFirst units None × (specs_view s ≡ specs_of units)
IsAnswer units (Err r) = IsRefused units (refusal_view r)
