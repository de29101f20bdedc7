-- The first refused token of a program's bodies, or else of its JML.
use Rattle.std.specs.Prelude.{◌≡◌, ℕ, List, Option, Some, None, option_map}
use Rattle.jd_syntax.specs.JavaTrees.{JavaUnit}
use Rattle.jd_bodies.specs.declared.fault.Fault.{Fault}
use Rattle.jd_check.specs.First as bodies
use Rattle.jd_specifications.specs.declared.fault.SpecFault.{SpecFault}
use Rattle.jd_jml_refusals.specs.First as jml
use Rattle.jd_refusals.specs.declared.refused.Refusal.{Refusal}
use Rattle.jd_refusals.specs.declared.refused.Refusal.TheVariants.{Body, Jml}
use Rattle.jd_refusals.specs.declared.refused.Refused.{Refused}

-- the number of the file, the offset in it, and why
pub record PlainRefused : Type 0 where
  pub file : ℕ
  pub at : ℕ
  pub why : Refusal

abbrev pub refused_view : Refused → PlainRefused
refused_view r = record { file = r.file; at = r.at; why = r.why }

abbrev pub of_body : ℕ × Fault → PlainRefused
of_body p = record { file = p.0; at = p.1.at; why = Body p.1.cause }

abbrev pub of_jml : ℕ × SpecFault → PlainRefused
of_jml p = record { file = p.0; at = p.1.at; why = Jml p.1.cause }

-- of the bodies alone, and of the JML alone
pub record IsFirstOfBodies (units : List JavaUnit) (r : Option PlainRefused) : Type 0 where
  pub found : Option (ℕ × Fault)
  pub is : r ≡ option_map of_body found
  pub first : bodies.IsFirst units found

pub record IsFirstOfJml (units : List JavaUnit) (r : Option PlainRefused) : Type 0 where
  pub found : Option (ℕ × SpecFault)
  pub is : r ≡ option_map of_jml found
  pub first : jml.IsFirst units found

-- bodies come before JML, whatever their places
pub data IsFirst (units : List JavaUnit) : Option PlainRefused → Type 0 where
  in_body : (r : PlainRefused) → IsFirstOfBodies units (Some r) → IsFirst units (Some r)
  behind_bodies : (r : Option PlainRefused) → IsFirstOfBodies units None → IsFirstOfJml units r → IsFirst units r
