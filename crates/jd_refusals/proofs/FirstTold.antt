-- The first refused token of a program by what is told of its bodies and of its JML.
use Rattle.std.proofs.Common.{◌≡◌, ℕ, List, Option, Some, None, option_map, refl, ap}
use Rattle.jd_syntax.specs.JavaTrees.{JavaUnit}
use Rattle.jd_bodies.specs.Bodies.{PlainBody}
use Rattle.jd_bodies.specs.declared.fault.Fault.{Fault}
use Rattle.jd_check.specs.Building.{AreResolved}
use Rattle.jd_check.specs.First as bodies
use Rattle.jd_jml_refusals.specs.First as jml
use Rattle.jd_jmlcheck.specs.Answers.{IsRefused}
use Rattle.jd_specifications.specs.declared.fault.SpecFault.{SpecFault}
use Rattle.jd_refusals.specs.Refusals.{IsFirst, in_body, behind_bodies, IsFirstOfBodies, PlainRefused, of_body, of_jml}
use Rattle.jd_refusals.specs.Resolving.{IsTold}

pub body_first : (units : List JavaUnit) (found : ℕ × Fault) (r : PlainRefused) → r ≡ of_body found → bodies.IsFirst units (Some found) → IsFirst units (Some r)
body_first units found r is first = in_body r (record { found = Some found; is = ap Some is; first = first })

pub no_body : (units : List JavaUnit) (bs : List PlainBody) → AreResolved units bs → IsFirstOfBodies units None
no_body units bs are = record { found = None; is = refl; first = (are.0, are.1, are.2.none_refused) }

pub none_first : (units : List JavaUnit) → IsFirstOfBodies units None → jml.IsFirst units None → IsFirst units None
none_first units none first = behind_bodies None none (record { found = None; is = refl; first = first })

pub jml_first : (units : List JavaUnit) → IsFirstOfBodies units None → (o : Option (ℕ × SpecFault)) → IsRefused units o → IsTold units (option_map of_jml o)
jml_first units none None refused = tt
jml_first units none (Some fault) refused = behind_bodies (Some (of_jml fault)) none (record { found = Some fault; is = refl; first = refused })
