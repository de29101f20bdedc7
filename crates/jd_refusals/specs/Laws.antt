-- That there is one first refused token, and in which file it is.
use Rattle.std.specs.Prelude.{◌≡◌, ◌<◌, List, length, Option, Some}
use Rattle.jd_syntax.specs.JavaTrees.{JavaUnit}
use Rattle.jd_jclasses.specs.Refusals.{AreClasses}
use Rattle.jd_refusals.specs.Refusals.{IsFirst, PlainRefused}

pub record OneTokenRefusal : Type 0 where
  pub one : (units : List JavaUnit) (r s : Option PlainRefused) → AreClasses units → IsFirst units r → IsFirst units s → r ≡ s
  pub in_files : (units : List JavaUnit) (r : PlainRefused) → IsFirst units (Some r) → r.file < length units
