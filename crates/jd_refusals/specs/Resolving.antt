-- What a program is resolved to, or why it is not.
use Rattle.std.specs.Prelude.{◌≡◌, ⊤, List, map, Option, Some, None}
use Rattle.jd_syntax.specs.JavaTrees.{JavaUnit}
use Rattle.jd_check.specs.Building as bodies
use Rattle.jd_check.specs.Building.{body_view}
use Rattle.jd_jmlcheck.specs.Specified.{specs_of}
use Rattle.jd_jmlcheck.specs.Views.{specs_view}
use Rattle.jd_refusals.specs.Refusals.{IsFirst, PlainRefused, refused_view}
use Rattle.jd_refusals.specs.declared.resolving.Resolved.{Resolved}
use Rattle.jd_refusals.specs.declared.resolving.ResolveRefusal.{ResolveRefusal}
use Rattle.jd_refusals.specs.declared.resolving.ResolveRefusal.TheVariants as refusals

-- these are the program's, and no token of it is refused
pub record AreResolved (units : List JavaUnit) (r : Resolved) : Type 0 where
  pub bodies_ : bodies.AreResolved units (map body_view r.bodies.bodies.items)
  pub specs_ : specs_view r.specs ≡ specs_of units
  pub none : IsFirst units None

-- the token that is told of; want of memory says nothing of the files
abbrev pub told : ResolveRefusal → Option PlainRefused
told (refusals.Refused r) = Some (refused_view r)
told refusals.NoMemory = None

abbrev pub IsTold : List JavaUnit → Option PlainRefused → Type 0
IsTold units None = ⊤
IsTold units (Some r) = IsFirst units (Some r)

abbrev pub IsRefused : List JavaUnit → ResolveRefusal → Type 0
IsRefused units e = IsTold units (told e)
