-- The fields of a class's objects, with their sorts.
use Rattle.std.specs.Prelude.{ℕ, List, flat_map, map, Option, Some, None}
use Rattle.std.specs.List.{slice_get}
use Rattle.jd_base.specs.declared.sort.Sort.{Sort}
use Rattle.jd_base.specs.declared.sort.Sort.TheVariants as sorts
use Rattle.jd_syntax.specs.JavaTrees.{JavaUnit}
use Rattle.jd_jinfos.specs.Infos.{PlainFieldInfo, field_infos}
use Rattle.jd_bodies.specs.Declarations.{Declarations, type_by}
use Rattle.jd_bodies.specs.Variables.{sort_of}
use Rattle.jd_programs.specs.Members.{own}

module _ (units : List JavaUnit) (d : Declarations) where
  abbrev pub sort_by : Option PlainFieldInfo → Sort
  sort_by None = sorts.Int
  sort_by (Some f) = sort_of (type_by d.class_named f.ty)

  -- the field of a number with its sort
  abbrev pub sorted : ℕ → ℕ × Sort
  sorted f = (f, sort_by (slice_get (field_infos units) f))

  -- what a class declares itself
  abbrev pub own_sorted : ℕ → List (ℕ × Sort)
  own_sorted c = map sorted (own units c).fields

  -- what these classes declare
  abbrev pub all_sorted : List ℕ → List (ℕ × Sort)
  all_sorted cs = flat_map own_sorted cs
