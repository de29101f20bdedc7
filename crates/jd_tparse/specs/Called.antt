-- Which fields and static methods of a program have a name of their own.
use Rattle.std.specs.Prelude.{ℕ, Bool, false, ◌&&◌, List, Option, Some, None}
use Rattle.std.specs.List.{slice_get}
use Rattle.std.specs.Str.{bytes_eq}
use Rattle.jd_syntax.specs.JavaTrees.{JavaUnit}
use Rattle.jd_jinfos.specs.Infos.{PlainFieldInfo, PlainMethodInfo, field_infos, method_infos}

abbrev pub has_name : List ℕ → Option PlainFieldInfo → Bool
has_name name None = false
has_name name (Some f) = bytes_eq f.name name

-- the field of this number
abbrev pub field_called : List JavaUnit → List ℕ → ℕ → Bool
field_called units name f = has_name name (slice_get (field_infos units) f)

abbrev pub is_static_of : List ℕ → Option PlainMethodInfo → Bool
is_static_of name None = false
is_static_of name (Some m) = m.static && bytes_eq m.name name

-- the method of this number
abbrev pub static_called : List JavaUnit → List ℕ → ℕ → Bool
static_called units name m = is_static_of name (slice_get (method_infos units) m)
