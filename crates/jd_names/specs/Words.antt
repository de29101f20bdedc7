-- Which members of a program's classes a word names.
use Rattle.std.specs.Prelude.{ℕ, Bool, not, ◌&&◌, List, [], map, get_or}
use Rattle.std.specs.Str.{bytes_eq}
use Rattle.jd_syntax.specs.JavaTrees.{JavaUnit}
use Rattle.jd_jclasses.specs.Members.{Declared, is_constructor, is_static}
use Rattle.jd_jinfos.specs.Infos.{class_infos}
use Rattle.jd_tgrammar.specs.NameTables.{member_word}
use Rattle.jd_names.specs.Tables.{class_name}

abbrev pub class_called : List JavaUnit → ℕ → List ℕ
class_called units c = get_or (map class_name (class_infos units)) c []

abbrev pub names_field : List JavaUnit → List ℕ → Declared → Bool
names_field units w d = bytes_eq (member_word (class_called units d.class) d.name.name) w

abbrev pub names_static : List JavaUnit → List ℕ → Declared → Bool
names_static units w d = is_static d.kind && not (is_constructor d.kind) && bytes_eq (member_word (class_called units d.class) d.name.name) w

abbrev pub names_constructor : List JavaUnit → List ℕ → Declared → Bool
names_constructor units w d = is_constructor d.kind && bytes_eq (class_called units d.class) w
