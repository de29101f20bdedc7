-- Words of variables that terms read as the variables too. Code has no other words than these, literals, `true`, `false` and `null`; terms
-- have the field `created` and constants besides, and read them first.
use Rattle.std.specs.Prelude.{List, None, [], codes, ◌∷◌, ◌≡◌, ◌≢◌}
use Rattle.jd_syntax.specs.Names.{Name}
use Rattle.jd_tforms.specs.Naming.{constant_of}

abbrev pub IsTermName : Name → Type 0
IsTermName x = (x.text ≢ codes "created") × (constant_of x.text ≡ None)

abbrev pub AreTermNames : List Name → Type 0
AreTermNames [] = Unit {0}
AreTermNames (x ∷ xs) = IsTermName x × AreTermNames xs
