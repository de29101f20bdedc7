-- What is in scope, as plain lists.
use Rattle.std.specs.Prelude.{ℕ, Bool, List, map, reverse}
use Rattle.std.specs.Global.{Vec}
use Rattle.jd_bodies.specs.declared.value.ValueType.{ValueType}
use Rattle.jd_bodies.specs.Scopes.{Local, Scope}
use Rattle.jd_locals.specs.declared.in_body.InBody.{InBody}
use Rattle.jd_locals.specs.declared.in_body.Label.{Label}

abbrev pub local_of : Vec ℕ × ValueType → Local
local_of e = record { name = e.0.items; type = e.1 }

abbrev pub label_of : Label → List ℕ × Bool
label_of l = (l.name.items, l.is_loop)

-- the newest first
abbrev pub newest_first : List (Vec ℕ × ValueType) → List Local
newest_first es = reverse (map local_of es)

abbrev pub scope_of : InBody → Scope
scope_of s = record { locals = newest_first s.locals.entries; labels = map label_of s.labels.items; in_loop = s.in_loop }
