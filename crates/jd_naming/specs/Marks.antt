-- How much is in scope at a place.
use Rattle.std.specs.Prelude.{◌-◌, drop, length, take}
use Rattle.jd_bodies.specs.Scopes.{Scope}
use Rattle.jd_naming.specs.declared.scope.Mark.{Mark}

abbrev pub marked : Scope → Mark
marked s = record { locals = length s.locals; labels = length s.labels; in_loop = s.in_loop }

-- the oldest so many
abbrev pub left_at : Mark → Scope → Scope
left_at mark s = record { locals = drop (length s.locals - mark.locals) s.locals; labels = take mark.labels s.labels; in_loop = mark.in_loop }
