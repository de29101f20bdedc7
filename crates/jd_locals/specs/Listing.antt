-- A parameter or local in scope, as a plain record.
use Rattle.jd_bodies.specs.Scopes.{Local}
use Rattle.jd_locals.specs.declared.listed.LocalInScope.{LocalInScope}

abbrev pub local_view : LocalInScope → Local
local_view l = record { name = l.name.now; type = l.value }
