use Rattle.std.proofs.Common.{◌≡◌, take}
use Rattle.jd_proofs.specs.Given.{name_list, names_view}
use Rattle.jd_proofs.proofs.named.hashed.Given as goal

-- those of the names so far
abbrev pub invariant-loop-name : goal.invariant-loop-name
invariant-loop-name l = name_list l.places ≡ names_view (take l.name-index l.names)
