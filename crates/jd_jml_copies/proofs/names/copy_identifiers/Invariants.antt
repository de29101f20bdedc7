use Rattle.std.proofs.Common.{◌≡◌, map, take}
use Rattle.jd_syntax.specs.JavaTypes.{identifier_view}
use Rattle.jd_jml_copies.proofs.names.copy_identifiers.Given as goal

-- those so far are copied
abbrev pub invariant-loop-x : goal.invariant-loop-x
invariant-loop-x l = map identifier_view l.copies.items ≡ map identifier_view (take l.x-index l.xs)
