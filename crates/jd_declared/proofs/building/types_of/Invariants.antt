use Rattle.std.proofs.Common.{◌≡◌, ◌++◌, drop, map}
use Rattle.jd_syntax.specs.JavaTypes.{type_view}
use Rattle.jd_bodies.specs.Declarations.{type_by}
use Rattle.jd_declared.specs.Named.{value_at}
use Rattle.jd_declared.proofs.building.types_of.Given as goal

-- what is made, and what is left of it
abbrev pub invariant-loop-t : goal.invariant-loop-t
invariant-loop-t l = l.types.items ++ map (type_by (value_at l.numbers)) (map type_view (drop l.t-index l.written)) ≡ map (type_by (value_at l.numbers)) (map type_view l.written)
