use Rattle.std.proofs.Common.{◌≡◌, ◌++◌, map, drop}
use Rattle.jd_jheads.specs.Firsts.{HasNoSuper, NoneBelow}
use Rattle.jd_jheads.specs.Names.{names_with, parents_by, parents_of}
use Rattle.jd_jheads.specs.Placed.{placed_view}
use Rattle.jd_jheads.proofs.parents.add_parents.Given as goal

abbrev pub invariant-loop-placed : goal.invariant-loop-placed
invariant-loop-placed l =
    (l.parents.items ++ parents_by (names_with (map placed_view l.classes)) (map placed_view (drop l.placed-index l.classes)) ≡ l.fn.parents.items ++ parents_of (map placed_view l.classes))
    × NoneBelow (map placed_view l.classes) (HasNoSuper (map placed_view l.classes)) l.placed-index
