use Rattle.std.proofs.Common.{◌≡◌, map}
use Rattle.jd_jheads.specs.Firsts.{HasUsedName, NoneBelow}
use Rattle.jd_jheads.specs.Names.{name_list}
use Rattle.jd_jheads.specs.Placed.{placed_view}
use Rattle.jd_jheads.proofs.NewNames.{first_names}
use Rattle.jd_jheads.proofs.names.add_names.Given as goal

abbrev pub invariant-loop-placed : goal.invariant-loop-placed
invariant-loop-placed l = (name_list l.names ≡ first_names (map placed_view l.classes) l.placed-index) × NoneBelow (map placed_view l.classes) (HasUsedName (map placed_view l.classes)) l.placed-index
