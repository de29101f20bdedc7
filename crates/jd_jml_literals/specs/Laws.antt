-- Files that are read have no literal of JML that 128 signed bits do not hold.
use Rattle.std.specs.List.{AllByRecursion as Every}
use Rattle.std.specs.Prelude.{List, ℕ}
use Rattle.jd_files.specs.Files.{AreTrees}
use Rattle.jd_jml_literals.specs.Fitting.{UnitFits}
use Rattle.jd_syntax.specs.JavaTrees.{JavaUnit}

abbrev pub LiteralsOfJmlFit : Type 0
LiteralsOfJmlFit = (files : List (List ℕ)) (units : List JavaUnit) → AreTrees files units → Every UnitFits units
