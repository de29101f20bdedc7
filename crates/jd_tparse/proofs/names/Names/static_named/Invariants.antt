use Rattle.std.proofs.Common.{◌≡◌, ◌&&◌, nat_lt, List}
use Rattle.jd_syntax.specs.JavaTrees.{JavaUnit}
use Rattle.jd_jclasses.specs.Methods.{routines}
use Rattle.jd_classes.specs.Tables.{AreTables}
use Rattle.jd_tforms.specs.Naming.{number_where}
use Rattle.jd_names.specs.Words.{names_static}
use Rattle.jd_tparse.proofs.names.Names.static_named.Given as goal

-- the first of the classes so far
abbrev pub invariant-loop-class : goal.invariant-loop-class
invariant-loop-class l = (units : List JavaUnit) → AreTables units l.self.classes.now → l.found ≡ number_where (λ d. nat_lt d.class l.class && names_static units l.word d) (routines units)
