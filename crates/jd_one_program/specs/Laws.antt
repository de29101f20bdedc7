-- That what files mean is one.
use Rattle.std.specs.Prelude.{◌≡◌, List}
use Rattle.jd_syntax.specs.JavaTrees.{JavaUnit}
use Rattle.jd_jclasses.specs.Refusals.{AreClasses}
use Rattle.jd_jml_meaning.specs.JmlCases.{JmlProgram}
use Rattle.jd_programs.specs.Programs.{IsProgram}

abbrev pub ProgramsAreOne : Type 0
ProgramsAreOne = (units : List JavaUnit) → AreClasses units → (j k : JmlProgram) → IsProgram units j → IsProgram units k → (j.program ≡ k.program) × (j.own ≡ k.own)
