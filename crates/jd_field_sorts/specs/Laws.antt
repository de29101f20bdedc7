-- What holds of the fields of each program that files mean.
use Rattle.std.specs.Prelude.{List}
use Rattle.jd_syntax.specs.JavaTrees.{JavaUnit}
use Rattle.jd_jml_meaning.specs.JmlCases.{JmlProgram}
use Rattle.jd_jml_known.specs.Members.{FieldsHaveSorts}
use Rattle.jd_programs.specs.Programs.{IsProgram}

abbrev pub FieldsOfProgramsHaveSorts : Type 0
FieldsOfProgramsHaveSorts = (units : List JavaUnit) (j : JmlProgram) (is : IsProgram units j) → FieldsHaveSorts is.declarations j.program
