-- The tables of a program's classes as plain lists.
use Rattle.std.specs.Prelude.{List}
use Rattle.jd_syntax.specs.JavaTrees.{JavaUnit}
use Rattle.jd_classes.specs.Tables.{AreTables, listed_classes, listed_fields, listed_methods}
use Rattle.jd_classes.specs.declared.classes.Classes.{Classes}
use Rattle.jd_names.specs.Tables.{ClassTables}

-- they are the tables of some program
abbrev pub AreSomeTables : Classes → Type 0
AreSomeTables c = (units : List JavaUnit) × AreTables units c

-- what they list
abbrev pub tables_of : Classes → ClassTables
tables_of c = record { classes = listed_classes c; fields = listed_fields c; routines = listed_methods c }
