-- The names that are known where code has these variables.
use Rattle.std.specs.Prelude.{List, map}
use Rattle.jd_syntax.specs.Names.{Name, decl_view}
use Rattle.jd_syntax.specs.declared.variable.VarDecl.{VarDecl}
use Rattle.jd_tgrammar.specs.NameTables.{NameTable}
use Rattle.jd_tparse.specs.declared.names.Names.{Names}
use Rattle.jd_tparse.specs.Programs.{tables_of}
use Rattle.jd_names.specs.Tables.{name_table}

abbrev pub variable : VarDecl → Name
variable d = (decl_view d).name

abbrev pub variables : List VarDecl → List Name
variables ds = map variable ds

abbrev pub table_of : Names → NameTable
table_of n = name_table (tables_of n.classes.now) (variables n.vars.now)
