-- Fields and static methods by their words.
use Rattle.std.proofs.Common.{◌≡◌, ℕ, true, List, ap, ◌∙◌}
use Rattle.jd_syntax.specs.JavaTrees.{JavaUnit}
use Rattle.jd_syntax.specs.Names.{Name}
use Rattle.jd_jclasses.specs.Methods.{fields, routines}
use Rattle.jd_classes.specs.Tables.{AreTables}
use Rattle.jd_classes.specs.declared.classes.Classes.{Classes}
use Rattle.jd_tgrammar.specs.NameTables.{NameTable}
use Rattle.jd_tforms.specs.Naming.{field_of, is_field, is_static, number_where, static_of}
use Rattle.jd_tforms.specs.Shapes.{is_name}
use Rattle.jd_names.specs.Tables.{name_table, program_tables}
use Rattle.jd_names.specs.Words.{names_field, names_static}
use Rattle.jd_names.proofs.Letters.{where_name}
use Rattle.jd_names.proofs.Members.{fields_named, statics_named}
use Rattle.jd_tparse.specs.Programs.{tables_of}
use Rattle.jd_tparse.proofs.Opening.{tables_are}

module _ (c : Classes) (units : List JavaUnit) (tables : AreTables units c) (vs : List Name) (w : List ℕ) (is : is_name w ≡ true) where
  abbrev Names : NameTable
  Names = name_table (program_tables units) vs

  pub field_of_is : field_of (name_table (tables_of c) vs) w ≡ number_where (names_field units w) (fields units)
  field_of_is =
      ap (λ t. field_of (name_table t vs) w) (tables_are c units tables)
      ∙ where_name w (number_where (is_field Names w) Names.fields) is
      ∙ fields_named units vs w

  pub static_of_is : static_of (name_table (tables_of c) vs) w ≡ number_where (names_static units w) (routines units)
  static_of_is =
      ap (λ t. static_of (name_table t vs) w) (tables_are c units tables)
      ∙ where_name w (number_where (is_static Names w) Names.routines) is
      ∙ statics_named units vs w
