-- The types of fields, and the classes that declare them, in the forms of the code.
use Rattle.std.specs.Prelude.{Option, option_map, ℕ}
use Rattle.std.specs.List.{slice_get}
use Rattle.jd_jinfos.specs.Infos.{PlainFieldInfo}
use Rattle.jd_model.specs.Programs.{BooleanType, IntType, ReferenceType, ValueType}
use Rattle.jd_sequent.specs.Obligations.{PlainTask}
use Rattle.jd_syntax.specs.CodeViews.{kind_view}
use Rattle.jd_syntax.specs.Codes.{OfClass, PlainKind}
use Rattle.jd_told_tables.specs.declared.types.FieldType.{FieldType}
use Rattle.jd_told_tables.specs.declared.types.FieldType.TheVariants as types

abbrev pub type_meant : FieldType → ValueType
type_meant types.Int = IntType
type_meant types.Boolean = BooleanType
type_meant (types.Reference k) = ReferenceType (kind_view k)

abbrev pub class_of_field : PlainFieldInfo → ℕ
class_of_field f = f.class

-- the class that declares the field of the number
abbrev pub kind_declaring : PlainTask → ℕ → Option PlainKind
kind_declaring t f = option_map (λ (d : PlainFieldInfo). OfClass d.class) (slice_get t.classes.tables.fields f)
