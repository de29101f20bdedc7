-- Members and literals.
use Rattle.std.specs.Prelude.{◌≡◌, ℕ, ℤ, List, Option, Some, None}
use Rattle.jd_syntax.specs.CodeViews.{kind_view}
use Rattle.jd_bodies.specs.Declarations.{Declarations}
use Rattle.jd_bodies.specs.Variables.{sort_of}
use Rattle.jd_bodies.specs.declared.value.ValueType.{ValueType}
use Rattle.jd_bodies.specs.declared.value.Variable.{Variable}
use Rattle.jd_bodies.specs.declared.value.Variable.TheVariants as variables
use Rattle.jd_model.specs.Programs.{Program, field_sort}
use Rattle.jd_jml_meaning.specs.Resolved as jml
use Rattle.jd_jml_meaning.specs.Resolved.{JmlExpr, QuantifiedType, OverInt, OverBigint, OverBoolean, OverReference}
use Rattle.jd_jml_known.specs.declared.members.Member.{Member}
use Rattle.jd_jml_known.specs.declared.members.Member.TheVariants as members
use Rattle.jd_jml_known.specs.declared.types.Over.{Over}
use Rattle.jd_jml_known.specs.declared.types.Over.TheVariants as ranges

-- what is read of a value by a name behind it
abbrev pub read_of : Member → JmlExpr → JmlExpr
read_of (members.Constant n) o = jml.IntegerLiteral n
read_of (members.Field f t) o = jml.FieldAccess o f
read_of members.Length o = jml.LengthOf o
read_of members.Nothing o = jml.NullLiteral

-- what is read of an object of a class by a name that is this variable's
abbrev pub own_of : Option Variable → Member
own_of None = members.Nothing
own_of (Some (variables.Field f t)) = members.Field f t
own_of (Some (variables.Constant n)) = members.Constant n

-- a program's fields have the sorts of the types that their names have
abbrev pub FieldsHaveSorts : Declarations → Program → Type 0
FieldsHaveSorts d p = (c : ℕ) (x : List ℕ) (f : ℕ) (t : ValueType) → d.variable c x ≡ Some (variables.Field f t) → field_sort p f ≡ sort_of t

abbrev pub HasItsSort : Program → Member → Type 0
HasItsSort p (members.Field f t) = field_sort p f ≡ sort_of t
HasItsSort p m = Unit {0}

abbrev pub literal_of : JmlExpr → Option ℤ
literal_of (jml.IntegerLiteral z) = Some z
literal_of e = None

abbrev pub over_view : Over → QuantifiedType
over_view ranges.Int = OverInt
over_view ranges.Bigint = OverBigint
over_view ranges.Boolean = OverBoolean
over_view (ranges.Reference k) = OverReference (kind_view k)
