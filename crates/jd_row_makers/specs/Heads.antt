-- What a declaration says of a case, as plain values.
use Rattle.std.specs.Prelude.{◌≡◌, ℕ, [], ◌∷◌}
use Rattle.jd_base.specs.declared.ids.ClassId.{ClassId}
use Rattle.jd_base.specs.declared.sort.Sort.{Sort}
use Rattle.jd_syntax.specs.CodeViews.{kind_view}
use Rattle.jd_term.specs.TermViews.{const_view}
use Rattle.jd_model.specs.Tables.{sort_letter}
use Rattle.jd_model.specs.Cases as plain
use Rattle.jd_model.specs.Programs as model
use Rattle.jd_row_makers.specs.declared.heads.Behaviour.{Behaviour}
use Rattle.jd_row_makers.specs.declared.heads.Behaviour.TheVariants as behaviours
use Rattle.jd_row_makers.specs.declared.heads.ContractType.{ContractType}
use Rattle.jd_row_makers.specs.declared.heads.ContractType.TheVariants as types
use Rattle.jd_row_makers.specs.declared.heads.DeclaredType.{DeclaredType}
use Rattle.jd_row_makers.specs.declared.heads.FieldSort.{FieldSort}
use Rattle.jd_row_makers.specs.declared.heads.Parameter.{Parameter}
use Rattle.jd_row_makers.specs.declared.heads.Role.{Role}
use Rattle.jd_row_makers.specs.declared.heads.Role.TheVariants as roles

abbrev pub class_number : ClassId → ℕ
class_number c = c.0

abbrev pub type_view : ContractType → model.ValueType
type_view types.Int = model.IntType
type_view types.Boolean = model.BooleanType
type_view (types.Reference k) = model.ReferenceType (kind_view k)

abbrev pub declared_view : DeclaredType → plain.DeclaredType
declared_view t = record { type = type_view t.form; nullable = t.nullable }

abbrev pub parameter_view : Parameter → plain.Parameter
parameter_view p = record { constant = const_view p.constant; declared = declared_view p.declared }

abbrev pub role_view : Role → plain.Role
role_view roles.Static = plain.Static
role_view roles.Ordinary = plain.Ordinary
role_view roles.Helper = plain.Helper
role_view (roles.Constructor c) = plain.ConstructorOf c.0

abbrev pub behaviour_view : Behaviour → plain.Behaviour
behaviour_view behaviours.AnyEnd = plain.AnyEnd
behaviour_view behaviours.NormalOnly = plain.NormalOnly
behaviour_view behaviours.ExceptionalOnly = plain.ExceptionalOnly

-- a field's number and the sort of what it holds
abbrev pub field_view : FieldSort → ℕ × Sort
field_view f = (f.field.0, f.sort)

-- the byte is the letter of constants of the sort
abbrev pub is_letter : Sort → ℕ → Type 0
is_letter s b = sort_letter s ≡ b ∷ []
