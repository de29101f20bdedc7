-- Plain names, types and operators' places of the trees of Java and JML, with their offsets, and their views.
use Rattle.std.specs.Prelude.{ℕ, List}
use Rattle.jd_syntax.specs.declared.java.Identifier.{Identifier}
use Rattle.jd_syntax.specs.declared.java.JavaType.{JavaType}
use Rattle.jd_syntax.specs.declared.java.JavaType.TheVariants as types
use Rattle.jd_syntax.specs.declared.java.WrittenType.{WrittenType}

-- a name and where it stands
pub record PlainIdentifier : Type 0 where
  pub at : ℕ
  pub name : List ℕ

abbrev pub identifier_view : Identifier → PlainIdentifier
identifier_view x = record { at = x.at; name = x.name.items }

pub data PlainType : Type 0 where
  IntType : PlainType
  BooleanType : PlainType
  IntArrayType : PlainType
  NamedType : List ℕ → PlainType

abbrev pub type_view : JavaType → PlainType
type_view types.Int = IntType
type_view types.Boolean = BooleanType
type_view types.IntArray = IntArrayType
type_view (types.Named name) = NamedType name.items

-- a type and where it stands
pub record PlainWritten : Type 0 where
  pub at : ℕ
  pub written : PlainType

abbrev pub written_view : WrittenType → PlainWritten
written_view t = record { at = t.at; written = type_view t.written }
