-- The type of an expression that is not refused (JLS 15).
use Rattle.std.specs.Prelude.{ℕ, List, Option, Some, None}
use Rattle.std.specs.Option.{unwrap_or}
use Rattle.jd_syntax.specs.JavaTrees.{JavaExpr, Integer, Boolean, Null, This, Name, Field, Parenthesized, Call, MethodCall, New, NewArray, Index, Prefix, Postfix, Cast, Infix, InstanceOf, Conditional, Assign}
use Rattle.jd_syntax.specs.declared.java.PrefixOperator.{PrefixOperator}
use Rattle.jd_syntax.specs.declared.java.PrefixOperator.TheVariants as prefixes
use Rattle.jd_bodies.specs.declared.place.Meaning.{Meaning}
use Rattle.jd_bodies.specs.declared.place.Meaning.TheVariants as meanings
use Rattle.jd_bodies.specs.declared.place.Place.{Place}
use Rattle.jd_bodies.specs.declared.value.Callee.{Callee}
use Rattle.jd_bodies.specs.declared.value.Callee.TheVariants as callees
use Rattle.jd_bodies.specs.declared.value.Variable.{Variable}
use Rattle.jd_bodies.specs.declared.value.Variable.TheVariants as variables
use Rattle.jd_bodies.specs.declared.value.ValueType.{ValueType}
use Rattle.jd_bodies.specs.declared.value.ValueType.TheVariants as types
use Rattle.jd_bodies.specs.Declarations.{Declarations, class_type, type_by}
use Rattle.jd_bodies.specs.Expressions.{callee_by, callee_on, whole_type, class_before}
use Rattle.jd_bodies.specs.Scopes.{Local, meaning}
use Rattle.jd_bodies.specs.Types.{joined}

abbrev pub named_type : Meaning → ValueType
named_type (meanings.Local t) = t
named_type (meanings.Field f t) = t
named_type (meanings.Constant n) = types.Int
named_type meanings.Nothing = types.Missing

-- a constant and a length are ints
abbrev pub variable_type : Option Variable → ValueType
variable_type None = types.Missing
variable_type (Some (variables.Field f t)) = t
variable_type (Some (variables.Constant n)) = types.Int

abbrev pub prefix_type : PrefixOperator → ValueType
prefix_type prefixes.Not = types.Boolean
prefix_type o = types.Int

module _ (d : Declarations) where
  abbrev pub member_type : List ℕ → ValueType → ValueType
  member_type x (types.Class c) = variable_type (d.variable c x)
  member_type x types.IntArray = types.Int
  member_type x t = types.Missing

  -- a call without result stands for no value
  abbrev pub callee_type : Callee → ValueType
  callee_type (callees.Routine m) = unwrap_or (d.signature m).result types.Missing
  callee_type c = types.Missing

  abbrev pub member_before : List ℕ → Option ℕ → ValueType → ValueType
  member_before x (Some c) t = variable_type (d.variable c x)
  member_before x None t = member_type x t

  abbrev pub call_before : List ℕ → Option ℕ → ValueType → ValueType
  call_before m (Some c) t = callee_type (callee_by (d.method c m))
  call_before m None t = callee_type (callee_on d m t)

module _ (d : Declarations) (place : Place) (locals : List Local) where
  abbrev pub static_type : JavaExpr → ValueType
  static_type (Integer at n) = types.Int
  static_type (Boolean at b) = types.Boolean
  static_type (Null at) = types.Null
  static_type (This at) = types.Class place.class
  static_type (Name at x) = named_type (meaning d place locals x)
  static_type (Field at e x) = member_before d x.name (class_before d place locals e) (static_type e)
  static_type (Parenthesized at e) = static_type e
  static_type (Call at m es) = callee_type d (callee_by (d.method place.class m))
  static_type (MethodCall at e m es) = call_before d m.name (class_before d place locals e) (static_type e)
  static_type (New at c es) = class_type (d.class_named c.name)
  static_type (NewArray at e) = types.IntArray
  static_type (Index at a i) = types.Int
  static_type (Prefix at o e) = prefix_type o
  static_type (Postfix at o e) = types.Int
  static_type (Cast at w e) = type_by d.class_named w.written
  static_type (Infix at o a b) = whole_type o
  static_type (InstanceOf at e w) = types.Boolean
  static_type (Conditional at c a b) = unwrap_or (joined d (static_type a) (static_type b)) types.Missing
  static_type (Assign at o e v) = static_type e
