-- What JML's expressions and locations stand for, where none of their tokens is refused (JML Reference Manual, 12).
use Rattle.std.specs.Prelude.{ℕ, suc, Bool, true, false, List, [], ◌∷◌, if◌then◌else◌, Option, Some, None}
use Rattle.std.specs.Str.{bytes_eq}
use Rattle.jd_syntax.specs.JavaTypes.{PlainIdentifier}
use Rattle.jd_syntax.specs.Names.{Name as Variable}
use Rattle.jd_syntax.specs.Codes.{PlainKind, OfClass, IntArray}
use Rattle.jd_syntax.specs.SpecTrees as written
use Rattle.jd_syntax.specs.SpecTrees.{PlainSpec, PlainSpecType, BigInt, Java, PlainLocation}
use Rattle.jd_syntax.specs.declared.java.InfixOperator.{InfixOperator}
use Rattle.jd_syntax.specs.declared.java.InfixOperator.TheVariants as operators
use Rattle.jd_syntax.specs.declared.spec.SpecPrefix.{SpecPrefix}
use Rattle.jd_syntax.specs.declared.spec.SpecPrefix.TheVariants as prefixes
use Rattle.jd_syntax.specs.declared.spec.Quantifier.{Quantifier}
use Rattle.jd_syntax.specs.declared.spec.Quantifier.TheVariants as quantifiers
use Rattle.jd_term.specs.declared.term.ArithmeticOp.TheVariants as arithmetic
use Rattle.jd_bodies.specs.declared.value.ValueType.{ValueType}
use Rattle.jd_bodies.specs.declared.value.ValueType.TheVariants as types
use Rattle.jd_bodies.specs.declared.value.Variable.{Variable as Member}
use Rattle.jd_bodies.specs.declared.value.Variable.TheVariants as members
use Rattle.jd_bodies.specs.Declarations.{Declarations, type_by}
use Rattle.jd_bodies.specs.Variables.{sort_of}
use Rattle.jd_jml_meaning.specs.Resolved as jml
use Rattle.jd_jml_meaning.specs.Resolved.{JmlExpr, JmlLocation, QuantifiedType, OverInt, OverBigint, OverBoolean, OverReference}

-- ---- names: what a parameter, local, exception or bound variable stands for

-- a name in scope with what it stands for; bound variables are counted from the innermost
pub data Known : Type 0 where
  AnArgument : ℕ → Known
  AVariable : Variable → Known
  TheException : Known
  ABinder : Known

pub record Entry : Type 0 where
  pub name : List ℕ
  pub known : Known
  pub type : ValueType

-- the innermost of the name, with the number of binders inside of it
abbrev pub binders_then : Known → ℕ → ℕ
binders_then ABinder n = suc n
binders_then k n = n

abbrev pub found : ℕ → Entry → JmlExpr
found n e = elim e.known [
  | AnArgument k ↦ jml.Argument k
  | AVariable x ↦ jml.Local x
  | TheException ↦ jml.Thrown
  | ABinder ↦ jml.BoundVariable n (sort_of e.type)
]

abbrev pub looked_up : ℕ → List Entry → List ℕ → Option JmlExpr
looked_up n [] x = None
looked_up n (e ∷ es) x = if bytes_eq e.name x then Some (found n e) else looked_up (binders_then e.known n) es x

abbrev pub typed : List Entry → List ℕ → Option ValueType
typed [] x = None
typed (e ∷ es) x = if bytes_eq e.name x then Some e.type else typed es x

-- a field of `this`, or a constant; what is no name's is no clause's
abbrev pub own_member : JmlExpr → Option Member → JmlExpr
own_member of None = jml.NullLiteral
own_member of (Some (members.Field f t)) = jml.FieldAccess of f
own_member of (Some (members.Constant n)) = jml.IntegerLiteral n

abbrev pub named : Option JmlExpr → Option Member → JmlExpr
named (Some e) v = e
named None v = own_member jml.This v

-- ---- operators: `==` and `!=` of truth values are told from those of others

abbrev pub is_boolean : ValueType → Bool
is_boolean types.Boolean = true
is_boolean t = false

abbrev pub operation : InfixOperator → Bool → JmlExpr → JmlExpr → JmlExpr
operation operators.OrElse b x y = jml.Or x y
operation operators.AndAlso b x y = jml.And x y
operation operators.Equal true x y = jml.Equivalent x y
operation operators.Equal false x y = jml.Equal x y
operation operators.NotEqual true x y = jml.Inequivalent x y
operation operators.NotEqual false x y = jml.Unequal x y
operation operators.Less b x y = jml.Less x y
operation operators.LessOrEqual b x y = jml.LessOrEqual x y
operation operators.Greater b x y = jml.Greater x y
operation operators.GreaterOrEqual b x y = jml.GreaterOrEqual x y
operation operators.Add b x y = jml.Arithmetic arithmetic.Add x y
operation operators.Subtract b x y = jml.Arithmetic arithmetic.Subtract x y
operation operators.Multiply b x y = jml.Arithmetic arithmetic.Multiply x y
operation operators.Divide b x y = jml.Arithmetic arithmetic.Divide x y
operation operators.Remainder b x y = jml.Arithmetic arithmetic.Remainder x y

abbrev pub sign : SpecPrefix → JmlExpr → JmlExpr
sign prefixes.Plus x = jml.Plus x
sign prefixes.Minus x = jml.Minus x
sign prefixes.Not x = jml.Not x

abbrev pub quantified : Quantifier → QuantifiedType → JmlExpr → JmlExpr
quantified quantifiers.ForAll t e = jml.Forall t e
quantified quantifiers.Exists t e = jml.Exists t e

abbrev pub quantified_in : Quantifier → QuantifiedType → JmlExpr → JmlExpr → JmlExpr
quantified_in quantifiers.ForAll t r e = jml.ForallIn t r e
quantified_in quantifiers.Exists t r e = jml.ExistsIn t r e

abbrev pub kind_of : ValueType → PlainKind
kind_of (types.Class c) = OfClass c
kind_of t = IntArray

abbrev pub over : ValueType → QuantifiedType
over types.Int = OverInt
over types.Boolean = OverBoolean
over t = OverReference (kind_of t)

module _ (d : Declarations) where
  abbrev pub bound_value : PlainSpecType → ValueType
  bound_value BigInt = types.Int
  bound_value (Java w) = type_by d.class_named w.written

  abbrev pub over_type : PlainSpecType → QuantifiedType
  over_type BigInt = OverBigint
  over_type (Java w) = over (type_by d.class_named w.written)

  -- ---- types, as far as what is resolved hangs on them

  abbrev pub member_type : Option Member → ValueType
  member_type None = types.Missing
  member_type (Some (members.Field f t)) = t
  member_type (Some (members.Constant n)) = types.Int

  abbrev pub field_type : List ℕ → ValueType → ValueType
  field_type x (types.Class c) = member_type (d.variable c x)
  field_type x t = types.Int

  abbrev pub or_member : Option ValueType → Option Member → ValueType
  or_member (Some t) v = t
  or_member None v = member_type v

  -- the members of a value: a field, a constant, or the length of an array
  abbrev pub member : List ℕ → ValueType → JmlExpr → JmlExpr
  member x (types.Class c) e = own_member e (d.variable c x)
  member x t e = jml.LengthOf e

  -- the class before a dot, where what stands there is no variable
  abbrev pub class_unless : Option ValueType → Option Member → Option ℕ → Option ℕ
  class_unless None None c = c
  class_unless t v c = None

  module _ (class : ℕ) (result : ValueType) where
    abbrev pub class_before : List Entry → PlainSpec → Option ℕ
    class_before es (written.Name at c) = class_unless (typed es c) (d.variable class c) (d.class_named c)
    class_before es e = None

    abbrev pub field_before : List ℕ → Option ℕ → ValueType → ValueType
    field_before x (Some c) t = member_type (d.variable c x)
    field_before x None t = field_type x t

    -- the type of an expression of which no token is refused
    abbrev pub static_type : List Entry → PlainSpec → ValueType
    static_type es (written.Integer at n) = types.Int
    static_type es (written.Null at) = types.Null
    static_type es (written.This at) = types.Class class
    static_type es (written.Result at) = result
    static_type es (written.Name at x) = or_member (typed es x) (d.variable class x)
    static_type es (written.Field at e x) = field_before x.name (class_before es e) (static_type es e)
    static_type es (written.Parenthesized at e) = static_type es e
    static_type es (written.Index at a i) = types.Int
    static_type es (written.Prefix at prefixes.Plus e) = types.Int
    static_type es (written.Prefix at prefixes.Minus e) = types.Int
    static_type es (written.Cast at w e) = type_by d.class_named w.written
    static_type es (written.Infix at operators.Add a b) = types.Int
    static_type es (written.Infix at operators.Subtract a b) = types.Int
    static_type es (written.Infix at operators.Multiply a b) = types.Int
    static_type es (written.Infix at operators.Divide a b) = types.Int
    static_type es (written.Infix at operators.Remainder a b) = types.Int
    static_type es (written.Old at e) = static_type es e
    static_type es (written.Sum at x a b e) = types.Int
    static_type es e = types.Boolean

    abbrev pub bound : PlainIdentifier → ValueType → List Entry → List Entry
    bound x t es = record { name = x.name; known = ABinder; type = t } ∷ es

    abbrev pub field : List ℕ → Option ℕ → ValueType → JmlExpr → JmlExpr
    field x (Some c) t e = own_member e (d.variable c x)
    field x None t e = member x t e

    -- parentheses change nothing, but that a minus before them is not directly before a literal
    abbrev pub resolved : List Entry → PlainSpec → JmlExpr
    resolved es (written.Integer at n) = jml.IntegerLiteral n
    resolved es (written.Boolean at b) = jml.BooleanLiteral b
    resolved es (written.Null at) = jml.NullLiteral
    resolved es (written.This at) = jml.This
    resolved es (written.Result at) = jml.Result
    resolved es (written.Name at x) = named (looked_up 0 es x) (d.variable class x)
    resolved es (written.Field at e x) = field x.name (class_before es e) (static_type es e) (resolved es e)
    resolved es (written.Parenthesized at e) = jml.Cast (resolved es e)
    resolved es (written.Index at a i) = jml.ElementAccess (resolved es a) (resolved es i)
    resolved es (written.Prefix at o e) = sign o (resolved es e)
    resolved es (written.Cast at w e) = jml.Cast (resolved es e)
    resolved es (written.Infix at o a b) = operation o (is_boolean (static_type es a)) (resolved es a) (resolved es b)
    resolved es (written.InstanceOf at e w) = jml.InstanceOf (kind_of (type_by d.class_named w.written)) (resolved es e)
    resolved es (written.Conditional at c a b) = jml.Conditional (resolved es c) (resolved es a) (resolved es b)
    resolved es (written.Implies at a b) = jml.Implies (resolved es a) (resolved es b)
    resolved es (written.Equivalent at a b) = jml.Equivalent (resolved es a) (resolved es b)
    resolved es (written.Old at e) = jml.Old (resolved es e)
    resolved es (written.Fresh at e) = jml.Fresh (resolved es e)
    resolved es (written.InvariantFor at e) = jml.InvariantFor (resolved es e)
    resolved es (written.Quantified at q t x e) = quantified q (over_type t) (resolved (bound x (bound_value t) es) e)
    resolved es (written.QuantifiedIn at q t x r e) = quantified_in q (over_type t) (resolved (bound x (bound_value t) es) r) (resolved (bound x (bound_value t) es) e)
    resolved es (written.Sum at x a b e) = jml.Sum (resolved es a) (resolved es b) (resolved (bound x types.Int es) e)
    resolved es (written.Call at m xs) = jml.NullLiteral
    resolved es (written.MethodCall at e m xs) = jml.NullLiteral

    -- ---- locations

    abbrev pub field_number : Option Member → ℕ
    field_number None = 0
    field_number (Some (members.Field f t)) = f
    field_number (Some (members.Constant n)) = 0

    abbrev pub number_in : List ℕ → ValueType → ℕ
    number_in x (types.Class c) = field_number (d.variable c x)
    number_in x t = 0

    abbrev pub location : List Entry → PlainLocation → JmlLocation
    location es (written.Nothing at) = jml.Nothing
    location es (written.Everything at) = jml.Everything
    location es (written.OwnField at x) = jml.FieldLocation jml.This (field_number (d.variable class x))
    location es (written.FieldOf at e x) = jml.FieldLocation (resolved es e) (number_in x.name (static_type es e))
    location es (written.AllFields at e) = jml.AllFields (resolved es e)
    location es (written.Element at a i) = jml.Element (resolved es a) (resolved es i)
    location es (written.Range at a i j) = jml.Elements (resolved es a) (resolved es i) (resolved es j)
    location es (written.AllElements at a) = jml.AllElements (resolved es a)
