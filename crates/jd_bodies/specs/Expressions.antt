-- What expressions give, and which of them are refused (JLS 15).
use Rattle.std.specs.Prelude.{ℕ, Bool, true, false, not, List, [], ◌∷◌, Option, Some, None, Result, Ok, Err, nat_eq, is_some, ◌||◌, drop, codes}
use Rattle.std.specs.Str.{bytes_eq}
use Rattle.jd_syntax.specs.JavaTypes.{PlainIdentifier, PlainWritten}
use Rattle.jd_syntax.specs.JavaTrees.{JavaExpr, Integer, Boolean, Null, This, Name, Field, Parenthesized, Call, MethodCall, New, NewArray, Index, Prefix, Postfix, Cast, Infix, InstanceOf, Conditional, Assign, JavaExprs, NoExprs, ExprThen}
use Rattle.jd_syntax.specs.declared.java.InfixOperator.{InfixOperator}
use Rattle.jd_syntax.specs.declared.java.InfixOperator.TheVariants as operators
use Rattle.jd_syntax.specs.declared.java.PrefixOperator.{PrefixOperator}
use Rattle.jd_syntax.specs.declared.java.PrefixOperator.TheVariants as prefixes
use Rattle.jd_syntax.specs.declared.java.AssignmentOperator.{AssignmentOperator}
use Rattle.jd_syntax.specs.declared.java.AssignmentOperator.TheVariants as assignments
use Rattle.jd_bodies.specs.declared.fault.Fault.{Fault}
use Rattle.jd_bodies.specs.declared.fault.Cause.TheVariants.{UnknownName, UnknownClass, UnknownMethod, TypeMismatch, WrongArity, BadTarget}
use Rattle.jd_bodies.specs.declared.given.Given.{Given}
use Rattle.jd_bodies.specs.declared.given.Arguments.{Arguments}
use Rattle.jd_bodies.specs.declared.given.Arguments.TheVariants.{Fit, Mismatch, OtherCount}
use Rattle.jd_bodies.specs.declared.place.Meaning.{Meaning}
use Rattle.jd_bodies.specs.declared.place.Meaning.TheVariants as meanings
use Rattle.jd_bodies.specs.declared.place.Place.{Place}
use Rattle.jd_bodies.specs.declared.value.Callee.{Callee}
use Rattle.jd_bodies.specs.declared.value.Callee.TheVariants as callees
use Rattle.jd_bodies.specs.declared.value.Variable.{Variable}
use Rattle.jd_bodies.specs.declared.value.Variable.TheVariants as variables
use Rattle.jd_bodies.specs.declared.value.ValueType.{ValueType}
use Rattle.jd_bodies.specs.declared.value.ValueType.TheVariants as types
use Rattle.jd_bodies.specs.Declarations.{Declarations, type_by}
use Rattle.jd_bodies.specs.Judgements.{and_then, refused, only_if}
use Rattle.jd_bodies.specs.Scopes.{Local, meaning, class_meant}
use Rattle.jd_bodies.specs.Types.{fits, are_related, joined}

-- the offset of an expression's first token
abbrev pub at_of : JavaExpr → ℕ
at_of (Integer at n) = at
at_of (Boolean at b) = at
at_of (Null at) = at
at_of (This at) = at
at_of (Name at x) = at
at_of (Field at e x) = at
at_of (Parenthesized at e) = at
at_of (Call at m es) = at
at_of (MethodCall at e m es) = at
at_of (New at c es) = at
at_of (NewArray at e) = at
at_of (Index at a i) = at
at_of (Prefix at o e) = at
at_of (Postfix at o e) = at
at_of (Cast at t e) = at
at_of (Infix at o a b) = at
at_of (InstanceOf at e t) = at
at_of (Conditional at c a b) = at
at_of (Assign at o a b) = at

-- ---- what is given

-- a value of the type, which may be assigned as far as this tells
abbrev pub value_of : ValueType → Given
value_of t = record { value = Some t; fixed = None }

-- a value of the type that has this place for its name, and may not be assigned
abbrev pub fixed_value : ℕ → ValueType → Given
fixed_value at t = record { value = Some t; fixed = Some at }

abbrev pub gives : ValueType → Result Given Fault
gives t = Ok (value_of t)

-- what stands as a part has a value (JLS 15.1): of what is given at this place
abbrev pub type_at : ℕ → Option ValueType → Result ValueType Fault
type_at at None = refused at TypeMismatch
type_at at (Some t) = Ok t

abbrev pub value_at : ℕ → Given → Result ValueType Fault
value_at at g = type_at at g.value

abbrev pub valued : ℕ → Result Given Fault → Result ValueType Fault
valued at r = and_then (value_at at) r

-- in parentheses is what it was, if it is a value
abbrev pub inside : ℕ → Result Given Fault → Result Given Fault
inside at r = and_then (λ g. and_then (λ t. Ok g) (value_at at g)) r

-- what is assigned (JLS 15.26)
abbrev pub unless_fixed : Option ℕ → ValueType → Result ValueType Fault
unless_fixed None t = Ok t
unless_fixed (Some at) t = refused at BadTarget

abbrev pub target : ℕ → Result Given Fault → Result ValueType Fault
target at r = and_then (λ g. and_then (unless_fixed g.fixed) (value_at at g)) r

-- what needs `this` stands in no static method (JLS 8.4.3.2)
abbrev pub unless_static : Bool → ℕ → Given → Result Given Fault
unless_static static at g = only_if (not static) at BadTarget g

-- the types of the parts of an operator and of the whole (JLS 15.17 to 15.24); none where any two types that are related are compared
abbrev pub part_type : InfixOperator → Option ValueType
part_type operators.OrElse = Some types.Boolean
part_type operators.AndAlso = Some types.Boolean
part_type operators.Equal = None
part_type operators.NotEqual = None
part_type o = Some types.Int

abbrev pub whole_type : InfixOperator → ValueType
whole_type operators.Add = types.Int
whole_type operators.Subtract = types.Int
whole_type operators.Multiply = types.Int
whole_type operators.Divide = types.Int
whole_type operators.Remainder = types.Int
whole_type o = types.Boolean

-- the type of the operand of a sign
abbrev pub sign_type : PrefixOperator → ValueType
sign_type prefixes.Not = types.Boolean
sign_type o = types.Int

-- only an array is indexed, and `null` is none (JLS 15.10.3)
abbrev pub is_array : ValueType → Bool
is_array types.IntArray = true
is_array types.Missing = true
is_array t = false

abbrev pub indexed : ℕ → ValueType → Result ValueType Fault
indexed at t = only_if (is_array t) at TypeMismatch t

-- the name of a variable (JLS 6.5.6.1)
abbrev pub name_gives : Bool → ℕ → Meaning → Result Given Fault
name_gives static at (meanings.Local t) = gives t
name_gives static at (meanings.Field f t) = unless_static static at (value_of t)
name_gives static at (meanings.Constant n) = Ok (fixed_value at types.Int)
name_gives static at meanings.Nothing = refused at UnknownName

-- behind the name of a class only its constants have their names
abbrev pub constant_gives : ℕ → Option Variable → Result Given Fault
constant_gives at None = refused at UnknownName
constant_gives at (Some (variables.Field f t)) = refused at UnknownName
constant_gives at (Some (variables.Constant n)) = Ok (fixed_value at types.Int)

abbrev pub variable_gives : ℕ → Option Variable → Result Given Fault
variable_gives at None = refused at UnknownName
variable_gives at (Some (variables.Field f t)) = gives t
variable_gives at (Some (variables.Constant n)) = Ok (fixed_value at types.Int)

abbrev pub length_gives : ℕ → Bool → Result Given Fault
length_gives at true = Ok (fixed_value at types.Int)
length_gives at false = refused at UnknownName

-- what a call gives, at the place of the method's name, where its arguments fit so (JLS 15.12.2)
abbrev pub arguments_fit : ℕ → Given → Arguments → Result Given Fault
arguments_fit at g Fit = Ok g
arguments_fit at g (Mismatch place) = refused place TypeMismatch
arguments_fit at g OtherCount = refused at WrongArity

-- where they are as many, that is asked; the first that does not fit stands behind the name
abbrev pub fit_then : ℕ → Arguments → Result Given Fault → Result Given Fault
fit_then at Fit r = r
fit_then at (Mismatch place) r = and_then (λ g. refused place TypeMismatch) r
fit_then at OtherCount r = refused at WrongArity

abbrev pub result_given : Option ValueType → Given
result_given t = record { value = t; fixed = None }

-- in a static method only a static one is called by its name alone
abbrev pub only_if_static : Bool → ℕ → Bool → Option ValueType → Result Given Fault
only_if_static static at its result = only_if (not static || its) at BadTarget (result_given result)

-- behind the name of a class only a static one has its name
abbrev pub static_call_by : ℕ → Bool → Option ValueType → Arguments → Result Given Fault
static_call_by at its result arguments = and_then (λ g. arguments_fit at g arguments) (only_if its at UnknownMethod (result_given result))

abbrev pub callee_by : Option ℕ → Callee
callee_by None = callees.Nothing
callee_by (Some m) = callees.Routine m

abbrev pub no_more : List ValueType → Arguments
no_more [] = Fit
no_more (t ∷ ts) = OtherCount

-- the first argument, which fits or not, before the others
abbrev pub argument_then : Bool → ℕ → Arguments → Arguments
argument_then true at rest = rest
argument_then false at Fit = Mismatch at
argument_then false at (Mismatch place) = Mismatch at
argument_then false at OtherCount = OtherCount

-- what a constructor of an ancestor takes, where the class has none: nothing, or no arguments fit (JLS 8.8.9)
abbrev pub inherited_parameters : List ValueType → Option (List ValueType)
inherited_parameters [] = Some []
inherited_parameters (t ∷ ts) = None

abbrev pub parameters_by : Bool → List ValueType → Option (List ValueType)
parameters_by true ts = Some ts
parameters_by false ts = inherited_parameters ts

abbrev pub or_nothing : Option (List ValueType) → List ValueType
or_nothing None = []
or_nothing (Some ts) = ts

-- at the place of the class's name or of `super`
abbrev pub creation_fits : ℕ → Option (List ValueType) → Given → Arguments → Result Given Fault
creation_fits at None g arguments = refused at WrongArity
creation_fits at (Some ts) g arguments = arguments_fit at g arguments

module _ (d : Declarations) where
  -- ---- types that are written

  abbrev pub known : ℕ → ValueType → Result ValueType Fault
  known at types.Int = Ok types.Int
  known at types.Boolean = Ok types.Boolean
  known at types.Null = Ok types.Null
  known at types.IntArray = Ok types.IntArray
  known at (types.Class c) = Ok (types.Class c)
  known at types.Missing = refused at UnknownClass

  abbrev pub written_type : PlainWritten → Result ValueType Fault
  written_type t = known t.at (type_by d.class_named t.written)

  abbrev pub class_known : ℕ → Option ℕ → Result ℕ Fault
  class_known at None = refused at UnknownClass
  class_known at (Some c) = Ok c

  abbrev pub written_class : PlainIdentifier → Result ℕ Fault
  written_class x = class_known x.at (d.class_named x.name)

  -- ---- operators: what is given at their places

  -- a part of this type stands where one of that is wanted
  abbrev pub wanted : ValueType → ℕ → ValueType → Result ValueType Fault
  wanted want at have = only_if (fits d have want) at TypeMismatch want

  -- two parts of one type, and then the whole of another
  abbrev pub both_wanted : ValueType → ℕ → ValueType → ℕ → ValueType → ValueType → Result Given Fault
  both_wanted want at a place b whole = and_then (λ t. and_then (λ u. gives whole) (wanted want place b)) (wanted want at a)

  abbrev pub related : ℕ → ValueType → ValueType → ValueType → Result Given Fault
  related at a b whole = only_if (are_related d a b) at TypeMismatch (value_of whole)

  abbrev pub infix_by : Option ValueType → ValueType → ℕ → ℕ → ValueType → ℕ → ValueType → Result Given Fault
  infix_by (Some want) whole at first a second b = both_wanted want first a second b whole
  infix_by None whole at first a second b = related at a b whole

  abbrev pub infix_gives : ℕ → InfixOperator → ℕ → Result Given Fault → ℕ → Result Given Fault → Result Given Fault
  infix_gives at o first a second b = and_then (λ t. and_then (infix_by (part_type o) (whole_type o) at first t second) (valued second b)) (valued first a)

  -- a cast (JLS 15.16), and a test of the class (JLS 15.20.2)
  abbrev pub cast_gives : ℕ → Result ValueType Fault → ℕ → Result Given Fault → Result Given Fault
  cast_gives at want place e = and_then (λ t. and_then (λ u. related at u t t) (valued place e)) want

  abbrev pub instance_gives : ℕ → ℕ → Result Given Fault → Result ValueType Fault → Result Given Fault
  instance_gives at place e want = and_then (λ t. and_then (λ u. related at t u types.Boolean) want) (valued place e)

  -- `c ? a : b` (JLS 15.25)
  abbrev pub joined_gives : ℕ → Option ValueType → Result Given Fault
  joined_gives at None = refused at TypeMismatch
  joined_gives at (Some t) = gives t

  abbrev pub branches : ℕ → Result Given Fault → ℕ → Result Given Fault → Result (Option ValueType) Fault
  branches first a second b = and_then (λ t. and_then (λ u. Ok (joined d t u)) (valued second b)) (valued first a)

  abbrev pub conditional_gives : ℕ → ℕ → Result Given Fault → ℕ → Result Given Fault → ℕ → Result Given Fault → Result Given Fault
  conditional_gives at place c first a second b =
      and_then (λ t. and_then (λ w. and_then (λ u. joined_gives at w) (wanted types.Boolean place t)) (branches first a second b)) (valued place c)

  -- an element (JLS 15.10.3), and a new array (JLS 15.10.1)
  abbrev pub index_gives : ℕ → Result Given Fault → ℕ → Result Given Fault → Result Given Fault
  index_gives at a place i =
      and_then (λ t. and_then (λ u. and_then (λ v. and_then (λ w. gives types.Int) (wanted types.Int place u)) (indexed at t)) (valued place i)) (valued at a)

  abbrev pub array_gives : ℕ → Result Given Fault → Result Given Fault
  array_gives at e = and_then (λ t. and_then (λ u. gives types.IntArray) (wanted types.Int at t)) (valued at e)

  -- `=` takes what fits, the others two ints; what was assigned is given (JLS 15.26)
  abbrev pub assign_by : AssignmentOperator → ℕ → ValueType → ℕ → ValueType → Result Given Fault
  assign_by assignments.Set at t place v = and_then (λ u. gives t) (wanted t place v)
  assign_by o at t place v = both_wanted types.Int at t place v types.Int

  abbrev pub assign_gives : AssignmentOperator → ℕ → Result Given Fault → ℕ → Result Given Fault → Result Given Fault
  assign_gives o at e place v = and_then (λ t. and_then (assign_by o at t place) (valued place v)) (target at e)

  -- `++`, `--` (JLS 15.14.2, 15.15.1), and the signs (JLS 15.15.3, 15.15.4, 15.15.6)
  abbrev pub counted : ℕ → Result Given Fault → Result Given Fault
  counted at e = and_then (λ t. and_then (λ u. gives types.Int) (wanted types.Int at t)) (target at e)

  abbrev pub signed : ValueType → ℕ → Result Given Fault → Result Given Fault
  signed want at e = and_then (λ t. and_then (λ u. gives want) (wanted want at t)) (valued at e)

  abbrev pub prefix_gives : PrefixOperator → ℕ → Result Given Fault → Result Given Fault
  prefix_gives (prefixes.Count c) at e = counted at e
  prefix_gives o at e = signed (sign_type o) at e

  -- ---- members (JLS 15.11)

  -- of a value
  abbrev pub member_gives : PlainIdentifier → ValueType → Result Given Fault
  member_gives x (types.Class c) = variable_gives x.at (d.variable c x.name)
  member_gives x types.IntArray = length_gives x.at (bytes_eq x.name (codes "length"))
  member_gives x types.Missing = gives types.Missing
  member_gives x t = refused x.at UnknownName

  -- of the class that stands before the dot, or of a value
  abbrev pub field_gives : PlainIdentifier → Option ℕ → Result ValueType Fault → Result Given Fault
  field_gives x (Some c) e = constant_gives x.at (d.variable c x.name)
  field_gives x None e = and_then (member_gives x) e

  -- ---- calls (JLS 15.12, 15.9)

  abbrev pub callee_on : List ℕ → ValueType → Callee
  callee_on name (types.Class c) = callee_by (d.method c name)
  callee_on name types.Missing = callees.Anything
  callee_on name t = callees.Nothing

  -- what stands before the dot is a class, or a value
  abbrev pub callee_before : List ℕ → Option ℕ → Result ValueType Fault → Result Callee Fault
  callee_before name (Some c) e = Ok (callee_by (d.method c name))
  callee_before name None e = and_then (λ t. Ok (callee_on name t)) e

  abbrev pub parameters_of : Callee → List ValueType
  parameters_of (callees.Routine m) = (d.signature m).parameters
  parameters_of callees.Nothing = []
  parameters_of callees.Anything = []

  abbrev pub parameters_in : Result Callee Fault → List ValueType
  parameters_in (Ok c) = parameters_of c
  parameters_in (Err e) = []

  -- `m(..)`
  abbrev pub own_call : Bool → ℕ → Callee → Arguments → Result Given Fault
  own_call static at (callees.Routine m) arguments = fit_then at arguments (only_if_static static at (d.signature m).static (d.signature m).result)
  own_call static at callees.Nothing arguments = refused at UnknownMethod
  own_call static at callees.Anything arguments = refused at UnknownMethod

  -- `e.m(..)`
  abbrev pub call_by : Bool → ℕ → Callee → Arguments → Result Given Fault
  call_by true at (callees.Routine m) arguments = static_call_by at (d.signature m).static (d.signature m).result arguments
  call_by false at (callees.Routine m) arguments = arguments_fit at (result_given (d.signature m).result) arguments
  call_by of_class at callees.Nothing arguments = refused at UnknownMethod
  call_by of_class at callees.Anything arguments = gives types.Missing

  abbrev pub call_gives : Bool → ℕ → Result Callee Fault → Result Arguments Fault → Result Given Fault
  call_gives of_class at callee arguments = and_then (λ c. and_then (call_by of_class at c) arguments) callee

  -- what the constructor that runs for a class takes, where the class has it itself; none where no arguments fit
  abbrev pub constructor_by : ℕ → Option ℕ → Option (List ValueType)
  constructor_by c None = Some []
  constructor_by c (Some m) = parameters_by (nat_eq (d.signature m).class c) (d.signature m).parameters

  abbrev pub constructor_parameters : ℕ → Option (List ValueType)
  constructor_parameters c = constructor_by c (d.constructor c)

  abbrev pub creation_parameters : Result ℕ Fault → List ValueType
  creation_parameters (Ok c) = or_nothing (constructor_parameters c)
  creation_parameters (Err e) = []

  abbrev pub creation_gives : ℕ → Result ℕ Fault → Result Arguments Fault → Result Given Fault
  creation_gives at class arguments = and_then (λ c. and_then (creation_fits at (constructor_parameters c) (value_of (types.Class c))) arguments) class

  -- ---- arguments

  -- whether it fits the first of the parameters that are left; there is one too many where none is
  abbrev pub argument_by : List ValueType → ℕ → ValueType → Arguments → Arguments
  argument_by [] at have rest = OtherCount
  argument_by (want ∷ ts) at have rest = argument_then (fits d have want) at rest

  abbrev pub argument_gives : List ValueType → ℕ → Result ValueType Fault → Result Arguments Fault → Result Arguments Fault
  argument_gives ts at e rest = and_then (λ t. and_then (λ a. Ok (argument_by ts at t a)) rest) e

-- ---- expressions: in a class's body, where these locals are in scope

module _ (d : Declarations) (place : Place) (locals : List Local) where
  -- the class that stands before a dot
  abbrev pub class_before : JavaExpr → Option ℕ
  class_before (Name at c) = class_meant d place locals c
  class_before e = None

  abbrev mutual
    pub given : JavaExpr → Result Given Fault
    given (Integer at n) = gives types.Int
    given (Boolean at b) = gives types.Boolean
    given (Null at) = gives types.Null
    given (This at) = unless_static place.is_static at (fixed_value at (types.Class place.class))
    given (Name at x) = name_gives place.is_static at (meaning d place locals x)
    given (Field at e x) = field_gives d x (class_before e) (valued (at_of e) (given e))
    given (Parenthesized at e) = inside (at_of e) (given e)
    given (Call at m es) = and_then (own_call d place.is_static at (callee_by (d.method place.class m))) (arguments es (parameters_of d (callee_by (d.method place.class m))))
    given (MethodCall at e m es) =
        call_gives d (is_some (class_before e)) m.at (callee_before d m.name (class_before e) (valued (at_of e) (given e)))
        (arguments es (parameters_in d (callee_before d m.name (class_before e) (valued (at_of e) (given e)))))
    given (New at c es) = creation_gives d c.at (written_class d c) (arguments es (creation_parameters d (written_class d c)))
    given (NewArray at e) = array_gives d (at_of e) (given e)
    given (Index at a i) = index_gives d (at_of a) (given a) (at_of i) (given i)
    given (Prefix at o e) = prefix_gives d o (at_of e) (given e)
    given (Postfix at o e) = counted d (at_of e) (given e)
    given (Cast at w e) = cast_gives d at (written_type d w) (at_of e) (given e)
    given (Infix at o a b) = infix_gives d at o (at_of a) (given a) (at_of b) (given b)
    given (InstanceOf at e w) = instance_gives d at (at_of e) (given e) (written_type d w)
    given (Conditional at c a b) = conditional_gives d at (at_of c) (given c) (at_of a) (given a) (at_of b) (given b)
    given (Assign at o e v) = assign_gives d o (at_of e) (given e) (at_of v) (given v)

    -- how arguments fit parameters
    pub arguments : JavaExprs → List ValueType → Result Arguments Fault
    arguments NoExprs ts = Ok (no_more ts)
    arguments (ExprThen e es) ts = argument_gives d ts (at_of e) (valued (at_of e) (given e)) (arguments es (drop 1 ts))

  -- the value of an expression
  abbrev pub value : JavaExpr → Result ValueType Fault
  value e = valued (at_of e) (given e)
