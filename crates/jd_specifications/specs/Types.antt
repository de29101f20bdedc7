-- The types of JML's expressions, and which of them are refused (JML Reference Manual, 12; JLS 15). `\bigint` is as `int`.
use Rattle.std.specs.Prelude.{ℕ, Bool, true, false, not, ◌&&◌, List, ◌∷◌, Option, Some, None, Result, Ok, codes}
use Rattle.std.specs.Str.{bytes_eq}
use Rattle.jd_syntax.specs.JavaTypes.{PlainIdentifier, PlainWritten}
use Rattle.jd_syntax.specs.SpecTrees.{PlainSpecType, BigInt, Java, PlainSpec, Integer, Boolean, Null, This, Result as ResultWord, Name, Field, Parenthesized, Call, MethodCall, Index, Prefix, Cast, Infix, InstanceOf, Conditional, Implies, Equivalent, Old, Fresh, InvariantFor, Quantified, QuantifiedIn, Sum, PlainSpecs, NoSpecs, SpecThen}
use Rattle.jd_syntax.specs.declared.spec.SpecPrefix.{SpecPrefix}
use Rattle.jd_syntax.specs.declared.spec.SpecPrefix.TheVariants as prefixes
use Rattle.jd_bodies.specs.declared.value.ValueType.{ValueType}
use Rattle.jd_bodies.specs.declared.value.ValueType.TheVariants as types
use Rattle.jd_bodies.specs.declared.value.Variable.{Variable}
use Rattle.jd_bodies.specs.declared.value.Variable.TheVariants as variables
use Rattle.jd_bodies.specs.Declarations.{Declarations, type_by}
use Rattle.jd_bodies.specs.Types.{is_reference, fits, are_related, joined}
use Rattle.jd_bodies.specs.Expressions.{part_type, whole_type, is_array}
use Rattle.jd_specifications.specs.declared.fault.SpecCause.{SpecCause}
use Rattle.jd_specifications.specs.declared.fault.SpecFault.{SpecFault}
use Rattle.jd_specifications.specs.declared.fault.SpecCause.TheVariants.{UnknownName, TypeMismatch, ResultHere, OldHere, InvariantRecursion, CallInSpec, BadClause}
use Rattle.jd_specifications.specs.Scopes.{ABound, is_local, SpecLocal, local_named, SpecPlace, and_then, refused, only_if, class_meant}

-- the offset of an expression's first token
abbrev pub at_of : PlainSpec → ℕ
at_of (Integer at n) = at
at_of (Boolean at b) = at
at_of (Null at) = at
at_of (This at) = at
at_of (ResultWord at) = at
at_of (Name at x) = at
at_of (Field at e x) = at
at_of (Parenthesized at e) = at
at_of (Call at m es) = at
at_of (MethodCall at e m es) = at
at_of (Index at a i) = at
at_of (Prefix at o e) = at
at_of (Cast at t e) = at
at_of (Infix at o a b) = at
at_of (InstanceOf at e t) = at
at_of (Conditional at c a b) = at
at_of (Implies at a b) = at
at_of (Equivalent at a b) = at
at_of (Old at e) = at
at_of (Fresh at e) = at
at_of (InvariantFor at e) = at
at_of (Quantified at q t x e) = at
at_of (QuantifiedIn at q t x r e) = at
at_of (Sum at x a b e) = at

abbrev pub sign_type : SpecPrefix → ValueType
sign_type prefixes.Not = types.Boolean
sign_type o = types.Int

-- ---- names

-- a field of `this` in a static method has no `this` (JLS 8.4.3.2)
abbrev pub own_variable : Bool → ℕ → Option Variable → Result ValueType SpecFault
own_variable static at None = refused at UnknownName
own_variable static at (Some (variables.Field f t)) = only_if (not static) at UnknownName t
own_variable static at (Some (variables.Constant n)) = Ok types.Int

-- a parameter, local or bound variable, but no local inside `\old`; else what the class has by the name
abbrev pub name_type : Bool → Bool → ℕ → Option SpecLocal → Option Variable → Result ValueType SpecFault
name_type inside static at None v = own_variable static at v
name_type inside static at (Some l) v = only_if (not (inside && is_local l.named)) at OldHere l.type

-- behind the name of a class only its constants have their names
abbrev pub constant_type : ℕ → Option Variable → Result ValueType SpecFault
constant_type at None = refused at UnknownName
constant_type at (Some (variables.Field f t)) = refused at UnknownName
constant_type at (Some (variables.Constant n)) = Ok types.Int

abbrev pub variable_type : ℕ → Option Variable → Result ValueType SpecFault
variable_type at None = refused at UnknownName
variable_type at (Some (variables.Field f t)) = Ok t
variable_type at (Some (variables.Constant n)) = Ok types.Int

abbrev pub result_type : ℕ → Option ValueType → Result ValueType SpecFault
result_type at None = refused at ResultHere
result_type at (Some t) = Ok t

module _ (d : Declarations) where
  -- ---- types that are written

  abbrev pub known : ℕ → ValueType → Result ValueType SpecFault
  known at types.Missing = refused at UnknownName
  known at t = Ok t

  abbrev pub written_type : PlainWritten → Result ValueType SpecFault
  written_type w = known w.at (type_by d.class_named w.written)

  abbrev pub bound_type : PlainSpecType → Result ValueType SpecFault
  bound_type BigInt = Ok types.Int
  bound_type (Java w) = written_type w

  abbrev pub class_known : ℕ → Option ℕ → Result ℕ SpecFault
  class_known at None = refused at UnknownName
  class_known at (Some c) = Ok c

  abbrev pub written_class : PlainIdentifier → Result ℕ SpecFault
  written_class x = class_known x.at (d.class_named x.name)

  -- ---- parts, of the types at their places

  abbrev pub wanted : ValueType → ℕ → ValueType → Result ValueType SpecFault
  wanted want at have = only_if (fits d have want) at TypeMismatch want

  abbrev pub reference : ℕ → ValueType → Result ValueType SpecFault
  reference at have = only_if (is_reference have) at TypeMismatch have

  abbrev pub array : ℕ → ValueType → Result ValueType SpecFault
  array at have = only_if (is_array have) at TypeMismatch have

  abbrev pub one : ValueType → ℕ → Result ValueType SpecFault → Result ValueType SpecFault
  one want at r = and_then (wanted want at) r

  -- two parts of one type, and the whole of another
  abbrev pub two : ValueType → ValueType → ℕ → Result ValueType SpecFault → ℕ → Result ValueType SpecFault → Result ValueType SpecFault
  two want whole first a second b = and_then (λ t. and_then (λ u. and_then (λ v. and_then (λ w. Ok whole) (wanted want second u)) (wanted want first t)) b) a

  abbrev pub related : ℕ → ValueType → ValueType → ValueType → Result ValueType SpecFault
  related at a b whole = only_if (are_related d a b) at TypeMismatch whole

  abbrev pub operation : Option ValueType → ValueType → ℕ → ℕ → Result ValueType SpecFault → ℕ → Result ValueType SpecFault → Result ValueType SpecFault
  operation (Some want) whole at first a second b = two want whole first a second b
  operation None whole at first a second b = and_then (λ t. and_then (λ u. related at t u whole) b) a

  -- `c ? a : b` is a formula: of two ints or two references it is no clause's
  abbrev pub choice_of : ℕ → Option ValueType → Result ValueType SpecFault
  choice_of at None = refused at TypeMismatch
  choice_of at (Some types.Boolean) = Ok types.Boolean
  choice_of at (Some t) = refused at BadClause

  abbrev pub choice : ℕ → ℕ → Result ValueType SpecFault → Result ValueType SpecFault → Result ValueType SpecFault → Result ValueType SpecFault
  choice at place c a b = and_then (λ t. and_then (λ u. and_then (λ v. and_then (λ w. choice_of at (joined d u v)) (wanted types.Boolean place t)) b) a) c

  abbrev pub cast : ℕ → Result ValueType SpecFault → Result ValueType SpecFault → Result ValueType SpecFault
  cast at want e = and_then (λ t. and_then (λ u. related at t u t) e) want

  abbrev pub instance : ℕ → Result ValueType SpecFault → Result ValueType SpecFault → Result ValueType SpecFault
  instance at e want = and_then (λ t. and_then (λ u. related at t u types.Boolean) want) e

  abbrev pub element : ℕ → Result ValueType SpecFault → ℕ → Result ValueType SpecFault → Result ValueType SpecFault
  element first a second i = and_then (λ t. and_then (λ u. and_then (λ v. and_then (λ w. Ok types.Int) (wanted types.Int second u)) (array first t)) i) a

  -- a word that may stand here or not, before a reference
  abbrev pub of_reference : Bool → ℕ → SpecCause → ℕ → Result ValueType SpecFault → Result ValueType SpecFault
  of_reference allowed at cause place e = and_then (λ t. and_then (λ u. and_then (λ v. Ok types.Boolean) (reference place t)) (only_if allowed at cause t)) e

  -- the bounds, and what is summed
  abbrev pub summed : ℕ → Result ValueType SpecFault → ℕ → Result ValueType SpecFault → ℕ → Result ValueType SpecFault → Result ValueType SpecFault
  summed first a second b third e =
      and_then (λ t. and_then (λ u. and_then (λ v. and_then (λ w. and_then (λ x. wanted types.Int third v) (wanted types.Int second u)) (wanted types.Int first t)) e) b) a

  -- ---- members (JLS 15.11)

  abbrev pub length_type : ℕ → Bool → Result ValueType SpecFault
  length_type at its = only_if its at UnknownName types.Int

  abbrev pub member_type : PlainIdentifier → ValueType → Result ValueType SpecFault
  member_type x (types.Class c) = variable_type x.at (d.variable c x.name)
  member_type x types.IntArray = length_type x.at (bytes_eq x.name (codes "length"))
  member_type x t = refused x.at UnknownName

  abbrev pub field_type : PlainIdentifier → Option ℕ → Result ValueType SpecFault → Result ValueType SpecFault
  field_type x (Some c) e = constant_type x.at (d.variable c x.name)
  field_type x None e = and_then (member_type x) e

  -- what stands before the dot of a call, where it is no class
  abbrev pub receiver : Option ℕ → Result ValueType SpecFault → Result ValueType SpecFault
  receiver (Some c) e = Ok types.Null
  receiver None e = e

abbrev pub bound : PlainIdentifier → ValueType → List SpecLocal → List SpecLocal
bound x t locals = record { name = x.name; named = ABound; type = t } ∷ locals

module _ (d : Declarations) (p : SpecPlace) where
  abbrev pub class_before : List SpecLocal → PlainSpec → Option ℕ
  class_before locals (Name at c) = class_meant d p.place locals c
  class_before locals e = None

  abbrev mutual
    -- the type of an expression, inside `\old` or not, or the token of it that is refused first
    pub type_of : Bool → List SpecLocal → PlainSpec → Result ValueType SpecFault
    type_of inside locals (Integer at n) = Ok types.Int
    type_of inside locals (Boolean at b) = Ok types.Boolean
    type_of inside locals (Null at) = Ok types.Null
    type_of inside locals (This at) = only_if (not p.place.is_static) at UnknownName (types.Class p.place.class)
    type_of inside locals (ResultWord at) = result_type at p.result
    type_of inside locals (Name at x) = name_type inside p.place.is_static at (local_named locals x) (d.variable p.place.class x)
    type_of inside locals (Field at e x) = field_type d x (class_before locals e) (type_of inside locals e)
    type_of inside locals (Parenthesized at e) = type_of inside locals e
    type_of inside locals (Call at m es) = and_then (λ t. refused at CallInSpec) (types_of inside locals es)
    type_of inside locals (MethodCall at e m es) = and_then (λ t. and_then (λ u. refused m.at CallInSpec) (types_of inside locals es)) (receiver d (class_before locals e) (type_of inside locals e))
    type_of inside locals (Index at a i) = element d (at_of a) (type_of inside locals a) (at_of i) (type_of inside locals i)
    type_of inside locals (Prefix at o e) = one d (sign_type o) (at_of e) (type_of inside locals e)
    type_of inside locals (Cast at w e) = cast d at (written_type d w) (type_of inside locals e)
    type_of inside locals (Infix at o a b) = operation d (part_type o) (whole_type o) at (at_of a) (type_of inside locals a) (at_of b) (type_of inside locals b)
    type_of inside locals (InstanceOf at e w) = instance d at (type_of inside locals e) (written_type d w)
    type_of inside locals (Conditional at c a b) = choice d at (at_of c) (type_of inside locals c) (type_of inside locals a) (type_of inside locals b)
    type_of inside locals (Implies at a b) = two d types.Boolean types.Boolean (at_of a) (type_of inside locals a) (at_of b) (type_of inside locals b)
    type_of inside locals (Equivalent at a b) = two d types.Boolean types.Boolean (at_of a) (type_of inside locals a) (at_of b) (type_of inside locals b)
    type_of inside locals (Old at e) = and_then (only_if p.old at OldHere) (type_of true locals e)
    type_of inside locals (Fresh at e) = of_reference d p.old at OldHere (at_of e) (type_of inside locals e)
    type_of inside locals (InvariantFor at e) = of_reference d p.invariants at InvariantRecursion (at_of e) (type_of inside locals e)
    type_of inside locals (Quantified at q t x e) = and_then (λ u. one d types.Boolean (at_of e) (type_of inside (bound x u locals) e)) (bound_type d t)
    type_of inside locals (QuantifiedIn at q t x r e) =
        and_then (λ u. two d types.Boolean types.Boolean (at_of r) (type_of inside (bound x u locals) r) (at_of e) (type_of inside (bound x u locals) e)) (bound_type d t)
    type_of inside locals (Sum at x a b e) = summed d (at_of a) (type_of inside locals a) (at_of b) (type_of inside locals b) (at_of e) (type_of inside (bound x types.Int locals) e)

    -- parts of a call, which are asked for their own refusals alone
    pub types_of : Bool → List SpecLocal → PlainSpecs → Result ValueType SpecFault
    types_of inside locals NoSpecs = Ok types.Null
    types_of inside locals (SpecThen e es) = and_then (λ t. types_of inside locals es) (type_of inside locals e)

  -- an expression of this type
  abbrev pub expression : ValueType → List SpecLocal → PlainSpec → Result ValueType SpecFault
  expression want locals e = one d want (at_of e) (type_of false locals e)
