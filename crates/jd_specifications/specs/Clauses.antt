-- Which clauses are refused (JML Reference Manual, 8, 9, 13.2).
use Rattle.std.specs.Prelude.{ℕ, Bool, true, false, not, List, [], ◌∷◌, Option, Some, None, Result, Ok}
use Rattle.jd_syntax.specs.JavaTypes.{PlainIdentifier}
use Rattle.jd_syntax.specs.SpecTrees.{PlainLocation, Nothing, Everything, OwnField, FieldOf, AllFields, Element, Range, AllElements, PlainClause, Requires, Ensures, Signals, SignalsOnly, Assignable, MeasuredBy, Diverges, LoopInvariant, Decreases, Invariant, NormalBehavior, ExceptionalBehavior, Behavior, Also, Pure, Helper, Nullable, NonNull, SpecPublic, SpecProtected}
use Rattle.jd_bodies.specs.declared.place.Place.{Place}
use Rattle.jd_bodies.specs.declared.value.ValueType.{ValueType}
use Rattle.jd_bodies.specs.declared.value.ValueType.TheVariants as types
use Rattle.jd_bodies.specs.declared.value.Variable.{Variable}
use Rattle.jd_bodies.specs.declared.value.Variable.TheVariants as variables
use Rattle.jd_bodies.specs.Declarations.{Declarations}
use Rattle.jd_bodies.specs.Types.{throwable}
use Rattle.jd_specifications.specs.declared.fault.SpecFault.{SpecFault}
use Rattle.jd_specifications.specs.declared.fault.SpecCause.TheVariants.{UnknownName, BadClause}
use Rattle.jd_specifications.specs.Scopes.{AnException, SpecLocal, SpecPlace, and_then, refused, only_if}
use Rattle.jd_specifications.specs.Types.{at_of, written_class, wanted, reference, array, one, element, class_before, type_of, expression}

-- ---- what stands around a clause

-- the behaviour word of the case so far
pub data Word : Type 0 where
  NoWord NormalWord ExceptionalWord : Word

abbrev pub may_return : Word → Bool
may_return NoWord = true
may_return NormalWord = true
may_return ExceptionalWord = false

abbrev pub may_throw : Word → Bool
may_throw NoWord = true
may_throw NormalWord = false
may_throw ExceptionalWord = true

-- of a case, or of a loop's clauses: the word, and whether there is a measure and a `diverges` yet
pub record Sofar : Type 0 where
  pub word : Word
  pub measure : Bool
  pub diverges : Bool

abbrev pub at_first : Sofar
at_first = record { word = NoWord; measure = false; diverges = false }

-- a method's or class's clauses: in which class, with or without `this`; what the method gives; what is in scope
pub record Around : Type 0 where
  pub place : Place
  pub result : Option ValueType
  pub locals : List SpecLocal

-- what may stand in each clause: `\result` in `ensures` alone, no earlier state before the method runs or in an invariant
abbrev pub before : Around → SpecPlace
before a = record { place = a.place; result = None; old = false; invariants = true }

abbrev pub behind : Around → SpecPlace
behind a = record { place = a.place; result = a.result; old = true; invariants = true }

abbrev pub elsewhere : Around → SpecPlace
elsewhere a = record { place = a.place; result = None; old = true; invariants = true }

abbrev pub in_invariant : Around → SpecPlace
in_invariant a = record { place = a.place; result = None; old = false; invariants = false }

-- ---- parts of clauses

abbrev pub own_field : Bool → ℕ → Option Variable → Result ValueType SpecFault
own_field static at None = refused at UnknownName
own_field static at (Some (variables.Field f t)) = only_if (not static) at UnknownName t
own_field static at (Some (variables.Constant n)) = refused at UnknownName

-- a constant is no location, nor is a length
abbrev pub field_location : ℕ → Option Variable → Result ValueType SpecFault
field_location at None = refused at UnknownName
field_location at (Some (variables.Field f t)) = Ok t
field_location at (Some (variables.Constant n)) = refused at UnknownName

module _ (d : Declarations) where
  abbrev pub member_location : PlainIdentifier → ValueType → Result ValueType SpecFault
  member_location x (types.Class c) = field_location x.at (d.variable c x.name)
  member_location x t = refused x.at UnknownName

  -- a class has no fields of its own
  abbrev pub location_before : PlainIdentifier → Option ℕ → Result ValueType SpecFault → Result ValueType SpecFault
  location_before x (Some c) e = refused x.at UnknownName
  location_before x None e = and_then (member_location x) e

  module _ (p : SpecPlace) (locals : List SpecLocal) where
    abbrev pub location : PlainLocation → Result ValueType SpecFault
    location (Nothing at) = Ok types.Null
    location (Everything at) = Ok types.Null
    location (OwnField at x) = own_field p.place.is_static at (d.variable p.place.class x)
    location (FieldOf at e x) = location_before x (class_before d p locals e) (type_of d p false locals e)
    location (AllFields at e) = and_then (reference d (at_of e)) (type_of d p false locals e)
    location (Element at a i) = element d (at_of a) (type_of d p false locals a) (at_of i) (type_of d p false locals i)
    location (Range at a i j) =
        and_then (λ t. and_then (λ u. and_then (λ v. and_then (λ w. and_then (λ x. wanted d types.Int (at_of j) v) (wanted d types.Int (at_of i) u)) (array d (at_of a) t)) (type_of d p false locals j)) (type_of d p false locals i)) (type_of d p false locals a)
    location (AllElements at a) = and_then (array d (at_of a)) (type_of d p false locals a)

    abbrev pub locations : List PlainLocation → Result ValueType SpecFault
    locations [] = Ok types.Null
    locations (l ∷ ls) = and_then (λ t. locations ls) (location l)

  -- Throwable or a class below it
  abbrev pub exception : PlainIdentifier → Result ValueType SpecFault
  exception c = and_then (λ k. and_then (λ t. Ok (types.Class k)) (wanted d throwable c.at (types.Class k))) (written_class d c)

  abbrev pub exceptions : List PlainIdentifier → Result ValueType SpecFault
  exceptions [] = Ok types.Null
  exceptions (c ∷ cs) = and_then (λ t. exceptions cs) (exception c)

  abbrev pub caught : Option PlainIdentifier → ValueType → List SpecLocal → List SpecLocal
  caught None t locals = locals
  caught (Some x) t locals = record { name = x.name; named = AnException; type = t } ∷ locals

  -- ---- clauses, each with what is known behind it

  abbrev pub keep : Sofar → Result ValueType SpecFault → Result Sofar SpecFault
  keep s r = and_then (λ t. Ok s) r

  -- a clause that its case may have
  abbrev pub allowed : Bool → ℕ → Sofar → Result ValueType SpecFault → Result Sofar SpecFault
  allowed may at s r = and_then (λ t. only_if may at BadClause s) r

  module _ (a : Around) where
    abbrev pub clause : Sofar → PlainClause → Result Sofar SpecFault
    clause s (Requires at e) = keep s (expression d (before a) types.Boolean a.locals e)
    clause s (Ensures at e) = allowed (may_return s.word) at s (expression d (behind a) types.Boolean a.locals e)
    clause s (Signals at c x e) = allowed (may_throw s.word) at s (and_then (λ t. expression d (elsewhere a) types.Boolean (caught x t a.locals) e) (exception c))
    clause s (SignalsOnly at cs) = allowed (may_throw s.word) at s (exceptions cs)
    clause s (Assignable at ls) = keep s (locations (elsewhere a) a.locals ls)
    clause s (MeasuredBy at e) = allowed (not s.measure) at (record s { measure = true }) (expression d (before a) types.Int a.locals e)
    clause s (Diverges at b) = allowed (not s.diverges) at (record s { diverges = true }) (Ok types.Null)
    clause s (LoopInvariant at e) = keep s (expression d (elsewhere a) types.Boolean a.locals e)
    clause s (Decreases at e) = allowed (not s.measure) at (record s { measure = true }) (expression d (elsewhere a) types.Int a.locals e)
    clause s (Invariant at e) = keep s (expression d (in_invariant (record { place = record { class = a.place.class; is_static = false }; result = None; locals = [] })) types.Boolean [] e)
    clause s (NormalBehavior at) = Ok (record s { word = NormalWord })
    clause s (ExceptionalBehavior at) = Ok (record s { word = ExceptionalWord })
    clause s (Behavior at) = Ok s
    clause s (Also at) = Ok at_first
    clause s (Pure at) = Ok s
    clause s (Helper at) = Ok s
    clause s (Nullable at) = Ok s
    clause s (NonNull at) = Ok s
    clause s (SpecPublic at) = Ok s
    clause s (SpecProtected at) = Ok s

    -- the clauses of one place, in their order
    abbrev pub clauses : Sofar → List PlainClause → Result Sofar SpecFault
    clauses s [] = Ok s
    clauses s (c ∷ cs) = and_then (λ t. clauses t cs) (clause s c)
