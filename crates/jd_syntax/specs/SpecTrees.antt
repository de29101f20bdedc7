-- Plain trees of JML, with their offsets, and their views.
use Rattle.std.specs.Prelude.{ℕ, ℤ, Bool, List, [], ◌∷◌, Option, map, option_map}
use Rattle.jd_syntax.specs.JavaTypes.{PlainIdentifier, identifier_view, PlainWritten, written_view}
use Rattle.jd_syntax.specs.declared.java.InfixOperator.{InfixOperator}
use Rattle.jd_syntax.specs.declared.spec.SpecPlace.{SpecPlace}
use Rattle.jd_syntax.specs.declared.spec.SpecPrefix.{SpecPrefix}
use Rattle.jd_syntax.specs.declared.spec.Quantifier.{Quantifier}
use Rattle.jd_syntax.specs.declared.spec.SpecType.{SpecType}
use Rattle.jd_syntax.specs.declared.spec.SpecType.TheVariants as types
use Rattle.jd_syntax.specs.declared.spec.SpecExpr.{SpecExpr, SpecExpr-F, fold-SpecExpr}
use Rattle.jd_syntax.specs.declared.spec.SpecForm.{SpecForm-F}
use Rattle.jd_syntax.specs.declared.spec.SpecForm.TheOpen as layer
use Rattle.jd_syntax.specs.declared.spec.LocExpr.{LocExpr}
use Rattle.jd_syntax.specs.declared.spec.LocForm.{LocForm}
use Rattle.jd_syntax.specs.declared.spec.LocForm.TheVariants as locations
use Rattle.jd_syntax.specs.declared.spec.SpecClause.{SpecClause}
use Rattle.jd_syntax.specs.declared.spec.ClauseForm.{ClauseForm}
use Rattle.jd_syntax.specs.declared.spec.ClauseForm.TheVariants as clauses
use Rattle.jd_syntax.specs.declared.spec.SpecBlock.{SpecBlock}

pub data PlainSpecType : Type 0 where
  BigInt : PlainSpecType
  Java : PlainWritten → PlainSpecType

abbrev pub spec_type_view : SpecType → PlainSpecType
spec_type_view types.BigInt = BigInt
spec_type_view (types.Java t) = Java (written_view t)

-- the number is the offset of the expression's first token
mutual
  pub data PlainSpec : Type 0 where
    Integer : ℕ → ℤ → PlainSpec
    Boolean : ℕ → Bool → PlainSpec
    Null : ℕ → PlainSpec
    This : ℕ → PlainSpec
    Result : ℕ → PlainSpec
    Name : ℕ → List ℕ → PlainSpec
    Field : ℕ → PlainSpec → PlainIdentifier → PlainSpec
    Parenthesized : ℕ → PlainSpec → PlainSpec
    Call : ℕ → List ℕ → PlainSpecs → PlainSpec
    MethodCall : ℕ → PlainSpec → PlainIdentifier → PlainSpecs → PlainSpec
    Index : ℕ → PlainSpec → PlainSpec → PlainSpec
    Prefix : ℕ → SpecPrefix → PlainSpec → PlainSpec
    Cast : ℕ → PlainWritten → PlainSpec → PlainSpec
    Infix : ℕ → InfixOperator → PlainSpec → PlainSpec → PlainSpec
    InstanceOf : ℕ → PlainSpec → PlainWritten → PlainSpec
    Conditional : ℕ → PlainSpec → PlainSpec → PlainSpec → PlainSpec
    Implies : ℕ → PlainSpec → PlainSpec → PlainSpec
    Equivalent : ℕ → PlainSpec → PlainSpec → PlainSpec
    Old : ℕ → PlainSpec → PlainSpec
    Fresh : ℕ → PlainSpec → PlainSpec
    InvariantFor : ℕ → PlainSpec → PlainSpec
    Quantified : ℕ → Quantifier → PlainSpecType → PlainIdentifier → PlainSpec → PlainSpec
    QuantifiedIn : ℕ → Quantifier → PlainSpecType → PlainIdentifier → PlainSpec → PlainSpec → PlainSpec
    Sum : ℕ → PlainIdentifier → PlainSpec → PlainSpec → PlainSpec → PlainSpec

  pub data PlainSpecs : Type 0 where
    NoSpecs : PlainSpecs
    SpecThen : PlainSpec → PlainSpecs → PlainSpecs

abbrev pub specs_of : List PlainSpec → PlainSpecs
specs_of [] = NoSpecs
specs_of (e ∷ es) = SpecThen e (specs_of es)

-- a form awaits its offset
abbrev pub spec_form_layer : SpecForm-F (ℕ → PlainSpec) PlainSpec → ℕ → PlainSpec
spec_form_layer (layer.Integer n) at = Integer at n
spec_form_layer (layer.Boolean b) at = Boolean at b
spec_form_layer layer.Null at = Null at
spec_form_layer layer.This at = This at
spec_form_layer layer.Result at = Result at
spec_form_layer (layer.Name x) at = Name at x.items
spec_form_layer (layer.Field e x) at = Field at e.value (identifier_view x)
spec_form_layer (layer.Parenthesized e) at = Parenthesized at e.value
spec_form_layer (layer.Call m es) at = Call at m.items (specs_of es.items)
spec_form_layer (layer.MethodCall e m es) at = MethodCall at e.value (identifier_view m) (specs_of es.items)
spec_form_layer (layer.Index a i) at = Index at a.value i.value
spec_form_layer (layer.Prefix o e) at = Prefix at o e.value
spec_form_layer (layer.Cast t e) at = Cast at (written_view t) e.value
spec_form_layer (layer.Infix o a b) at = Infix at o a.value b.value
spec_form_layer (layer.InstanceOf e t) at = InstanceOf at e.value (written_view t)
spec_form_layer (layer.Conditional c a b) at = Conditional at c.value a.value b.value
spec_form_layer (layer.Implies a b) at = Implies at a.value b.value
spec_form_layer (layer.Equivalent a b) at = Equivalent at a.value b.value
spec_form_layer (layer.Old e) at = Old at e.value
spec_form_layer (layer.Fresh e) at = Fresh at e.value
spec_form_layer (layer.InvariantFor e) at = InvariantFor at e.value
spec_form_layer (layer.Quantified q t x e) at = Quantified at q (spec_type_view t) (identifier_view x) e.value
spec_form_layer (layer.QuantifiedIn q t x r e) at = QuantifiedIn at q (spec_type_view t) (identifier_view x) r.value e.value
spec_form_layer (layer.Sum x a b e) at = Sum at (identifier_view x) a.value b.value e.value

abbrev pub spec_layer : SpecExpr-F (ℕ → PlainSpec) PlainSpec → PlainSpec
spec_layer e = e.form e.at

abbrev pub spec_view : SpecExpr → PlainSpec
spec_view = fold-SpecExpr (ℕ → PlainSpec) PlainSpec spec_form_layer spec_layer

-- ---- sets of locations

pub data PlainLocation : Type 0 where
  Nothing : ℕ → PlainLocation
  Everything : ℕ → PlainLocation
  OwnField : ℕ → List ℕ → PlainLocation
  FieldOf : ℕ → PlainSpec → PlainIdentifier → PlainLocation
  AllFields : ℕ → PlainSpec → PlainLocation
  Element : ℕ → PlainSpec → PlainSpec → PlainLocation
  Range : ℕ → PlainSpec → PlainSpec → PlainSpec → PlainLocation
  AllElements : ℕ → PlainSpec → PlainLocation

abbrev pub location_form : ℕ → LocForm → PlainLocation
location_form at locations.Nothing = Nothing at
location_form at locations.Everything = Everything at
location_form at (locations.Own x) = OwnField at x.items
location_form at (locations.Field e x) = FieldOf at (spec_view e) (identifier_view x)
location_form at (locations.AllFields e) = AllFields at (spec_view e)
location_form at (locations.Element a i) = Element at (spec_view a) (spec_view i)
location_form at (locations.Range a i j) = Range at (spec_view a) (spec_view i) (spec_view j)
location_form at (locations.AllElements a) = AllElements at (spec_view a)

abbrev pub location_view : LocExpr → PlainLocation
location_view l = location_form l.at l.form

-- ---- clauses and words

pub data PlainClause : Type 0 where
  Requires : ℕ → PlainSpec → PlainClause
  Ensures : ℕ → PlainSpec → PlainClause
  Signals : ℕ → PlainIdentifier → Option PlainIdentifier → PlainSpec → PlainClause
  SignalsOnly : ℕ → List PlainIdentifier → PlainClause
  Assignable : ℕ → List PlainLocation → PlainClause
  MeasuredBy : ℕ → PlainSpec → PlainClause
  Diverges : ℕ → Bool → PlainClause
  LoopInvariant : ℕ → PlainSpec → PlainClause
  Decreases : ℕ → PlainSpec → PlainClause
  Invariant : ℕ → PlainSpec → PlainClause
  NormalBehavior : ℕ → PlainClause
  ExceptionalBehavior : ℕ → PlainClause
  Behavior : ℕ → PlainClause
  Also : ℕ → PlainClause
  Pure : ℕ → PlainClause
  Helper : ℕ → PlainClause
  Nullable : ℕ → PlainClause
  NonNull : ℕ → PlainClause
  SpecPublic : ℕ → PlainClause
  SpecProtected : ℕ → PlainClause

abbrev pub clause_form : ℕ → ClauseForm → PlainClause
clause_form at (clauses.Requires e) = Requires at (spec_view e)
clause_form at (clauses.Ensures e) = Ensures at (spec_view e)
clause_form at (clauses.Signals c x e) = Signals at (identifier_view c) (option_map identifier_view x) (spec_view e)
clause_form at (clauses.SignalsOnly cs) = SignalsOnly at (map identifier_view cs.items)
clause_form at (clauses.Assignable ls) = Assignable at (map location_view ls.items)
clause_form at (clauses.MeasuredBy e) = MeasuredBy at (spec_view e)
clause_form at (clauses.Diverges b) = Diverges at b
clause_form at (clauses.LoopInvariant e) = LoopInvariant at (spec_view e)
clause_form at (clauses.Decreases e) = Decreases at (spec_view e)
clause_form at (clauses.Invariant e) = Invariant at (spec_view e)
clause_form at clauses.NormalBehavior = NormalBehavior at
clause_form at clauses.ExceptionalBehavior = ExceptionalBehavior at
clause_form at clauses.Behavior = Behavior at
clause_form at clauses.Also = Also at
clause_form at clauses.Pure = Pure at
clause_form at clauses.Helper = Helper at
clause_form at clauses.Nullable = Nullable at
clause_form at clauses.NonNull = NonNull at
clause_form at clauses.SpecPublic = SpecPublic at
clause_form at clauses.SpecProtected = SpecProtected at

abbrev pub clause_view : SpecClause → PlainClause
clause_view c = clause_form c.at c.form

-- the JML at one place: from that token to that one, and what it says
pub record PlainSpecBlock : Type 0 where
  pub place : SpecPlace
  pub from : ℕ
  pub to : ℕ
  pub clauses : List PlainClause

abbrev pub spec_block_view : SpecBlock → PlainSpecBlock
spec_block_view b = record { place = b.place; from = b.from; to = b.to; clauses = map clause_view b.clauses.items }
