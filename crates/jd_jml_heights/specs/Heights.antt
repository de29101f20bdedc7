-- How high the expressions of clauses are: one that has no other in it has the height 0, any other one more than the highest of those
-- right below it.
use Rattle.std.specs.Prelude.{ℕ, ◌+◌, max, List, [], ◌∷◌}
use Rattle.jd_syntax.specs.SpecTrees.{PlainSpec, Integer, Boolean, Null, This, Result, Name, Field, Parenthesized, Call, MethodCall, Index, Prefix, Cast, Infix, InstanceOf, Conditional, Implies, Equivalent, Old, Fresh, InvariantFor, Quantified, QuantifiedIn, Sum, PlainSpecs, NoSpecs, SpecThen, PlainLocation, Nothing, Everything, OwnField, FieldOf, AllFields, Element, Range, AllElements, PlainClause, Requires, Ensures, Signals, SignalsOnly, Assignable, MeasuredBy, Diverges, LoopInvariant, Decreases, Invariant, NormalBehavior, ExceptionalBehavior, Behavior, Also, Pure, Helper, Nullable, NonNull, SpecPublic, SpecProtected}

-- A call without arguments counts as if it had one of the height 0. The range `a <= x && x < b` of a sum is an expression with two
-- levels over `a` and `b`, and a part of the sum.
abbrev mutual
  pub spec_height : PlainSpec → ℕ
  spec_height (Integer at n) = 0
  spec_height (Boolean at b) = 0
  spec_height (Null at) = 0
  spec_height (This at) = 0
  spec_height (Result at) = 0
  spec_height (Name at x) = 0
  spec_height (Field at e x) = 1 + spec_height e
  spec_height (Parenthesized at e) = 1 + spec_height e
  spec_height (Call at m es) = 1 + specs_height es
  spec_height (MethodCall at e m es) = 1 + max (spec_height e) (specs_height es)
  spec_height (Index at a i) = 1 + max (spec_height a) (spec_height i)
  spec_height (Prefix at o e) = 1 + spec_height e
  spec_height (Cast at t e) = 1 + spec_height e
  spec_height (Infix at o a b) = 1 + max (spec_height a) (spec_height b)
  spec_height (InstanceOf at e t) = 1 + spec_height e
  spec_height (Conditional at c a b) = 1 + max (spec_height c) (max (spec_height a) (spec_height b))
  spec_height (Implies at a b) = 1 + max (spec_height a) (spec_height b)
  spec_height (Equivalent at a b) = 1 + max (spec_height a) (spec_height b)
  spec_height (Old at e) = 1 + spec_height e
  spec_height (Fresh at e) = 1 + spec_height e
  spec_height (InvariantFor at e) = 1 + spec_height e
  spec_height (Quantified at q t x e) = 1 + spec_height e
  spec_height (QuantifiedIn at q t x r e) = 1 + max (spec_height r) (spec_height e)
  spec_height (Sum at x a b e) = 1 + max (2 + max (spec_height a) (spec_height b)) (spec_height e)

  -- that of the highest, 0 where there is none
  pub specs_height : PlainSpecs → ℕ
  specs_height NoSpecs = 0
  specs_height (SpecThen e es) = max (spec_height e) (specs_height es)

-- That of the highest expression in a location. The location itself is none.
abbrev pub location_height : PlainLocation → ℕ
location_height (Nothing at) = 0
location_height (Everything at) = 0
location_height (OwnField at x) = 0
location_height (FieldOf at e x) = spec_height e
location_height (AllFields at e) = spec_height e
location_height (Element at a i) = max (spec_height a) (spec_height i)
location_height (Range at a i j) = max (spec_height a) (max (spec_height i) (spec_height j))
location_height (AllElements at a) = spec_height a

abbrev pub locations_height : List PlainLocation → ℕ
locations_height [] = 0
locations_height (l ∷ ls) = max (location_height l) (locations_height ls)

-- that of the highest expression in a clause
abbrev pub clause_height : PlainClause → ℕ
clause_height (Requires at e) = spec_height e
clause_height (Ensures at e) = spec_height e
clause_height (Signals at c x e) = spec_height e
clause_height (SignalsOnly at cs) = 0
clause_height (Assignable at ls) = locations_height ls
clause_height (MeasuredBy at e) = spec_height e
clause_height (Diverges at b) = 0
clause_height (LoopInvariant at e) = spec_height e
clause_height (Decreases at e) = spec_height e
clause_height (Invariant at e) = spec_height e
clause_height (NormalBehavior at) = 0
clause_height (ExceptionalBehavior at) = 0
clause_height (Behavior at) = 0
clause_height (Also at) = 0
clause_height (Pure at) = 0
clause_height (Helper at) = 0
clause_height (Nullable at) = 0
clause_height (NonNull at) = 0
clause_height (SpecPublic at) = 0
clause_height (SpecProtected at) = 0

-- that of the highest expression in clauses
abbrev pub highest : List PlainClause → ℕ
highest [] = 0
highest (c ∷ cs) = max (clause_height c) (highest cs)
