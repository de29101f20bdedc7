-- Operands with what stands behind them, as trees.
use Rattle.std.specs.Prelude.{ℕ, List, [], ◌∷◌, Option, Some, None}
use Rattle.jd_syntax.specs.JavaTypes.{PlainIdentifier, PlainWritten, NamedType}
use Rattle.jd_syntax.specs.SpecTrees as jml
use Rattle.jd_syntax.specs.SpecTrees.{PlainSpec, PlainSpecType, specs_of}
use Rattle.jd_syntax.specs.declared.spec.Quantifier.{Quantifier}
use Rattle.jd_jml_values.specs.Values.{PlainSuffix, Infix, InstanceOf, Choice, Implies, Equivalent, Member, Method, Element, PlainStart, Inside, Cast, Quantified, QuantifiedIn, Sum}

-- the place of an expression's first token
abbrev pub at_of : PlainSpec → ℕ
at_of (jml.Integer at n) = at
at_of (jml.Boolean at b) = at
at_of (jml.Null at) = at
at_of (jml.This at) = at
at_of (jml.Result at) = at
at_of (jml.Name at x) = at
at_of (jml.Field at e x) = at
at_of (jml.Parenthesized at e) = at
at_of (jml.Call at m es) = at
at_of (jml.MethodCall at e m es) = at
at_of (jml.Index at a i) = at
at_of (jml.Prefix at o e) = at
at_of (jml.Cast at t e) = at
at_of (jml.Infix at o a b) = at
at_of (jml.InstanceOf at e t) = at
at_of (jml.Conditional at c a b) = at
at_of (jml.Implies at a b) = at
at_of (jml.Equivalent at a b) = at
at_of (jml.Old at e) = at
at_of (jml.Fresh at e) = at
at_of (jml.InvariantFor at e) = at
at_of (jml.Quantified at q t x e) = at
at_of (jml.QuantifiedIn at q t x r e) = at
at_of (jml.Sum at x a b e) = at

-- an operand with one thing behind it; it begins where the operand does
abbrev pub applied : PlainSpec → PlainSuffix → PlainSpec
applied e (Infix o r) = jml.Infix (at_of e) o e r
applied e (InstanceOf t) = jml.InstanceOf (at_of e) e t
applied e (Choice a b) = jml.Conditional (at_of e) e a b
applied e (Implies r) = jml.Implies (at_of e) e r
applied e (Equivalent r) = jml.Equivalent (at_of e) e r
applied e (Member x) = jml.Field (at_of e) e x
applied e (Method x es) = jml.MethodCall (at_of e) e x (specs_of es)
applied e (Element i) = jml.Index (at_of e) e i

-- with all that stands behind it, from the left
abbrev pub all_applied : PlainSpec → List PlainSuffix → PlainSpec
all_applied e [] = e
all_applied e (s ∷ ss) = all_applied (applied e s) ss

-- a name, or a call where there are arguments
abbrev pub named : PlainIdentifier → Option (List PlainSpec) → PlainSpec
named x None = jml.Name x.at x.name
named x (Some es) = jml.Call x.at x.name (specs_of es)

-- a member, or a call of a method where there are arguments
abbrev pub joined : PlainIdentifier → Option (List PlainSpec) → PlainSuffix
joined x None = Member x
joined x (Some es) = Method x es

-- an operand whose `(` stands at that place
abbrev pub begun : ℕ → PlainStart → PlainSpec
begun at (Inside e) = jml.Parenthesized at e
begun at (Cast t e) = jml.Cast at t e
begun at (Quantified q t x e) = jml.Quantified at q t x e
begun at (QuantifiedIn q t x r e) = jml.QuantifiedIn at q t x r e
begun at (Sum x a b e) = jml.Sum at x a b e

-- the class that a name in parentheses is
abbrev pub class_type : PlainSpec → PlainWritten
class_type (jml.Name at x) = record { at = at; written = NamedType x }
class_type e = record { at = at_of e; written = NamedType [] }

-- what binds a variable over all values, or over those of a range
abbrev pub quantified : Quantifier → PlainSpecType → PlainIdentifier → PlainSpec → Option PlainSpec → PlainStart
quantified q t x e None = Quantified q t x e
quantified q t x r (Some e) = QuantifiedIn q t x r e

-- the operands of the first operator of `a <= x && x < b`, `a <= x` and `x < b`; of another expression it and `null`
abbrev pub halves : PlainSpec → PlainSpec × PlainSpec
halves (jml.Infix at o a b) = (a, b)
halves e = (e, jml.Null 0)

-- a sum over the range `a <= x && x < b`
abbrev pub sum : PlainIdentifier → PlainSpec → PlainSpec → PlainStart
sum x range e = Sum x (halves (halves range).0).0 (halves (halves range).1).1 e
