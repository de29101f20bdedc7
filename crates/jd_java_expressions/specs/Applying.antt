-- Operands with what stands behind them, as trees.
use Rattle.std.specs.Prelude.{ℕ, List, [], ◌∷◌, Option, Some, None}
use Rattle.jd_syntax.specs.JavaTypes.{PlainIdentifier, PlainWritten, NamedType}
use Rattle.jd_syntax.specs.JavaTrees as java
use Rattle.jd_syntax.specs.JavaTrees.{JavaExpr, java_exprs}
use Rattle.jd_java_values.specs.Values.{PlainSuffix, Infix, InstanceOf, Assign, Choice, Member, Method, Element, Count, PlainStart, Inside, Cast, Object, Array}

-- the place of an expression's first token
abbrev pub at_of : JavaExpr → ℕ
at_of (java.Integer at n) = at
at_of (java.Boolean at b) = at
at_of (java.Null at) = at
at_of (java.This at) = at
at_of (java.Name at x) = at
at_of (java.Field at e x) = at
at_of (java.Parenthesized at e) = at
at_of (java.Call at m es) = at
at_of (java.MethodCall at e m es) = at
at_of (java.New at c es) = at
at_of (java.NewArray at e) = at
at_of (java.Index at a i) = at
at_of (java.Prefix at o e) = at
at_of (java.Postfix at o e) = at
at_of (java.Cast at t e) = at
at_of (java.Infix at o a b) = at
at_of (java.InstanceOf at e t) = at
at_of (java.Conditional at c a b) = at
at_of (java.Assign at o a b) = at

-- an operand with one thing behind it; it begins where the operand does
abbrev pub applied : JavaExpr → PlainSuffix → JavaExpr
applied e (Infix o r) = java.Infix (at_of e) o e r
applied e (InstanceOf t) = java.InstanceOf (at_of e) e t
applied e (Assign o r) = java.Assign (at_of e) o e r
applied e (Choice a b) = java.Conditional (at_of e) e a b
applied e (Member x) = java.Field (at_of e) e x
applied e (Method x es) = java.MethodCall (at_of e) e x (java_exprs es)
applied e (Element i) = java.Index (at_of e) e i
applied e (Count o) = java.Postfix (at_of e) o e

-- with all that stands behind it, from the left
abbrev pub all_applied : JavaExpr → List PlainSuffix → JavaExpr
all_applied e [] = e
all_applied e (s ∷ ss) = all_applied (applied e s) ss

-- a name, or a call where there are arguments
abbrev pub named : ℕ → List ℕ → Option (List JavaExpr) → JavaExpr
named at w None = java.Name at w
named at w (Some es) = java.Call at w (java_exprs es)

-- a member, or a call of a method where there are arguments
abbrev pub joined : PlainIdentifier → Option (List JavaExpr) → PlainSuffix
joined x None = Member x
joined x (Some es) = Method x es

-- an operand that begins at that place
abbrev pub begun : ℕ → PlainStart → JavaExpr
begun at (Inside e) = java.Parenthesized at e
begun at (Cast t e) = java.Cast at t e
begun at (Object x es) = java.New at x (java_exprs es)
begun at (Array e) = java.NewArray at e

-- the class that a name in parentheses is
abbrev pub class_type : JavaExpr → PlainWritten
class_type (java.Name at x) = record { at = at; written = NamedType x }
class_type e = record { at = at_of e; written = NamedType [] }
