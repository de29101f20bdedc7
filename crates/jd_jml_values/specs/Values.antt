-- What the nodes of JML's derivations stand for, as plain data. Lists have the order of the text.
use Rattle.std.specs.Prelude.{List}
use Rattle.jd_syntax.specs.JavaTypes.{PlainIdentifier, PlainWritten}
use Rattle.jd_syntax.specs.SpecTrees.{PlainSpecType, PlainSpec, PlainLocation, PlainClause}
use Rattle.jd_syntax.specs.declared.java.InfixOperator.{InfixOperator}
use Rattle.jd_syntax.specs.declared.spec.Quantifier.{Quantifier}

-- what stands behind an operand
pub data PlainSuffix : Type 0 where
  Infix : InfixOperator → PlainSpec → PlainSuffix
  InstanceOf : PlainWritten → PlainSuffix
  -- ? a : b
  Choice : PlainSpec → PlainSpec → PlainSuffix
  Implies : PlainSpec → PlainSuffix
  Equivalent : PlainSpec → PlainSuffix
  -- . x, and . x ( .. )
  Member : PlainIdentifier → PlainSuffix
  Method : PlainIdentifier → List PlainSpec → PlainSuffix
  Element : PlainSpec → PlainSuffix

-- an operand behind `(`: an expression, a cast, or what binds a variable
pub data PlainStart : Type 0 where
  Inside : PlainSpec → PlainStart
  Cast : PlainWritten → PlainSpec → PlainStart
  Quantified : Quantifier → PlainSpecType → PlainIdentifier → PlainSpec → PlainStart
  QuantifiedIn : Quantifier → PlainSpecType → PlainIdentifier → PlainSpec → PlainSpec → PlainStart
  Sum : PlainIdentifier → PlainSpec → PlainSpec → PlainSpec → PlainStart

-- the last part of a location
pub data PlainEnd : Type 0 where
  FieldEnd : PlainIdentifier → PlainEnd
  AllFieldsEnd : PlainEnd
  ElementEnd : PlainSpec → PlainEnd
  RangeEnd : PlainSpec → PlainSpec → PlainEnd
  AllElementsEnd : PlainEnd

pub data PlainValue : Type 0 where
  Nothing : PlainValue
  Expression : PlainSpec → PlainValue
  Suffixes : List PlainSuffix → PlainValue
  -- an operand whose `(` stands before the node, and what stands behind it
  Started : PlainStart → List PlainSuffix → PlainValue
  -- what is cast to `int[]`, behind `int`
  ArrayOperand : PlainSpec → PlainValue
  Expressions : List PlainSpec → PlainValue
  Named : PlainIdentifier → PlainValue
  Typed : PlainWritten → PlainValue
  -- `[]`
  Dimension : PlainValue
  -- `\bigint`
  BigInteger : PlainValue
  -- behind the operand of a location: members and elements, and the last one apart
  Steps : List PlainSuffix → PlainEnd → PlainValue
  -- the same behind the arguments of a call
  Invoked : List PlainSpec → List PlainSuffix → PlainEnd → PlainValue
  -- behind an index and `..`: the greatest one
  Bound : PlainSpec → PlainValue
  Locations : List PlainLocation → PlainValue
  Clauses : List PlainClause → PlainValue
  Names : List PlainIdentifier → PlainValue
