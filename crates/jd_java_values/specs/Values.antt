-- What the nodes of Java's derivations stand for, as plain data. Lists have the order of the text.
use Rattle.std.specs.Prelude.{ℕ, ℤ, Bool, List, Option}
use Rattle.jd_syntax.specs.JavaTypes.{PlainIdentifier, PlainWritten}
use Rattle.jd_syntax.specs.SpecTrees.{PlainSpecBlock}
use Rattle.jd_syntax.specs.JavaTrees.{JavaExpr, JavaDeclarator, JavaForStart, JavaStmt, JavaHandler, JavaResult, JavaParameter, JavaMember, JavaClass}
use Rattle.jd_syntax.specs.declared.java.InfixOperator.{InfixOperator}
use Rattle.jd_syntax.specs.declared.java.CountOperator.{CountOperator}
use Rattle.jd_syntax.specs.declared.java.AssignmentOperator.{AssignmentOperator}

-- what stands behind an operand
pub data PlainSuffix : Type 0 where
  Infix : InfixOperator → JavaExpr → PlainSuffix
  InstanceOf : PlainWritten → PlainSuffix
  Assign : AssignmentOperator → JavaExpr → PlainSuffix
  -- ? a : b
  Choice : JavaExpr → JavaExpr → PlainSuffix
  -- . x, and . x ( .. )
  Member : PlainIdentifier → PlainSuffix
  Method : PlainIdentifier → List JavaExpr → PlainSuffix
  Element : JavaExpr → PlainSuffix
  Count : CountOperator → PlainSuffix

-- an operand, but for the place where it begins: in parentheses, behind a type in parentheses, or behind `new`
pub data PlainStart : Type 0 where
  Inside : JavaExpr → PlainStart
  Cast : PlainWritten → JavaExpr → PlainStart
  Object : PlainIdentifier → List JavaExpr → PlainStart
  Array : JavaExpr → PlainStart

-- what stands behind the name of a member
pub data PlainDeclared : Type 0 where
  -- further fields
  FieldNames : List PlainIdentifier → PlainDeclared
  -- a method's or a constructor's parameters and body
  Routine : List JavaParameter → List JavaStmt → PlainDeclared
  -- a constant's value
  Constant : ℤ → PlainDeclared

pub data PlainValue : Type 0 where
  Nothing : PlainValue
  Expression : JavaExpr → PlainValue
  Suffixes : List PlainSuffix → PlainValue
  -- an operand whose first token stands before the node, and what stands behind it
  Started : PlainStart → List PlainSuffix → PlainValue
  -- what is cast to `int[]`, behind `int`
  ArrayOperand : JavaExpr → PlainValue
  Expressions : List JavaExpr → PlainValue
  -- behind a name: arguments, if it is called; what stands behind that; and further expressions
  BehindName : Option (List JavaExpr) → List PlainSuffix → List JavaExpr → PlainValue
  Named : PlainIdentifier → PlainValue
  Typed : PlainWritten → PlainValue
  -- `[]`
  Dimension : PlainValue
  Statement : JavaStmt → PlainValue
  Statements : List JavaStmt → PlainValue
  Variables : List JavaDeclarator → PlainValue
  LoopStart : JavaForStart → PlainValue
  Handlers : List JavaHandler → PlainValue
  -- the handlers of a `try`, and the statements behind `finally`
  Rescue : List JavaHandler → Option (List JavaStmt) → PlainValue
  -- whether `static` is among them, and the JML at them
  Modifiers : Bool → List PlainSpecBlock → PlainValue
  Number : ℕ → PlainValue
  Names : List PlainIdentifier → PlainValue
  Parameters : List JavaParameter → PlainValue
  Declared : PlainDeclared → PlainValue
  -- whether `[]` stands before a member's name, the name, and what stands behind it
  Declarator : Bool → PlainIdentifier → PlainDeclared → PlainValue
  -- what a member gives, its name, and what stands behind it
  Declaration : JavaResult → PlainIdentifier → PlainDeclared → PlainValue
  -- members, and the JML before the closing brace
  Body : List JavaMember → Option PlainSpecBlock → PlainValue
  Classes : List JavaClass → PlainValue
