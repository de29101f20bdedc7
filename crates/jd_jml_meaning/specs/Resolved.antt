-- JML as resolution leaves it: what a name stands for is known, parameters stand by position, bound variables by their binder's
-- distance, and `==` of booleans is told from `==` of others (JML Reference Manual, 12; The KeY Book, 7.1 and 7.2).
use Rattle.std.specs.Prelude.{ℕ, Bool, ℤ}
use Rattle.jd_base.specs.declared.sort.Sort.{Sort}
use Rattle.jd_base.specs.declared.sort.Sort.TheVariants.{Int as IntSort, Bool as BoolSort, Ref as RefSort}
use Rattle.jd_syntax.specs.Names.{Name}
use Rattle.jd_syntax.specs.Codes.{PlainKind}
use Rattle.jd_term.specs.declared.term.ArithmeticOp.{ArithmeticOp}

-- what a bound variable ranges over: the 32-bit integers, all integers, the truth values, or the created instances
pub data QuantifiedType : Type 0 where
  OverInt OverBigint OverBoolean : QuantifiedType
  OverReference : PlainKind → QuantifiedType

abbrev pub sort_of_type : QuantifiedType → Sort
sort_of_type OverInt = IntSort
sort_of_type OverBigint = IntSort
sort_of_type OverBoolean = BoolSort
sort_of_type (OverReference k) = RefSort

pub data JmlExpr : Type 0 where
  -- what has a value
  IntegerLiteral : ℤ → JmlExpr
  BooleanLiteral : Bool → JmlExpr
  NullLiteral This Result Thrown : JmlExpr
  Argument : ℕ → JmlExpr
  Local : Name → JmlExpr
  BoundVariable : ℕ → Sort → JmlExpr
  FieldAccess : JmlExpr → ℕ → JmlExpr
  ElementAccess : JmlExpr → JmlExpr → JmlExpr
  LengthOf : JmlExpr → JmlExpr
  Arithmetic : ArithmeticOp → JmlExpr → JmlExpr → JmlExpr
  Minus Plus : JmlExpr → JmlExpr
  -- from one number up to another, the body alone below the binder
  Sum : (from to body : JmlExpr) → JmlExpr
  -- a value or a truth value
  Cast Old : JmlExpr → JmlExpr
  -- truth values: `==` and `!=` of numbers and of references, comparisons, connectives
  Equal Unequal Less LessOrEqual Greater GreaterOrEqual : JmlExpr → JmlExpr → JmlExpr
  Not : JmlExpr → JmlExpr
  And Or Implies Equivalent Inequivalent : JmlExpr → JmlExpr → JmlExpr
  Conditional : JmlExpr → JmlExpr → JmlExpr → JmlExpr
  InstanceOf : PlainKind → JmlExpr → JmlExpr
  Fresh InvariantFor : JmlExpr → JmlExpr
  Forall Exists : QuantifiedType → JmlExpr → JmlExpr
  ForallIn ExistsIn : QuantifiedType → (range body : JmlExpr) → JmlExpr

-- locations of an `assignable` clause (JML Reference Manual, 12.7)
pub data JmlLocation : Type 0 where
  Nothing Everything : JmlLocation
  FieldLocation : JmlExpr → ℕ → JmlLocation
  AllFields : JmlExpr → JmlLocation
  Element : JmlExpr → JmlExpr → JmlLocation
  Elements : JmlExpr → (from to : JmlExpr) → JmlLocation
  AllElements : JmlExpr → JmlLocation
