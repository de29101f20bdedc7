-- What is specified of a program: contracts in cases, and invariants (JML Reference Manual, 8.2 and 9).
-- A clause is kept as the formula that it stands for, of `#hpre`, `#r_this`, the parameters' constants, `@heap`, the result's
-- variable and `@rexc`; its meaning is that formula's truth.
use Rattle.std.specs.Prelude.{ℕ, Bool, Option, List}
use Rattle.jd_syntax.specs.Names.{Name}
use Rattle.jd_term.specs.Terms.{PlainTerm, PlainLoc}
use Rattle.jd_term.specs.Formulas.{PlainFormula}
use Rattle.jd_model.specs.Programs.{ValueType}
use Rattle.jd_model.specs.Truth.{Setting}

-- a declared type, with its mark
pub record DeclaredType : Type 0 where
  pub type : ValueType
  pub nullable : Bool

-- a parameter: the constant that names its value in clauses, and its type
pub record Parameter : Type 0 where
  pub constant : Name
  pub declared : DeclaredType

-- static, an instance method, one that is marked `helper`, or a constructor of the class
pub data Role : Type 0 where
  Static Ordinary Helper : Role
  ConstructorOf : ℕ → Role

-- the behaviour word of a case
pub data Behaviour : Type 0 where
  AnyEnd NormalOnly ExceptionalOnly : Behaviour

-- one case of a contract: the same for each class that has it
pub record Contract : Type 0 where
  pub role : Role
  pub parameters : List Parameter
  pub result : Option DeclaredType
  pub behaviour : Behaviour
  pub requires_ : List PlainFormula
  pub ensures_ : List PlainFormula
  -- an exception's class, and what then holds
  pub signals : List (ℕ × PlainFormula)
  -- each clause the classes that it allows
  pub signals_only : List (List ℕ)
  pub assignable : PlainLoc
  pub measure : PlainTerm
  pub diverges : Bool

-- a case for objects of exactly this class, with the body that then runs and the family of the method
pub record Case : Type 0 where
  pub contract : Contract
  pub class : ℕ
  pub method : ℕ
  pub number : ℕ
  pub body : ℕ
  pub family : ℕ

-- a program with what is specified of it; each family of methods reaches the families that its bodies call, itself, and
-- what these reach
pub record SpecifiedProgram : Type 0 where
  pub setting : Setting
  pub case : ℕ → Option Case
  pub families : ℕ
  pub reaches : ℕ → ℕ → Bool
