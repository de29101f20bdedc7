-- Patterns of rules: trees in which schema variables stand for parts (The KeY Book, 4.2.2: schematic expressions). Each kind of
-- tree has one type of patterns, whose forms are those that the rows of rules use, named like the forms of the tree.
use Rattle.std.specs.Prelude.{ℕ, List}
use Rattle.jd_base.specs.declared.sort.Sort.{Sort}
use Rattle.jd_syntax.specs.Names.{Name}
use Rattle.jd_syntax.specs.Codes.{PlainKind}
use Rattle.jd_syntax.specs.declared.code.UnaryOp.{UnaryOp}
use Rattle.jd_syntax.specs.declared.code.BinaryOp.{BinaryOp}
use Rattle.jd_term.specs.Terms.{PlainTerm}
use Rattle.jd_term.specs.declared.term.ArithmeticOp.{ArithmeticOp}
use Rattle.jd_term.specs.declared.formula.Modality.{Modality}

-- the name of a schema variable; each kind of variable has names of its own
abbrev pub SchemaVar : Type 0
SchemaVar = List ℕ

-- ---- a variable, or what is given

pub data SortPattern : Type 0 where
  SortVar : SchemaVar → SortPattern
  SortIs : Sort → SortPattern

-- a class or `int[]`
pub data KindPattern : Type 0 where
  KindVar : SchemaVar → KindPattern
  KindIs : PlainKind → KindPattern

pub data ModalityPattern : Type 0 where
  ModalityVar : SchemaVar → ModalityPattern
  ModalityIs : Modality → ModalityPattern

-- a program variable or a constant
pub data NamePattern : Type 0 where
  NameVar : SchemaVar → NamePattern
  NameIs : Name → NamePattern

-- the variable that takes a frame's result: none, some, or either
pub data ResultPattern : Type 0 where
  NoResult : ResultPattern
  ResultIn : NamePattern → ResultPattern
  ResultVar : SchemaVar → ResultPattern

-- the classes of what the machine throws (JLS 11.1.1)
pub data MachineClass : Type 0 where
  NullPointer DivisionByZero OutOfBounds BadCast NegativeSize : MachineClass

pub data ClassPattern : Type 0 where
  ClassVar : SchemaVar → ClassPattern
  ClassOf : MachineClass → ClassPattern

-- ---- code

pub data ExprPattern : Type 0 where
  -- any simple expression, and one of a sort
  Simple : SchemaVar → ExprPattern
  SimpleAt : Sort → SchemaVar → ExprPattern
  Variable : NamePattern → ExprPattern
  Unary : UnaryOp → ExprPattern → ExprPattern
  Binary : BinaryOp → ExprPattern → ExprPattern → ExprPattern
  ReadField : ExprPattern → SchemaVar → ExprPattern
  ReadElement : ExprPattern → ExprPattern → ExprPattern
  LengthOf : ExprPattern → ExprPattern
  Cast InstanceOf : KindPattern → ExprPattern → ExprPattern

mutual
  pub data StmtPattern : Type 0 where
    -- a `return` of a simple expression or of no value
    ReturnVar : SchemaVar → StmtPattern
    Set : NamePattern → ExprPattern → StmtPattern
    WriteField : ExprPattern → SchemaVar → ExprPattern → StmtPattern
    WriteElement : ExprPattern → ExprPattern → ExprPattern → StmtPattern
    Evaluate : ExprPattern → StmtPattern
    If : ExprPattern → CodePattern → CodePattern → StmtPattern
    Block : SchemaVar → CodePattern → StmtPattern
    -- a block whose first statement breaks to another label than the block's
    BlockPast : SchemaVar → SchemaVar → CodePattern → StmtPattern
    Break : SchemaVar → StmtPattern
    Catch : CodePattern → NamePattern → CodePattern → StmtPattern
    Finally : CodePattern → CodePattern → StmtPattern
    Throw ThrowUnchecked Return : ExprPattern → StmtPattern
    ReturnVoid : StmtPattern
    Frame : ResultPattern → CodePattern → StmtPattern
    Raise : ClassPattern → StmtPattern
    AllocObject : NamePattern → ClassPattern → StmtPattern
    AllocArray NewArray : NamePattern → ExprPattern → StmtPattern
    Stop : StmtPattern

  pub data CodePattern : Type 0 where
    Done : CodePattern
    Then : StmtPattern → CodePattern → CodePattern
    -- the statements that the variable stands for, and what is behind them: in a find nothing is, so they are the rest
    CodeThen : SchemaVar → CodePattern → CodePattern

-- ---- terms and locations

-- the forms with one part
pub data UnaryTerm : Type 0 where
  NegationOf WrapOf LengthOfArray ElementOf : UnaryTerm

pub data UnaryLoc : Type 0 where
  FieldsOf ElementsOf : UnaryLoc

mutual
  pub data TermPattern : Type 0 where
    -- any term, one of a sort, any number, any field with a name
    AnyTerm : SchemaVar → TermPattern
    TermOf : Sort → SchemaVar → TermPattern
    LiteralVar : SchemaVar → TermPattern
    FieldVar : SchemaVar → TermPattern
    -- the term with this one for the index 0; the term below one more binder
    Put : SchemaVar → TermPattern → TermPattern
    Lifted : SchemaVar → TermPattern
    -- a simple expression as a term
    OfSimple : SchemaVar → TermPattern
    ProgramVariable Constant : NamePattern → TermPattern
    -- this very term: a literal, null, an index or `created`
    Given : PlainTerm → TermPattern
    OnePart : UnaryTerm → TermPattern → TermPattern
    Arithmetic : ArithmeticOp → TermPattern → TermPattern → TermPattern
    Select : SortPattern → TermPattern → TermPattern → TermPattern → TermPattern
    Sum : TermPattern → TermPattern → TermPattern → TermPattern
    Store : TermPattern → TermPattern → TermPattern → TermPattern → TermPattern
    Create : TermPattern → TermPattern → TermPattern
    Anon : TermPattern → LocPattern → TermPattern → TermPattern

  pub data LocPattern : Type 0 where
    LocVar : SchemaVar → LocPattern
    LiftedLoc : SchemaVar → LocPattern
    NoLocations AllLocations : LocPattern
    OfObject : UnaryLoc → TermPattern → LocPattern
    Single : TermPattern → TermPattern → LocPattern
    ElementRange : TermPattern → TermPattern → TermPattern → LocPattern
    Union : LocPattern → LocPattern → LocPattern

-- ---- formulas

pub data Connective : Type 0 where
  AndOf OrOf ImpliesOf IffOf : Connective

pub data Comparison : Type 0 where
  EqualOf LessOf LessOrEqualOf InvariantOf : Comparison

pub data Quantifier : Type 0 where
  ForallOf ExistsOf : Quantifier

pub data TermTest : Type 0 where
  InIntOf WellFormedOf : TermTest

pub data KindTest : Type 0 where
  InstanceTest ExactTest : KindTest

pub data FormulaPattern : Type 0 where
  FormulaVar : SchemaVar → FormulaPattern
  -- the formula with this term for the index 0; the formula below one more binder
  PutIn : SchemaVar → TermPattern → FormulaPattern
  LiftedFormula : SchemaVar → FormulaPattern
  TrueFormula FalseFormula : FormulaPattern
  Not : FormulaPattern → FormulaPattern
  Connected : Connective → FormulaPattern → FormulaPattern → FormulaPattern
  Compared : Comparison → TermPattern → TermPattern → FormulaPattern
  Quantified : Quantifier → SortPattern → FormulaPattern → FormulaPattern
  Updated : NamePattern → TermPattern → FormulaPattern → FormulaPattern
  -- a modality whose code is a context with these statements at its focus; the modality and the context are variables
  Focus : SchemaVar → SchemaVar → CodePattern → FormulaPattern → FormulaPattern
  -- a modality over just this code
  Modal : ModalityPattern → CodePattern → FormulaPattern → FormulaPattern
  InLocations : TermPattern → TermPattern → LocPattern → FormulaPattern
  Tested : TermTest → TermPattern → FormulaPattern
  Classed : KindTest → KindPattern → TermPattern → FormulaPattern
