-- Instantiations, and what a pattern means under one (The KeY Book, 4.2.3).
use Rattle.std.specs.Prelude.{ℕ, ℤ, Bool, true, false, Option, Some, None, [], ◌∷◌}
use Rattle.jd_base.specs.declared.sort.Sort.{Sort}
use Rattle.jd_base.specs.declared.sort.Sort.TheVariants.{Int as IntSort, Bool as BoolSort, Ref as RefSort}
use Rattle.jd_syntax.specs.Names.{Name}
use Rattle.jd_syntax.specs.CodeNames.{same_sort}
use Rattle.jd_syntax.specs.Codes.{PlainKind, Expr, IntLiteral, BoolLiteral, NullLiteral, Variable, Unary, Binary, ReadField, ReadElement, LengthOf, Cast, InstanceOf, Stmt, Set, WriteField, WriteElement, Evaluate, If, Block, Break, Catch, Finally, Throw, ThrowUnchecked, Return, ReturnVoid, Frame, Raise, AllocObject, AllocArray, NewArray, Stop, PlainCode, Done, Then}
use Rattle.jd_term.specs.Terms.{PlainTerm, Number, ProgramVariable, Constant, Arithmetic, Negation, Wrap, Length, Select, Sum, Store, Create, Anon, NamedField, ElementField, PlainLoc, NoLocations, AllLocations, Single, ObjectFields, ArrayElements, ElementRange, Union}
use Rattle.jd_term.specs.Formulas.{PlainFormula, TrueFormula, FalseFormula, Not, And, Or, Implies, Iff, Equal, Less, LessOrEqual, Forall, Exists, Updated, Modal, InLocations, InInt, WellFormed, Invariant, IsInstance, IsExactInstance}
use Rattle.jd_term.specs.declared.formula.Modality.{Modality}
use Rattle.jd_term.specs.Shifts.{term_shift, loc_shift, formula_shift}
use Rattle.jd_term.specs.Substitutions.{term_subst, formula_subst}
use Rattle.jd_model.specs.Contexts.{Context, fill, chain}
use Rattle.jd_model.specs.Programs.{Program}
use Rattle.jd_model.specs.SimpleExpressions.{term_of}
use Rattle.jd_patterns.specs.Patterns as pattern
use Rattle.jd_patterns.specs.Patterns.{SchemaVar, SortPattern, SortVar, SortIs, KindPattern, KindVar, KindIs, ModalityPattern, ModalityVar, ModalityIs, NamePattern, NameVar, NameIs, ResultPattern, NoResult, ResultIn, ResultVar, MachineClass, NullPointer, DivisionByZero, OutOfBounds, BadCast, NegativeSize, ClassPattern, ClassVar, ClassOf, ExprPattern, StmtPattern, CodePattern, UnaryTerm, NegationOf, WrapOf, LengthOfArray, ElementOf, UnaryLoc, FieldsOf, ElementsOf, TermPattern, LocPattern, Connective, AndOf, OrOf, ImpliesOf, IffOf, Comparison, EqualOf, LessOf, LessOrEqualOf, InvariantOf, Quantifier, ForallOf, ExistsOf, TermTest, InIntOf, WellFormedOf, KindTest, InstanceTest, ExactTest, FormulaPattern}

-- what each schema variable stands for, by kind and name; classes, fields and labels are numbers
pub record Instance : Type 0 where
  pub formula : SchemaVar → PlainFormula
  pub term : SchemaVar → PlainTerm
  pub literal : SchemaVar → ℤ
  pub locations : SchemaVar → PlainLoc
  pub kind : SchemaVar → PlainKind
  pub sort : SchemaVar → Sort
  pub name : SchemaVar → Name
  pub result : SchemaVar → Option Name
  pub field : SchemaVar → ℕ
  pub class : SchemaVar → ℕ
  pub label : SchemaVar → ℕ
  pub code : SchemaVar → PlainCode
  pub returned : SchemaVar → Stmt
  pub simple : SchemaVar → Expr
  pub modality : SchemaVar → Modality
  pub context : SchemaVar → Context

-- ---- the forms with equally many parts

abbrev pub one_part : UnaryTerm → PlainTerm → PlainTerm
one_part NegationOf t = Negation t
one_part WrapOf t = Wrap t
one_part LengthOfArray t = Length t
one_part ElementOf t = ElementField t

abbrev pub of_object : UnaryLoc → PlainTerm → PlainLoc
of_object FieldsOf o = ObjectFields o
of_object ElementsOf o = ArrayElements o

abbrev pub connected : Connective → PlainFormula → PlainFormula → PlainFormula
connected AndOf a c = And a c
connected OrOf a c = Or a c
connected ImpliesOf a c = Implies a c
connected IffOf a c = Iff a c

abbrev pub compared : Comparison → PlainTerm → PlainTerm → PlainFormula
compared EqualOf t u = Equal t u
compared LessOf t u = Less t u
compared LessOrEqualOf t u = LessOrEqual t u
compared InvariantOf t u = Invariant t u

abbrev pub quantified : Quantifier → Sort → PlainFormula → PlainFormula
quantified ForallOf s a = Forall s a
quantified ExistsOf s a = Exists s a

abbrev pub tested : TermTest → PlainTerm → PlainFormula
tested InIntOf t = InInt t
tested WellFormedOf t = WellFormed t

abbrev pub classed : KindTest → PlainKind → PlainTerm → PlainFormula
classed InstanceTest k o = IsInstance k o
classed ExactTest k o = IsExactInstance k o

-- ---- what variables of some forms may stand for

abbrev pub is_simple : Expr → Bool
is_simple (IntLiteral z) = true
is_simple (BoolLiteral b) = true
is_simple NullLiteral = true
is_simple (Variable x) = true
is_simple e = false

abbrev pub is_simple_of : Sort → Expr → Bool
is_simple_of s (IntLiteral z) = same_sort s IntSort
is_simple_of s (BoolLiteral b) = same_sort s BoolSort
is_simple_of s NullLiteral = same_sort s RefSort
is_simple_of s (Variable x) = same_sort s x.sort
is_simple_of s e = false

-- a `return` of a simple expression or of no value
abbrev pub is_return : Stmt → Bool
is_return (Return e) = is_simple e
is_return ReturnVoid = true
is_return s = false

-- ---- the meaning

module _ (p : Program) (σ : Instance) where
  abbrev pub of_sort : SortPattern → Sort
  of_sort (SortVar n) = σ.sort n
  of_sort (SortIs s) = s

  abbrev pub of_kind : KindPattern → PlainKind
  of_kind (KindVar n) = σ.kind n
  of_kind (KindIs k) = k

  abbrev pub of_modality : ModalityPattern → Modality
  of_modality (ModalityVar n) = σ.modality n
  of_modality (ModalityIs m) = m

  abbrev pub of_name : NamePattern → Name
  of_name (NameVar n) = σ.name n
  of_name (NameIs x) = x

  abbrev pub of_result : ResultPattern → Option Name
  of_result NoResult = None
  of_result (ResultIn x) = Some (of_name x)
  of_result (ResultVar n) = σ.result n

  abbrev pub of_class : ClassPattern → ℕ
  of_class (ClassVar n) = σ.class n
  of_class (ClassOf NullPointer) = p.null_pointer
  of_class (ClassOf DivisionByZero) = p.arithmetic
  of_class (ClassOf OutOfBounds) = p.bounds
  of_class (ClassOf BadCast) = p.cast
  of_class (ClassOf NegativeSize) = p.negative_size

  abbrev pub of_expr : ExprPattern → Expr
  of_expr (pattern.Simple n) = σ.simple n
  of_expr (pattern.SimpleAt s n) = σ.simple n
  of_expr (pattern.Variable x) = Variable (of_name x)
  of_expr (pattern.Unary op e) = Unary op (of_expr e)
  of_expr (pattern.Binary op e f) = Binary op (of_expr e) (of_expr f)
  of_expr (pattern.ReadField e n) = ReadField (of_expr e) (σ.field n)
  of_expr (pattern.ReadElement e f) = ReadElement (of_expr e) (of_expr f)
  of_expr (pattern.LengthOf e) = LengthOf (of_expr e)
  of_expr (pattern.Cast k e) = Cast (of_kind k) (of_expr e)
  of_expr (pattern.InstanceOf k e) = InstanceOf (of_kind k) (of_expr e)

  abbrev mutual
    pub of_stmt : StmtPattern → Stmt
    of_stmt (pattern.ReturnVar n) = σ.returned n
    of_stmt (pattern.Set x e) = Set (of_name x) (of_expr e)
    of_stmt (pattern.WriteField e n f) = WriteField (of_expr e) (σ.field n) (of_expr f)
    of_stmt (pattern.WriteElement e f g) = WriteElement (of_expr e) (of_expr f) (of_expr g)
    of_stmt (pattern.Evaluate e) = Evaluate (of_expr e)
    of_stmt (pattern.If e c d) = If (of_expr e) (of_code c) (of_code d)
    of_stmt (pattern.Block n c) = Block (σ.label n) (of_code c)
    of_stmt (pattern.BlockPast n m c) = Block (σ.label n) (Then (Break (σ.label m)) (of_code c))
    of_stmt (pattern.Break n) = Break (σ.label n)
    of_stmt (pattern.Catch c x d) = Catch (of_code c) (of_name x) (of_code d)
    of_stmt (pattern.Finally c d) = Finally (of_code c) (of_code d)
    of_stmt (pattern.Throw e) = Throw (of_expr e)
    of_stmt (pattern.ThrowUnchecked e) = ThrowUnchecked (of_expr e)
    of_stmt (pattern.Return e) = Return (of_expr e)
    of_stmt pattern.ReturnVoid = ReturnVoid
    of_stmt (pattern.Frame r c) = Frame (of_result r) (of_code c)
    of_stmt (pattern.Raise c) = Raise (of_class c)
    of_stmt (pattern.AllocObject x c) = AllocObject (of_name x) (of_class c)
    of_stmt (pattern.AllocArray x e) = AllocArray (of_name x) (of_expr e)
    of_stmt (pattern.NewArray x e) = NewArray (of_name x) (of_expr e)
    of_stmt pattern.Stop = Stop

    pub of_code : CodePattern → PlainCode
    of_code pattern.Done = Done
    of_code (pattern.Then s c) = Then (of_stmt s) (of_code c)
    of_code (pattern.CodeThen n pattern.Done) = σ.code n
    of_code (pattern.CodeThen n c) = chain (σ.code n) (of_code c)

  abbrev mutual
    pub of_term : TermPattern → PlainTerm
    of_term (pattern.AnyTerm n) = σ.term n
    of_term (pattern.TermOf s n) = σ.term n
    of_term (pattern.LiteralVar n) = Number (σ.literal n)
    of_term (pattern.FieldVar n) = NamedField (σ.field n)
    of_term (pattern.Put n t) = term_subst 0 0 (of_term t) (σ.term n)
    of_term (pattern.Lifted n) = term_shift 0 1 (σ.term n)
    of_term (pattern.OfSimple n) = term_of (σ.simple n)
    of_term (pattern.ProgramVariable x) = ProgramVariable (of_name x)
    of_term (pattern.Constant x) = Constant (of_name x)
    of_term (pattern.Given t) = t
    of_term (pattern.OnePart h t) = one_part h (of_term t)
    of_term (pattern.Arithmetic op t u) = Arithmetic op (of_term t) (of_term u)
    of_term (pattern.Select s h o f) = Select (of_sort s) (of_term h) (of_term o) (of_term f)
    of_term (pattern.Sum t u v) = Sum (of_term t) (of_term u) (of_term v)
    of_term (pattern.Store h o f t) = Store (of_term h) (of_term o) (of_term f) (of_term t)
    of_term (pattern.Create h o) = Create (of_term h) (of_term o)
    of_term (pattern.Anon h l g) = Anon (of_term h) (of_loc l) (of_term g)

    pub of_loc : LocPattern → PlainLoc
    of_loc (pattern.LocVar n) = σ.locations n
    of_loc (pattern.LiftedLoc n) = loc_shift 0 1 (σ.locations n)
    of_loc pattern.NoLocations = NoLocations
    of_loc pattern.AllLocations = AllLocations
    of_loc (pattern.OfObject h o) = of_object h (of_term o)
    of_loc (pattern.Single o f) = Single (of_term o) (of_term f)
    of_loc (pattern.ElementRange o t u) = ElementRange (of_term o) (of_term t) (of_term u)
    of_loc (pattern.Union l m) = Union (of_loc l) (of_loc m)

  abbrev pub of_formula : FormulaPattern → PlainFormula
  of_formula (pattern.FormulaVar n) = σ.formula n
  of_formula (pattern.PutIn n t) = formula_subst 0 0 (of_term t) (σ.formula n)
  of_formula (pattern.LiftedFormula n) = formula_shift 0 1 (σ.formula n)
  of_formula pattern.TrueFormula = TrueFormula
  of_formula pattern.FalseFormula = FalseFormula
  of_formula (pattern.Not a) = Not (of_formula a)
  of_formula (pattern.Connected h a c) = connected h (of_formula a) (of_formula c)
  of_formula (pattern.Compared h t u) = compared h (of_term t) (of_term u)
  of_formula (pattern.Quantified h s a) = quantified h (of_sort s) (of_formula a)
  of_formula (pattern.Updated x t a) = Updated ((of_name x, of_term t) ∷ []) (of_formula a)
  of_formula (pattern.Focus m k c a) = Modal (σ.modality m) (fill (σ.context k) (of_code c)) (of_formula a)
  of_formula (pattern.Modal m c a) = Modal (of_modality m) (of_code c) (of_formula a)
  of_formula (pattern.InLocations o f l) = InLocations (of_term o) (of_term f) (of_loc l)
  of_formula (pattern.Tested h t) = tested h (of_term t)
  of_formula (pattern.Classed h k o) = classed h (of_kind k) (of_term o)
