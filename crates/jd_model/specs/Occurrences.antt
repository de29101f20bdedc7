-- That each name of a code, a term or a formula has a property. The variables and the constants have one each.
use Rattle.std.specs.Prelude.{◌≡◌, Bool, true, false, cond, Option, Some, None, List, [], ◌∷◌}
use Rattle.jd_model.specs.Contexts.{Context, Here, InBlock, InFrame, InCatch, InFinally}
use Rattle.jd_syntax.specs.CodeNames.{same_name, heap_name}
use Rattle.jd_syntax.specs.Codes.{Expr, IntLiteral, BoolLiteral, NullLiteral, Variable, Unary, Binary, AndAlso, OrElse, Conditional, ReadField, ReadElement, LengthOf, Cast, InstanceOf, VirtualCall, StaticCall, ConstructorCall, DoThen, Exprs, NoExprs, ExprThen, Stmt, Set, WriteField, WriteElement, Evaluate, If, While, Block, Break, Catch, Finally, Throw, ThrowUnchecked, Return, ReturnVoid, Frame, Raise, AllocObject, AllocArray, NewArray, Stop, PlainCode, Done, Then}
use Rattle.jd_syntax.specs.Names.{Name}
use Rattle.jd_term.specs.Formulas.{Pairs, PlainFormula, TrueFormula, FalseFormula, Not, And, Or, Implies, Iff, Equal, Less, LessOrEqual, Forall, Exists, Updated, Modal, InLocations, InInt, WellFormed, Invariant, IsInstance, IsExactInstance}
use Rattle.jd_term.specs.Terms.{PlainTerm, Number, Boolean, NullTerm, ProgramVariable, Constant, Bound, Arithmetic, Negation, Wrap, Length, Select, Sum, Store, Create, Anon, NamedField, CreatedField, ElementField, PlainLoc, NoLocations, AllLocations, Single, ObjectFields, ArrayElements, ElementRange, Union}

-- the variables that are read have the first property, those that are written the second
module _ (P Q : Name → Type 0) where
  abbrev pub MaybeIn : Option Name → Type 0
  MaybeIn None = Unit {0}
  MaybeIn (Some x) = Q x

  abbrev mutual
    pub ExprIn : Expr → Type 0
    ExprIn (IntLiteral z) = Unit {0}
    ExprIn (BoolLiteral b) = Unit {0}
    ExprIn NullLiteral = Unit {0}
    ExprIn (Variable x) = P x
    ExprIn (Unary op a) = ExprIn a
    ExprIn (Binary op a b) = ExprIn a × ExprIn b
    ExprIn (AndAlso a b) = ExprIn a × ExprIn b
    ExprIn (OrElse a b) = ExprIn a × ExprIn b
    ExprIn (Conditional a b c) = ExprIn a × ExprIn b × ExprIn c
    ExprIn (ReadField a f) = ExprIn a
    ExprIn (ReadElement a i) = ExprIn a × ExprIn i
    ExprIn (LengthOf a) = ExprIn a
    ExprIn (Cast k a) = ExprIn a
    ExprIn (InstanceOf k a) = ExprIn a
    ExprIn (VirtualCall k m a bs) = ExprIn a × ExprsIn bs
    ExprIn (StaticCall m bs) = ExprsIn bs
    ExprIn (ConstructorCall c a bs) = ExprIn a × ExprsIn bs
    ExprIn (DoThen c a) = CodeIn c × ExprIn a

    pub ExprsIn : Exprs → Type 0
    ExprsIn NoExprs = Unit {0}
    ExprsIn (ExprThen a bs) = ExprIn a × ExprsIn bs

    pub StmtIn : Stmt → Type 0
    StmtIn (Set x a) = Q x × ExprIn a
    StmtIn (WriteField a f b) = ExprIn a × ExprIn b
    StmtIn (WriteElement a i b) = ExprIn a × ExprIn i × ExprIn b
    StmtIn (Evaluate a) = ExprIn a
    StmtIn (If a c d) = ExprIn a × CodeIn c × CodeIn d
    StmtIn (While k a c) = ExprIn a × CodeIn c
    StmtIn (Block l c) = CodeIn c
    StmtIn (Break l) = Unit {0}
    StmtIn (Catch c x d) = CodeIn c × Q x × CodeIn d
    StmtIn (Finally c d) = CodeIn c × CodeIn d
    StmtIn (Throw a) = ExprIn a
    StmtIn (ThrowUnchecked a) = ExprIn a
    StmtIn (Return a) = ExprIn a
    StmtIn ReturnVoid = Unit {0}
    StmtIn (Frame r c) = MaybeIn r × CodeIn c
    StmtIn (Raise c) = Unit {0}
    StmtIn (AllocObject x c) = Q x
    StmtIn (AllocArray x a) = Q x × ExprIn a
    StmtIn (NewArray x a) = Q x × ExprIn a
    StmtIn Stop = Unit {0}

    pub CodeIn : PlainCode → Type 0
    CodeIn Done = Unit {0}
    CodeIn (Then c cs) = StmtIn c × CodeIn cs

-- all code but the empty one sees the heap
abbrev pub HeapIn : (Name → Type 0) → PlainCode → Type 0
HeapIn P Done = Unit {0}
HeapIn P (Then s c) = P heap_name

module _ (P Q : Name → Type 0) where
  abbrev mutual
    pub TermIn : PlainTerm → Type 0
    TermIn (Number z) = Unit {0}
    TermIn (Boolean x) = Unit {0}
    TermIn NullTerm = Unit {0}
    TermIn (ProgramVariable x) = P x
    TermIn (Constant c) = Q c
    TermIn (Bound k s) = Unit {0}
    TermIn (Arithmetic op t u) = TermIn t × TermIn u
    TermIn (Negation t) = TermIn t
    TermIn (Wrap t) = TermIn t
    TermIn (Length t) = TermIn t
    TermIn (Select s h o f) = TermIn h × TermIn o × TermIn f
    TermIn (Sum t u a) = TermIn t × TermIn u × TermIn a
    TermIn (Store h o f t) = TermIn h × TermIn o × TermIn f × TermIn t
    TermIn (Create h o) = TermIn h × TermIn o
    TermIn (Anon h l g) = TermIn h × LocIn l × TermIn g
    TermIn (NamedField f) = Unit {0}
    TermIn CreatedField = Unit {0}
    TermIn (ElementField t) = TermIn t

    pub LocIn : PlainLoc → Type 0
    LocIn NoLocations = Unit {0}
    LocIn AllLocations = Unit {0}
    LocIn (Single o f) = TermIn o × TermIn f
    LocIn (ObjectFields o) = TermIn o
    LocIn (ArrayElements o) = TermIn o
    LocIn (ElementRange o t u) = TermIn o × TermIn t × TermIn u
    LocIn (Union l m) = LocIn l × LocIn m

  abbrev pub PairsIn : Pairs → Type 0
  PairsIn [] = Unit {0}
  PairsIn (e ∷ u) = TermIn e.1 × PairsIn u

  abbrev pub FormulaIn : PlainFormula → Type 0
  FormulaIn TrueFormula = Unit {0}
  FormulaIn FalseFormula = Unit {0}
  FormulaIn (Not a) = FormulaIn a
  FormulaIn (And a c) = FormulaIn a × FormulaIn c
  FormulaIn (Or a c) = FormulaIn a × FormulaIn c
  FormulaIn (Implies a c) = FormulaIn a × FormulaIn c
  FormulaIn (Iff a c) = FormulaIn a × FormulaIn c
  FormulaIn (Equal t u) = TermIn t × TermIn u
  FormulaIn (Less t u) = TermIn t × TermIn u
  FormulaIn (LessOrEqual t u) = TermIn t × TermIn u
  FormulaIn (Forall k a) = FormulaIn a
  FormulaIn (Exists k a) = FormulaIn a
  FormulaIn (Updated u a) = PairsIn u × FormulaIn a
  FormulaIn (Modal m c a) = (CodeIn P P c × HeapIn P c) × FormulaIn a
  FormulaIn (InLocations o f l) = TermIn o × TermIn f × LocIn l
  FormulaIn (InInt t) = TermIn t
  FormulaIn (WellFormed h) = TermIn h
  FormulaIn (Invariant h o) = TermIn h × TermIn o
  FormulaIn (IsInstance k o) = TermIn o
  FormulaIn (IsExactInstance k o) = TermIn o

-- ---- properties of names

-- every name, and each name but v
abbrev pub Always : Name → Type 0
Always x = Unit {0}

abbrev pub But : Name → Name → Type 0
But v x = same_name v x ≡ false

abbrev pub Other : Name → Name → Type 0
Other v x = same_name x v ≡ false

-- a name is none of these
abbrev pub NotIn : Name → List Name → Type 0
NotIn x [] = Unit {0}
NotIn x (y ∷ ys) = (same_name x y ≡ false) × NotIn x ys

-- whether a name is one of these
abbrev pub member : Name → List Name → Bool
member x [] = false
member x (y ∷ ys) = cond (same_name x y) true (member x ys)

-- no two of these are the same
abbrev pub AllApart : List Name → Type 0
AllApart [] = Unit {0}
AllApart (x ∷ xs) = NotIn x xs × AllApart xs

abbrev pub AllOf : (Name → Type 0) → List Name → Type 0
AllOf P [] = Unit {0}
AllOf P (x ∷ xs) = P x × AllOf P xs

-- ---- each formula of a list, and each update

abbrev pub FormulasIn : (Name → Type 0) → (Name → Type 0) → List PlainFormula → Type 0
FormulasIn P Q [] = Unit {0}
FormulasIn P Q (a ∷ l) = FormulaIn P Q a × FormulasIn P Q l

abbrev pub UpdatesIn : (Name → Type 0) → (Name → Type 0) → List Pairs → Type 0
UpdatesIn P Q [] = Unit {0}
UpdatesIn P Q (u ∷ us) = PairsIn P Q u × UpdatesIn P Q us

-- what a context reads and writes has these properties
abbrev pub ContextIn : (Name → Type 0) → (Name → Type 0) → Context → Type 0
ContextIn P Q (Here rest) = CodeIn P Q rest
ContextIn P Q (InBlock l k rest) = ContextIn P Q k × CodeIn P Q rest
ContextIn P Q (InFrame r k rest) = MaybeIn P Q r × ContextIn P Q k × CodeIn P Q rest
ContextIn P Q (InCatch k x h rest) = ContextIn P Q k × Q x × CodeIn P Q h × CodeIn P Q rest
ContextIn P Q (InFinally k f rest) = ContextIn P Q k × CodeIn P Q f × CodeIn P Q rest
