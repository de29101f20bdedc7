-- The code that resolution makes of a body, and how its runs end.
use Rattle.std.specs.Prelude.{◌≡◌, ℕ, false, true, nat_eq, Some, List, [], ◌∷◌}
use Rattle.std.specs.List.{list_any}
use Rattle.jd_base.specs.declared.sort.Sort.TheVariants.{Ref as RefSort}
use Rattle.jd_syntax.specs.Names.{Name}
use Rattle.jd_syntax.specs.CodeNames.{is_special}
use Rattle.jd_syntax.specs.Codes.{Expr, IntLiteral, BoolLiteral, NullLiteral, Variable, Unary, Binary, AndAlso, OrElse, Conditional, ReadField, ReadElement, LengthOf, Cast, InstanceOf, VirtualCall, StaticCall, ConstructorCall, DoThen, Exprs, NoExprs, ExprThen, Stmt, Set, WriteField, WriteElement, Evaluate, If, While, Block, Break, Catch, Finally, Throw, ThrowUnchecked, Return, ReturnVoid, Frame, Raise, AllocObject, AllocArray, NewArray, Stop, PlainCode, Done, Then}
use Rattle.jd_heap.specs.References.{Reference, is_null}
use Rattle.jd_heap.specs.Heaps.{Heap}
use Rattle.jd_heap.specs.Values.{Value}
use Rattle.jd_model.specs.States.{State}
use Rattle.jd_model.specs.Programs.{Program, Body}
use Rattle.jd_model.specs.Outcomes.{Outcome, Normal, Broke, Returned, Thrown, Stopped, NoLength, NotEnded}
use Rattle.jd_model.specs.Runs.{exec_at}
use Rattle.jd_model.specs.WellFormedHeaps.{in_int}
use Rattle.jd_model.specs.Occurrences.{Always, MaybeIn, CodeIn, AllOf}
use Rattle.jd_model.specs.Bodies.{AllAssignNoHeap}
use Rattle.jd_model.specs.Cases.{Case, SpecifiedProgram}
use Rattle.jd_model.specs.KeptCases.{Entry, run_of}

-- no run of it is stopped, each array is made with the test of its length and each reference thrown with the test for null
-- (JLS 15.10.2, 14.18), but for what a `try` throws again; each literal is in range, and each `break` stands in a block of
-- its label. The labels are those of the blocks around
abbrev mutual
  pub IsResolvedExpr : Expr → Type 0
  IsResolvedExpr (IntLiteral z) = in_int z ≡ true
  IsResolvedExpr (BoolLiteral b) = Unit {0}
  IsResolvedExpr NullLiteral = Unit {0}
  IsResolvedExpr (Variable x) = Unit {0}
  IsResolvedExpr (Unary op a) = IsResolvedExpr a
  IsResolvedExpr (Binary op a b) = IsResolvedExpr a × IsResolvedExpr b
  IsResolvedExpr (AndAlso a b) = IsResolvedExpr a × IsResolvedExpr b
  IsResolvedExpr (OrElse a b) = IsResolvedExpr a × IsResolvedExpr b
  IsResolvedExpr (Conditional a b c) = IsResolvedExpr a × IsResolvedExpr b × IsResolvedExpr c
  IsResolvedExpr (ReadField a f) = IsResolvedExpr a
  IsResolvedExpr (ReadElement a i) = IsResolvedExpr a × IsResolvedExpr i
  IsResolvedExpr (LengthOf a) = IsResolvedExpr a
  IsResolvedExpr (Cast k a) = IsResolvedExpr a
  IsResolvedExpr (InstanceOf k a) = IsResolvedExpr a
  IsResolvedExpr (VirtualCall k m a bs) = IsResolvedExpr a × AreResolvedExprs bs
  IsResolvedExpr (StaticCall m bs) = AreResolvedExprs bs
  IsResolvedExpr (ConstructorCall c a bs) = IsResolvedExpr a × AreResolvedExprs bs
  IsResolvedExpr (DoThen c a) = IsResolvedCode [] c × IsResolvedExpr a

  pub AreResolvedExprs : Exprs → Type 0
  AreResolvedExprs NoExprs = Unit {0}
  AreResolvedExprs (ExprThen a bs) = IsResolvedExpr a × AreResolvedExprs bs

  pub IsResolvedStmt : List ℕ → Stmt → Type 0
  IsResolvedStmt labels (Set x a) = IsResolvedExpr a
  IsResolvedStmt labels (WriteField a f b) = IsResolvedExpr a × IsResolvedExpr b
  IsResolvedStmt labels (WriteElement a i b) = IsResolvedExpr a × IsResolvedExpr i × IsResolvedExpr b
  IsResolvedStmt labels (Evaluate a) = IsResolvedExpr a
  IsResolvedStmt labels (If a c d) = IsResolvedExpr a × IsResolvedCode labels c × IsResolvedCode labels d
  IsResolvedStmt labels (While k a c) = IsResolvedExpr a × IsResolvedCode labels c
  IsResolvedStmt labels (Block l c) = IsResolvedCode (l ∷ labels) c
  IsResolvedStmt labels (Break l) = list_any (nat_eq l) labels ≡ true
  IsResolvedStmt labels (Catch c x d) = IsResolvedCode labels c × (x.sort ≡ RefSort) × AreHandlers labels x d
  IsResolvedStmt labels (Finally c d) = IsResolvedCode labels c × IsResolvedCode labels d
  IsResolvedStmt labels (Throw a) = IsResolvedExpr a
  IsResolvedStmt labels (ThrowUnchecked a) = ⊥
  IsResolvedStmt labels (Return a) = IsResolvedExpr a
  IsResolvedStmt labels ReturnVoid = Unit {0}
  IsResolvedStmt labels (Frame r c) = IsResolvedCode labels c
  IsResolvedStmt labels (Raise c) = Unit {0}
  IsResolvedStmt labels (AllocObject x c) = Unit {0}
  IsResolvedStmt labels (AllocArray x a) = ⊥
  IsResolvedStmt labels (NewArray x a) = IsResolvedExpr a
  IsResolvedStmt labels Stop = ⊥

  pub IsResolvedCode : List ℕ → PlainCode → Type 0
  IsResolvedCode labels Done = Unit {0}
  IsResolvedCode labels (Then c cs) = IsResolvedStmt labels c × IsResolvedCode labels cs

  -- the handlers of a `try`, tried in order by their classes: what none of them takes is thrown again (JLS 14.20.1)
  pub AreHandlers : List ℕ → Name → PlainCode → Type 0
  AreHandlers labels x (Then (If (InstanceOf k (Variable y)) c d) Done) = (y ≡ x) × IsResolvedCode labels c × AreHandlers labels x d
  AreHandlers labels x (Then (ThrowUnchecked (Variable y)) Done) = y ≡ x
  AreHandlers labels x c = ⊥

-- a variable of the program itself, or a temporary
abbrev pub NotSpecial : Name → Type 0
NotSpecial x = is_special x ≡ false

pub record IsResolved (b : Body) : Type 0 where
  -- the code is as resolution makes it
  pub code : IsResolvedCode [] b.code
  -- and assigns no special variable; none is the receiver or a parameter
  pub assigned : CodeIn Always NotSpecial b.code
  pub receiver : MaybeIn Always NotSpecial b.receiver
  pub parameters : AllOf NotSpecial b.parameters

abbrev pub AllResolved : Program → Type 0
AllResolved p = (m : ℕ) (b : Body) → p.body m ≡ Some b → IsResolved b

-- the ends that a method's body may have (JLS 14.1, 14.15)
abbrev pub IsMethodEnd : Outcome (Unit {0}) → Type 0
IsMethodEnd (Normal u t) = Unit {0}
IsMethodEnd (Broke l t) = ⊥
IsMethodEnd (Returned v t) = Unit {0}
IsMethodEnd (Thrown r t) = is_null r ≡ false
IsMethodEnd (Stopped t) = ⊥
IsMethodEnd NoLength = Unit {0}
IsMethodEnd NotEnded = Unit {0}

-- no array was made of a length that is none
abbrev pub MeetsNoBadLength : Outcome (Unit {0}) → Type 0
MeetsNoBadLength NoLength = ⊥
MeetsNoBadLength o = Unit {0}

-- no run of a resolved body ends by `break`, by `stop` or by throwing null, and none from an entry state meets a bad length
pub record ResolvedBodiesEnd : Type 0 where
  pub as_methods : (p : Program) → AllResolved p → (m : ℕ) (b : Body) → p.body m ≡ Some b → (d n : ℕ) (s : State) → IsMethodEnd (exec_at p d n b.code s)
  pub with_lengths : (p : SpecifiedProgram) → AllResolved p.setting.program → (c : Case) (b : Body) → p.setting.program.body c.body ≡ Some b → (h : Heap) (r : Reference) (vs : List Value) → Entry p c h r vs → (d n : ℕ) → MeetsNoBadLength (run_of p b d n h r vs)

-- and none assigns the heap's variable
abbrev pub ResolvedBodiesAssignNoHeap : Type 0
ResolvedBodiesAssignNoHeap = (p : Program) → AllResolved p → AllAssignNoHeap p
