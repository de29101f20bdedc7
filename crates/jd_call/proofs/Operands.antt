-- The operands of a call whose names stand in a sequent are none of the step's new names, and not the heap.
use Rattle.std.proofs.Common.{Bool, List, None, Option, Some, ap, false, refl, true, ◌≡◌, ◌∷◌, ◌∙◌, ℕ, []}
use Rattle.jd_base.specs.declared.sort.Sort.{Sort}
use Rattle.jd_base.specs.declared.sort.Sort.TheVariants.{Bool as BoolSort, Field as FieldSort, Heap as HeapSort, Int as IntSort, Ref as RefSort}
use Rattle.jd_call.proofs.Calls.{AllSimple, TargetSimple, receiver_term}
use Rattle.jd_call.proofs.Sites.{ArgumentsOk, Operand, OperandIn, TargetOk}
use Rattle.jd_call.proofs.Use.{OldVariable}
use Rattle.jd_call.specs.Calls.{ConstructorTarget, OperandsAreSimple, ReceiverIsSimple, StaticTarget, Target, VirtualTarget, call_of, call_stmt, target_kind}
use Rattle.jd_task_classes.specs.Methods.{IsKindOf}
use Rattle.jd_heap.specs.Values.{IsOf}
use Rattle.jd_model.proofs.SimpleExpressions.{simple_of, value_of_simple}
use Rattle.jd_model.proofs.Writes.{apart_by, flip_apart}
use Rattle.jd_model.specs.Cases.{ConstructorOf, Helper, Ordinary, Parameter, Role, Static}
use Rattle.jd_model.specs.Contexts.{one}
use Rattle.jd_model.specs.Occurrences.{CodeIn, ExprIn, ExprsIn}
use Rattle.jd_model.specs.Programs.{BooleanType, IntType, ReferenceType, ValueType, type_sort}
use Rattle.jd_model.specs.SimpleExpressions.{SimpleOf}
use Rattle.jd_model.specs.States.{State}
use Rattle.jd_model.specs.Tables.{SortsOf, constants_of_parameters}
use Rattle.jd_model.specs.TermValues.{value}
use Rattle.jd_syntax.specs.CodeNames.{heap_name, same_name}
use Rattle.jd_syntax.specs.Codes.{BoolLiteral, Expr, ExprThen, Exprs, IntLiteral, NoExprs, NullLiteral, Variable}
use Rattle.jd_syntax.specs.Names.{Name}

abbrev pub is_heap_sort : Sort → Bool
is_heap_sort HeapSort = true
is_heap_sort IntSort = false
is_heap_sort BoolSort = false
is_heap_sort RefSort = false
is_heap_sort FieldSort = false

no_heap_type : (t : ValueType) → is_heap_sort (type_sort t) ≡ false
no_heap_type IntType = refl
no_heap_type BooleanType = refl
no_heap_type (ReferenceType k) = refl

pub other_than_heap : (x : Name) → is_heap_sort x.sort ≡ false → same_name x heap_name ≡ false
other_than_heap x e = flip_apart heap_name x (apart_by (λ (z : Name). is_heap_sort z.sort) heap_name x refl e)

module _ (n : ℕ) where
  operand_old : (k : Sort) (e : Expr) → SimpleOf k e → is_heap_sort k ≡ false → ExprIn (OldVariable n) (OldVariable n) e → OperandIn (Operand n) e
  operand_old IntSort (IntLiteral z) o h q = tt
  operand_old BoolSort (BoolLiteral z) o h q = tt
  operand_old RefSort NullLiteral o h q = tt
  operand_old k (Variable x) o h q = (q.0, other_than_heap x (ap is_heap_sort o ∙ h))
  operand_old k e o h q = absurd o

  pub arguments_ok : (bs : Exprs) (xs : List Name) (ps : List Parameter) → SortsOf xs ps → OperandsAreSimple bs xs → ExprsIn (OldVariable n) (OldVariable n) bs → ArgumentsOk (Operand n) bs (constants_of_parameters xs)
  arguments_ok NoExprs [] ps s o q = tt
  arguments_ok (ExprThen a bs) (x ∷ xs) (y ∷ ps) s o q = (o.0, operand_old x.sort a o.0 (ap is_heap_sort s.0 ∙ no_heap_type y.declared.type) q.0, arguments_ok bs xs ps s.1 o.1 q.1)
  arguments_ok (ExprThen a bs) (x ∷ xs) [] s o q = absurd s
  arguments_ok NoExprs (x ∷ xs) ps s o q = absurd o
  arguments_ok (ExprThen a bs) [] ps s o q = absurd o

  pub target_ok : (t : Target) (bs : Exprs) (r : Role) → IsKindOf (target_kind t) r → ReceiverIsSimple t → ExprIn (OldVariable n) (OldVariable n) (call_of t bs) → TargetOk (Operand n) t r
  target_ok (VirtualTarget k m a) bs Ordinary i o q = (o, operand_old RefSort a o refl q.0)
  target_ok (VirtualTarget k m a) bs Helper i o q = (o, operand_old RefSort a o refl q.0)
  target_ok (StaticTarget m) bs Static i o q = tt
  target_ok (ConstructorTarget m a) bs (ConstructorOf c) i o q = (o, operand_old RefSort a o refl q.0)
  target_ok t bs r i o q = absurd i

  pub operands_in : (t : Target) (bs : Exprs) → ExprIn (OldVariable n) (OldVariable n) (call_of t bs) → ExprsIn (OldVariable n) (OldVariable n) bs
  operands_in (VirtualTarget k m a) bs q = q.1
  operands_in (StaticTarget m) bs q = q
  operands_in (ConstructorTarget m a) bs q = q.1

  pub call_in : (y : Option Name) (e : Expr) → CodeIn (OldVariable n) (OldVariable n) (one (call_stmt y e)) → ExprIn (OldVariable n) (OldVariable n) e
  call_in None e q = q.0
  call_in (Some x) e q = q.0.1

pub all_simple : (bs : Exprs) (xs : List Name) → OperandsAreSimple bs xs → AllSimple bs
all_simple NoExprs [] o = tt
all_simple (ExprThen a bs) (x ∷ xs) o = (simple_of x.sort a o.0, all_simple bs xs o.1)
all_simple NoExprs (x ∷ xs) o = absurd o
all_simple (ExprThen a bs) [] o = absurd o

pub target_simple : (t : Target) → ReceiverIsSimple t → TargetSimple t
target_simple (VirtualTarget k m a) o = simple_of RefSort a o
target_simple (StaticTarget m) o = tt
target_simple (ConstructorTarget m a) o = simple_of RefSort a o

pub receiver_sort : (t : Target) → ReceiverIsSimple t → (i s : State) → IsOf RefSort (value i s [] (receiver_term t))
receiver_sort (VirtualTarget k m a) o i s = value_of_simple i [] RefSort a o s
receiver_sort (StaticTarget m) o i s = tt
receiver_sort (ConstructorTarget m a) o i s = value_of_simple i [] RefSort a o s
