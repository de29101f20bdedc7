-- What resolved code does (JLS 14 and 15).
use Rattle.std.specs.Prelude.{ℕ, zero, suc, Bool, true, false, cond, not, ◌&&◌, ◌||◌, ℤ, pos, negsuc, ◌+ℤ◌, ◌-ℤ◌, ◌*ℤ◌, neg_ℤ, int_lt, int_le, int_div, int_rem, Option, Some, None, List, [], ◌∷◌}
use Rattle.std.specs.Int.{int_wrap, w32}
use Rattle.jd_syntax.specs.Names.{Name}
use Rattle.jd_syntax.specs.declared.code.UnaryOp.{UnaryOp}
use Rattle.jd_syntax.specs.declared.code.UnaryOp.TheVariants as unary_ops
use Rattle.jd_syntax.specs.declared.code.BinaryOp.{BinaryOp}
use Rattle.jd_syntax.specs.declared.code.BinaryOp.TheVariants as binary_ops
use Rattle.jd_syntax.specs.Codes.{Expr, IntLiteral, BoolLiteral, NullLiteral, Variable, Unary, Binary, AndAlso, OrElse, Conditional, ReadField, ReadElement, LengthOf, Cast, InstanceOf, VirtualCall, StaticCall, ConstructorCall, DoThen, Exprs, NoExprs, ExprThen, Stmt, Set, WriteField, WriteElement, Evaluate, If, While, Block, Break, Catch, Finally, Throw, ThrowUnchecked, Return, ReturnVoid, Frame, Raise, AllocObject, AllocArray, NewArray, Stop, PlainCode, Done, Then}
use Rattle.jd_heap.specs.Codings.{same}
use Rattle.jd_heap.specs.References.{Reference, Null, Named, Index, is_null}
use Rattle.jd_heap.specs.ReferenceCodings.{reference_coding}
use Rattle.jd_heap.specs.Heaps.{is_zero, create, select_int, is_length, length_of}
use Rattle.jd_heap.specs.Allocation.{fresh_object, fresh_array}
use Rattle.jd_heap.specs.Values.{Value, IntValue, BoolValue, RefValue, HeapValue, FieldValue, as_int, as_bool, as_ref, select_at, store_value}
use Rattle.jd_model.specs.States.{State, read, write, empty_state, heap_of, with_heap}
use Rattle.jd_model.specs.Programs.{Program, Body, field_sort, class_of, is_instance}
use Rattle.jd_model.specs.Outcomes.{Outcome, Normal, Broke, Returned, Thrown, Stopped, NoLength, NotEnded, then, back_in, loop, after_block, after_frame, after_catch, after_finally}

-- ---- single operations

-- an integer cut to 32 bits (JLS 4.2.2)
abbrev pub wrap32 : ℤ → ℤ
wrap32 z = int_wrap w32 z

abbrev pub unary : UnaryOp → Value → Value
unary unary_ops.Negate v = IntValue (wrap32 (neg_ℤ (as_int v)))
unary unary_ops.Invert v = BoolValue (not (as_bool v))

abbrev pub int_same : ℤ → ℤ → Bool
int_same x y = not (int_lt x y) && not (int_lt y x)

abbrev pub value_same : Value → Value → Bool
value_same (IntValue x) w = int_same x (as_int w)
value_same (BoolValue true) w = as_bool w
value_same (BoolValue false) w = not (as_bool w)
value_same (RefValue r) w = same reference_coding r (as_ref w)
value_same (HeapValue h) w = false
value_same (FieldValue f) w = false

abbrev pub is_outside : ℤ → Reference → Bool
is_outside i o = int_lt i (pos 0) || int_le (length_of o) i

abbrev pub magnitude : ℤ → ℕ
magnitude (pos n) = n
magnitude (negsuc n) = 0

-- the state with a list of variables set, and with one that may be there
abbrev pub with_values : State → List Name → List Value → State
with_values s [] vs = s
with_values s (x ∷ xs) [] = s
with_values s (x ∷ xs) (v ∷ vs) = with_values (write s x v) xs vs

abbrev pub with_one : State → Option Name → Value → State
with_one s None v = s
with_one s (Some x) v = write s x v

-- the state with a new object that a variable names
abbrev pub allocated : State → Name → Reference → State
allocated s x r = write (with_heap s (create (heap_of s) r)) x (RefValue r)

-- the state with a new array of that many elements; a length that is none is an outcome of its own
abbrev pub array_allocated : State → Name → ℤ → Outcome (Unit {0})
array_allocated s x z = cond (is_length z) (Normal tt (allocated s x (fresh_array (heap_of s) (magnitude z)))) NoLength

module _ (p : Program) where
  -- a new object of the class is thrown (JLS 11.1.1)
  abbrev pub raise : {A : Type 0} → ℕ → State → Outcome A
  raise c s = Thrown (fresh_object (heap_of s) c) (with_heap s (create (heap_of s) (fresh_object (heap_of s) c)))

  abbrev pub unless_null : {A : Type 0} → Reference → State → Outcome A → Outcome A
  unless_null r s o = cond (is_null r) (raise p.null_pointer s) o

  abbrev pub divided : (ℤ → ℤ → ℤ) → ℤ → ℤ → State → Outcome Value
  divided f x y s = cond (is_zero y) (raise p.arithmetic s) (Normal (IntValue (wrap32 (f x y))) s)

  abbrev pub binary : BinaryOp → Value → Value → State → Outcome Value
  binary binary_ops.Add v w s = Normal (IntValue (wrap32 (as_int v +ℤ as_int w))) s
  binary binary_ops.Subtract v w s = Normal (IntValue (wrap32 (as_int v -ℤ as_int w))) s
  binary binary_ops.Multiply v w s = Normal (IntValue (wrap32 (as_int v *ℤ as_int w))) s
  binary binary_ops.Divide v w s = divided int_div (as_int v) (as_int w) s
  binary binary_ops.Remainder v w s = divided int_rem (as_int v) (as_int w) s
  binary binary_ops.Less v w s = Normal (BoolValue (int_lt (as_int v) (as_int w))) s
  binary binary_ops.LessOrEqual v w s = Normal (BoolValue (int_le (as_int v) (as_int w))) s
  binary binary_ops.Greater v w s = Normal (BoolValue (int_lt (as_int w) (as_int v))) s
  binary binary_ops.GreaterOrEqual v w s = Normal (BoolValue (int_le (as_int w) (as_int v))) s
  binary binary_ops.Equal v w s = Normal (BoolValue (value_same v w)) s
  binary binary_ops.NotEqual v w s = Normal (BoolValue (not (value_same v w))) s

  abbrev pub at_index : {A : Type 0} → Reference → ℤ → State → Outcome A → Outcome A
  at_index r i s o = unless_null r s (cond (is_outside i r) (raise p.bounds s) o)

  -- what runs a method's body one level down: method, receiver, arguments, the caller's state
  abbrev pub Runner : Type 0
  Runner = ℕ → Reference → List Value → State → Outcome Value

  abbrev pub dispatch : Runner → Option ℕ → Reference → List Value → State → Outcome Value
  dispatch run None r vs s = NotEnded
  dispatch run (Some m) r vs s = run m r vs s

  -- execution where calls are run by `run`, and each loop makes at most n turns
  module _ (run : Runner) (n : ℕ) where
    abbrev mutual
      pub eval : Expr → State → Outcome Value
      eval (IntLiteral z) s = Normal (IntValue z) s
      eval (BoolLiteral b) s = Normal (BoolValue b) s
      eval NullLiteral s = Normal (RefValue Null) s
      eval (Variable x) s = Normal (read s x) s
      eval (Unary op a) s = then (eval a s) (λ v t. Normal (unary op v) t)
      eval (Binary op a b) s = then (eval a s) (λ v t. then (eval b t) (λ w u. binary op v w u))
      eval (AndAlso a b) s = then (eval a s) (λ v t. cond (as_bool v) (eval b t) (Normal (BoolValue false) t))
      eval (OrElse a b) s = then (eval a s) (λ v t. cond (as_bool v) (Normal (BoolValue true) t) (eval b t))
      eval (Conditional a b c) s = then (eval a s) (λ v t. cond (as_bool v) (eval b t) (eval c t))
      eval (ReadField a f) s = then (eval a s) (λ v t. unless_null (as_ref v) t (Normal (select_at (field_sort p f) (heap_of t) (as_ref v) (Named f)) t))
      eval (ReadElement a i) s = then (eval a s) (λ v t. then (eval i t) (λ w u. at_index (as_ref v) (as_int w) u (Normal (IntValue (select_int (heap_of u) (as_ref v) (Index (as_int w)))) u)))
      eval (LengthOf a) s = then (eval a s) (λ v t. unless_null (as_ref v) t (Normal (IntValue (length_of (as_ref v))) t))
      eval (Cast k a) s = then (eval a s) (λ v t. cond (is_null (as_ref v) || is_instance p k (as_ref v)) (Normal v t) (raise p.cast t))
      eval (InstanceOf k a) s = then (eval a s) (λ v t. Normal (BoolValue (is_instance p k (as_ref v))) t)
      eval (VirtualCall k m a bs) s = then (eval a s) (λ v t. then (evals bs t) (λ vs u. unless_null (as_ref v) u (dispatch run (p.lookup (class_of p (as_ref v)) m) (as_ref v) vs u)))
      eval (StaticCall m bs) s = then (evals bs s) (λ vs t. run m Null vs t)
      eval (ConstructorCall c a bs) s = then (eval a s) (λ v t. then (evals bs t) (λ vs u. run c (as_ref v) vs u))
      eval (DoThen c a) s = then (exec c s) (λ _ t. eval a t)

      pub evals : Exprs → State → Outcome (List Value)
      evals NoExprs s = Normal [] s
      evals (ExprThen a bs) s = then (eval a s) (λ v t. then (evals bs t) (λ vs u. Normal (v ∷ vs) u))

      pub step : Stmt → State → Outcome (Unit {0})
      step (Set x a) s = then (eval a s) (λ v t. Normal tt (write t x v))
      step (WriteField a f b) s = then (eval a s) (λ v t. then (eval b t) (λ w u. unless_null (as_ref v) u (Normal tt (with_heap u (store_value (heap_of u) (as_ref v) (Named f) w)))))
      step (WriteElement a i b) s = then (eval a s) (λ v t. then (eval i t) (λ w u. then (eval b u) (λ z y. at_index (as_ref v) (as_int w) y (Normal tt (with_heap y (store_value (heap_of y) (as_ref v) (Index (as_int w)) z))))))
      step (Evaluate a) s = then (eval a s) (λ v t. Normal tt t)
      step (If a c d) s = then (eval a s) (λ v t. cond (as_bool v) (exec c t) (exec d t))
      step (While k a c) s = loop n (λ t. eval a t) (λ t. exec c t) s
      step (Block l c) s = after_block l (exec c s)
      step (Break l) s = Broke l s
      step (Catch c x d) s = after_catch (exec c s) x (λ t. exec d t)
      step (Finally c d) s = after_finally (exec c s) (λ t. exec d t)
      step (Throw a) s = then (eval a s) (λ v t. unless_null (as_ref v) t (Thrown (as_ref v) t))
      step (ThrowUnchecked a) s = then (eval a s) (λ v t. Thrown (as_ref v) t)
      step (Return a) s = then (eval a s) (λ v t. Returned (Some v) t)
      step ReturnVoid s = Returned None s
      step (Frame r c) s = after_frame r (exec c s)
      step (Raise c) s = raise c s
      step (AllocObject x c) s = Normal tt (allocated s x (fresh_object (heap_of s) c))
      step (AllocArray x a) s = then (eval a s) (λ v t. array_allocated t x (as_int v))
      step (NewArray x a) s = then (eval a s) (λ v t. cond (int_lt (as_int v) (pos 0)) (raise p.negative_size t) (array_allocated t x (as_int v)))
      step Stop s = Stopped s

      pub exec : PlainCode → State → Outcome (Unit {0})
      exec Done s = Normal tt s
      exec (Then c cs) s = then (step c s) (λ _ t. exec cs t)

  -- no body is run
  abbrev pub no_run : Runner
  no_run m r vs s = NotEnded

  abbrev pub run_body : Option Body → (PlainCode → State → Outcome (Unit {0})) → Reference → List Value → State → Outcome Value
  run_body None go r vs s = NotEnded
  run_body (Some b) go r vs s = back_in s b.result (go b.code (with_values (with_one (with_heap empty_state (heap_of s)) b.receiver (RefValue r)) b.parameters vs))

  -- bodies run at depths below d
  abbrev pub runner : ℕ → ℕ → Runner
  runner zero n = no_run
  runner (suc d) n = λ m r vs s. run_body (p.body m) (λ c t. exec (runner d n) n c t) r vs s

  abbrev pub exec_at : ℕ → ℕ → PlainCode → State → Outcome (Unit {0})
  exec_at d n c s = exec (runner d n) n c s
