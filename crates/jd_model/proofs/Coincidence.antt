-- What does not occur does not matter.
use Rattle.std.proofs.Common.{◌≡◌, ℕ, zero, suc, Bool, true, false, cond, ℤ, Option, Some, None, List, [], ◌∷◌, refl, sym, ap, ◌∙◌, subst, nat_eq, neg_ℤ, int_lt, int_le, ◌&&◌, ◌||◌}
use Rattle.jd_base.specs.declared.sort.Sort.{Sort}
use Rattle.jd_heap.specs.Allocation.{fresh_object, fresh_array}
use Rattle.jd_heap.specs.Codings.{same}
use Rattle.jd_heap.specs.Heaps.{Heap, create, anon, select_int, is_length, length_of}
use Rattle.jd_heap.specs.ReferenceCodings.{location_coding, reference_coding}
use Rattle.jd_heap.specs.References.{Reference, Field, Location, Named, Index, is_null, location}
use Rattle.jd_heap.specs.Values.{Value, IntValue, RefValue, HeapValue, FieldValue, as_int, as_bool, as_ref, as_heap, as_field, at_sort, IsOf, select_at, store_value}
use Rattle.jd_model.proofs.States.{read-write}
use Rattle.jd_model.specs.Occurrences.{MaybeIn, ExprIn, ExprsIn, StmtIn, CodeIn, TermIn, LocIn, PairsIn, FormulaIn, HeapIn}
use Rattle.jd_model.specs.Outcomes.{Outcome, Normal, Broke, Returned, Thrown, Stopped, NoLength, NotEnded, then, loop, after_block, after_frame, after_catch, after_finally, back_in, set_default, set_result}
use Rattle.jd_model.specs.Programs.{field_sort, Program, Body, class_of, is_instance, is_exactly}
use Rattle.jd_model.specs.Runs.{with_values, with_one, Runner, eval, evals, step, exec, exec_at, runner, run_body, dispatch, unless_null, raise, binary, magnitude, is_outside, at_index, wrap32}
use Rattle.jd_model.specs.States.{State, read, write, empty_state, heap_of, with_heap}
use Rattle.jd_model.specs.TermValues.{updated, value, within, sum_range, arithmetic, is_index, in_range}
use Rattle.jd_model.specs.Truth.{Setting, truth, IfEnds, EndsIn, EitherOf, IsWf}
use Rattle.jd_model.specs.WellFormedHeaps.{in_int}
use Rattle.jd_syntax.specs.CodeNames.{same_name, heap_name}
use Rattle.jd_syntax.specs.Codes.{Expr, IntLiteral, BoolLiteral, NullLiteral, Variable, Unary, Binary, AndAlso, OrElse, Conditional, ReadField, ReadElement, LengthOf, Cast, InstanceOf, VirtualCall, StaticCall, ConstructorCall, DoThen, Exprs, NoExprs, ExprThen, Stmt, Set, WriteField, WriteElement, Evaluate, If, While, Block, Break, Catch, Finally, Throw, ThrowUnchecked, Return, ReturnVoid, Frame, Raise, AllocObject, AllocArray, NewArray, Stop, PlainCode, Done, Then}
use Rattle.jd_syntax.specs.Names.{Name}
use Rattle.jd_syntax.specs.declared.code.BinaryOp.{BinaryOp}
use Rattle.jd_term.specs.Formulas.{Pairs, PlainFormula, TrueFormula, FalseFormula, Not, And, Or, Implies, Iff, Equal, Less, LessOrEqual, Forall, Exists, Updated, Modal, InLocations, InInt, WellFormed, Invariant, IsInstance, IsExactInstance}
use Rattle.jd_term.specs.Terms.{PlainTerm, Number, Boolean, NullTerm, ProgramVariable, Constant, Bound, Arithmetic, Negation, Wrap, Length, Select, Sum, Store, Create, Anon, NamedField, CreatedField, ElementField, PlainLoc, NoLocations, AllLocations, Single, ObjectFields, ArrayElements, ElementRange, Union}
use Rattle.jd_syntax.specs.declared.code.BinaryOp.TheVariants as binary_ops
use Rattle.jd_term.specs.declared.formula.Modality.TheVariants as modalities

-- two states agree at the names of a property
abbrev pub Agree : (Name → Type 0) → State → State → Type 0
Agree P s t = (x : Name) → P x → read s x ≡ read t x

-- two runs that end alike, in states that agree
pub data OutcomesAgree {A : Type 0} (R : State → State → Type 0) : Outcome A → Outcome A → Type 0 where
  normal : {a : A} {s t : State} → R s t → OutcomesAgree R (Normal a s) (Normal a t)
  broke : {l : ℕ} {s t : State} → R s t → OutcomesAgree R (Broke l s) (Broke l t)
  returned : {v : Option Value} {s t : State} → R s t → OutcomesAgree R (Returned v s) (Returned v t)
  thrown : {r : Reference} {s t : State} → R s t → OutcomesAgree R (Thrown r s) (Thrown r t)
  stopped : {s t : State} → R s t → OutcomesAgree R (Stopped s) (Stopped t)
  no_length : OutcomesAgree R NoLength NoLength
  not_ended : OutcomesAgree R NotEnded NotEnded

-- a relation of states that reads at P see nothing of, that writes at Q keep, and the changes of the heap that code makes
pub record Alike (P Q : Name → Type 0) (R : State → State → Type 0) : Type 0 where
  pub reads : (x : Name) → P x → (s t : State) → R s t → read s x ≡ read t x
  pub writes : (x : Name) → Q x → (v : Value) (s t : State) → R s t → R (write s x v) (write t x v)
  pub heaps : (s t : State) → R s t → heap_of s ≡ heap_of t
  pub puts : (o : Reference) (f : Field) (v : Value) (s t : State) → R s t → R (with_heap s (store_value (heap_of s) o f v)) (with_heap t (store_value (heap_of s) o f v))
  pub news : (o : Reference) (s t : State) → R s t → R (with_heap s (create (heap_of s) o)) (with_heap t (create (heap_of s) o))

-- one that any new heap keeps
pub by_writes : (P Q : Name → Type 0) (R : State → State → Type 0) → ((x : Name) → P x → (s t : State) → R s t → read s x ≡ read t x) → ((x : Name) → Q x → (v : Value) (s t : State) → R s t → R (write s x v) (write t x v)) → P heap_name → Q heap_name → Alike P Q R
by_writes P Q R reads writes heap_read heap_written = record {
  reads = reads;
  writes = writes;
  heaps = λ s t h. ap as_heap (reads heap_name heap_read s t h);
  puts = λ o f v s t h. writes heap_name heap_written (HeapValue (store_value (heap_of s) o f v)) s t h;
  news = λ o s t h. writes heap_name heap_written (HeapValue (create (heap_of s) o)) s t h;
}

pub agree_alike : (P Q : Name → Type 0) → P heap_name → Q heap_name → Alike P Q (Agree P)
agree_alike P Q = by_writes P Q (Agree P) (λ x o s t h. h x o)
    (λ x o v s t h q q_in. read-write s x v q ∙ (λ i. cond (same_name q x) (at_sort x.sort v) (h q q_in i)) ∙ sym (read-write t x v q))

module _ (P Q : Name → Type 0) (R : State → State → Type 0) (alike : Alike P Q R) where
  pub normal_by : {A : Type 0} (a b : A) (s t : State) → a ≡ b → R s t → OutcomesAgree R (Normal a s) (Normal b t)
  normal_by a b s t e h = subst (λ x. OutcomesAgree R (Normal a s) (Normal x t)) e (normal h)

  pub agree_then : {A B : Type 0} {o q : Outcome A} {k m : A → State → Outcome B} → OutcomesAgree R o q → ((a : A) (s t : State) → R s t → OutcomesAgree R (k a s) (m a t)) → OutcomesAgree R (then o k) (then q m)
  agree_then (normal h) g = g _ _ _ h
  agree_then (broke h) g = broke h
  agree_then (returned h) g = returned h
  agree_then (thrown h) g = thrown h
  agree_then (stopped h) g = stopped h
  agree_then no_length g = no_length
  agree_then not_ended g = not_ended

  pub agree_cond : {A : Type 0} (b : Bool) {o q r u : Outcome A} → OutcomesAgree R o q → OutcomesAgree R r u → OutcomesAgree R (cond b o r) (cond b q u)
  agree_cond true h g = h
  agree_cond false h g = g

  pub agree_block : (l : ℕ) {o q : Outcome (Unit {0})} → OutcomesAgree R o q → OutcomesAgree R (after_block l o) (after_block l q)
  agree_block l (normal h) = normal h
  agree_block l (broke {l = i} h) = agree_cond (nat_eq i l) (normal h) (broke h)
  agree_block l (returned h) = returned h
  agree_block l (thrown h) = thrown h
  agree_block l (stopped h) = stopped h
  agree_block l no_length = no_length
  agree_block l not_ended = not_ended

  agree_default : (r : Option Name) → MaybeIn P Q r → (s t : State) → R s t → R (set_default r s) (set_default r t)
  agree_default None o s t h = h
  agree_default (Some x) o s t h = alike.writes x o _ s t h

  agree_result : (r : Option Name) → MaybeIn P Q r → (v : Option Value) (s t : State) → R s t → R (set_result r v s) (set_result r v t)
  agree_result None o v s t h = h
  agree_result (Some x) o v s t h = alike.writes x o _ s t h

  pub agree_frame : (r : Option Name) → MaybeIn P Q r → {o q : Outcome (Unit {0})} → OutcomesAgree R o q → OutcomesAgree R (after_frame r o) (after_frame r q)
  agree_frame r r_in (normal h) = normal (agree_default r r_in _ _ h)
  agree_frame r r_in (broke h) = broke h
  agree_frame r r_in (returned {v = v} h) = normal (agree_result r r_in v _ _ h)
  agree_frame r r_in (thrown h) = thrown h
  agree_frame r r_in (stopped h) = stopped h
  agree_frame r r_in no_length = no_length
  agree_frame r r_in not_ended = not_ended

  pub agree_catch : {o q : Outcome (Unit {0})} (x : Name) → Q x → {k m : State → Outcome (Unit {0})} → OutcomesAgree R o q → ((s t : State) → R s t → OutcomesAgree R (k s) (m t)) → OutcomesAgree R (after_catch o x k) (after_catch q x m)
  agree_catch x x_in (normal h) g = normal h
  agree_catch x x_in (broke h) g = broke h
  agree_catch x x_in (returned h) g = returned h
  agree_catch x x_in (thrown {s = s} {t = t} h) g = g _ _ (alike.writes x x_in _ s t h)
  agree_catch x x_in (stopped h) g = stopped h
  agree_catch x x_in no_length g = no_length
  agree_catch x x_in not_ended g = not_ended

  pub agree_finally : {o q : Outcome (Unit {0})} {k m : State → Outcome (Unit {0})} → OutcomesAgree R o q → ((s t : State) → R s t → OutcomesAgree R (k s) (m t)) → OutcomesAgree R (after_finally o k) (after_finally q m)
  agree_finally (normal h) g = g _ _ h
  agree_finally (broke h) g = agree_then (g _ _ h) (λ a y z e. broke e)
  agree_finally (returned h) g = agree_then (g _ _ h) (λ a y z e. returned e)
  agree_finally (thrown h) g = agree_then (g _ _ h) (λ a y z e. thrown e)
  agree_finally (stopped h) g = stopped h
  agree_finally no_length g = no_length
  agree_finally not_ended g = not_ended

  pub agree_loop : (n : ℕ) (test : State → Outcome Value) (body : State → Outcome (Unit {0})) → ((s t : State) → R s t → OutcomesAgree R (test s) (test t)) → ((s t : State) → R s t → OutcomesAgree R (body s) (body t)) → (s t : State) → R s t → OutcomesAgree R (loop n test body s) (loop n test body t)
  agree_loop zero test body h g s t e = agree_then (h s t e) (λ v y z f. agree_cond (as_bool v) not_ended (normal f))
  agree_loop (suc n) test body h g s t e = agree_then (h s t e) (λ v y z f. agree_cond (as_bool v) (agree_then (g y z f) (λ _ a c d. agree_loop n test body h g a c d)) (normal f))

  module _ (p : Program) where
    agree_heap : (s t : State) → R s t → heap_of s ≡ heap_of t
    agree_heap s t h = alike.heaps s t h

    agree_raise : {A : Type 0} (c : ℕ) (s t : State) → R s t → OutcomesAgree {A = A} R (raise p c s) (raise p c t)
    agree_raise {A} c s t h =
        let e = agree_heap s t h in
        subst (λ k. OutcomesAgree {A = A} R (raise p c s) (Thrown (fresh_object k c) (with_heap t (create k (fresh_object k c))))) e (thrown (alike.news (fresh_object (heap_of s) c) s t h))

    agree_null : {A : Type 0} (r : Reference) (s t : State) {o q : Outcome A} → R s t → OutcomesAgree R o q → OutcomesAgree R (unless_null p r s o) (unless_null p r t q)
    agree_null r s t h g = agree_cond (is_null r) (agree_raise p.null_pointer s t h) g

    agree_index : {A : Type 0} (r : Reference) (i : ℤ) (s t : State) {o q : Outcome A} → R s t → OutcomesAgree R o q → OutcomesAgree R (at_index p r i s o) (at_index p r i t q)
    agree_index r i s t h g = agree_null r s t h (agree_cond (is_outside i r) (agree_raise p.bounds s t h) g)

    agree_binary : (op : BinaryOp) (v w : Value) (s t : State) → R s t → OutcomesAgree R (binary p op v w s) (binary p op v w t)
    agree_binary binary_ops.Divide v w s t h = agree_cond _ (agree_raise p.arithmetic s t h) (normal h)
    agree_binary binary_ops.Remainder v w s t h = agree_cond _ (agree_raise p.arithmetic s t h) (normal h)
    agree_binary binary_ops.Add v w s t h = normal h
    agree_binary binary_ops.Subtract v w s t h = normal h
    agree_binary binary_ops.Multiply v w s t h = normal h
    agree_binary binary_ops.Less v w s t h = normal h
    agree_binary binary_ops.LessOrEqual v w s t h = normal h
    agree_binary binary_ops.Greater v w s t h = normal h
    agree_binary binary_ops.GreaterOrEqual v w s t h = normal h
    agree_binary binary_ops.Equal v w s t h = normal h
    agree_binary binary_ops.NotEqual v w s t h = normal h

    agree_new : (x : Name) → Q x → (h : Heap → Reference) (s t : State) → R s t → R (write (with_heap s (create (heap_of s) (h (heap_of s)))) x (RefValue (h (heap_of s)))) (write (with_heap t (create (heap_of t) (h (heap_of t)))) x (RefValue (h (heap_of t))))
    agree_new x x_in h s t a =
        subst (λ k. R (write (with_heap s (create (heap_of s) (h (heap_of s)))) x (RefValue (h (heap_of s)))) (write (with_heap t (create k (h k))) x (RefValue (h k)))) (agree_heap s t a) (alike.writes x x_in _ _ _ (alike.news (h (heap_of s)) s t a))

    agree_put : (o : Reference) (f : Field) (v : Value) (s t : State) → R s t → OutcomesAgree R (Normal (tt {0}) (with_heap s (store_value (heap_of s) o f v))) (Normal (tt {0}) (with_heap t (store_value (heap_of t) o f v)))
    agree_put o f v s t h = subst (λ k. OutcomesAgree R (Normal (tt {0}) (with_heap s (store_value (heap_of s) o f v))) (Normal (tt {0}) (with_heap t (store_value k o f v)))) (agree_heap s t h) (normal (alike.puts o f v s t h))

    -- a runner that asks of the caller's state only what agrees
    abbrev pub Respects : Runner p → Type 0
    Respects run = (m : ℕ) (r : Reference) (vs : List Value) (s t : State) → R s t → OutcomesAgree R (run m r vs s) (run m r vs t)

    agree_dispatch : (run : Runner p) → Respects run → (o : Option ℕ) (r : Reference) (vs : List Value) (s t : State) → R s t → OutcomesAgree R (dispatch p run o r vs s) (dispatch p run o r vs t)
    agree_dispatch run h None r vs s t e = not_ended
    agree_dispatch run h (Some m) r vs s t e = h m r vs s t e

    module _ (run : Runner p) (n : ℕ) (runs : Respects run) where
      mutual
        pub eval_agree : (e : Expr) → ExprIn P Q e → (s t : State) → R s t → OutcomesAgree R (eval p run n e s) (eval p run n e t)
        eval_agree (IntLiteral z) i s t h = normal h
        eval_agree (BoolLiteral b) i s t h = normal h
        eval_agree NullLiteral i s t h = normal h
        eval_agree (Variable x) i s t h = normal_by _ _ _ _ (alike.reads x i s t h) h
        eval_agree (Unary op a) i s t h = agree_then (eval_agree a i s t h) (λ v y z f. (normal f))
        eval_agree (Binary op a b) i s t h = agree_then (eval_agree a i.0 s t h) (λ v y z f. agree_then (eval_agree b i.1 y z f) (λ w. agree_binary op v w))
        eval_agree (AndAlso a b) i s t h = agree_then (eval_agree a i.0 s t h) (λ v y z f. agree_cond (as_bool v) (eval_agree b i.1 y z f) (normal f))
        eval_agree (OrElse a b) i s t h = agree_then (eval_agree a i.0 s t h) (λ v y z f. agree_cond (as_bool v) (normal f) (eval_agree b i.1 y z f))
        eval_agree (Conditional a b c) i s t h = agree_then (eval_agree a i.0 s t h) (λ v y z f. agree_cond (as_bool v) (eval_agree b i.1 y z f) (eval_agree c i.2 y z f))
        eval_agree (ReadField a fd) i s t h = agree_then (eval_agree a i s t h) (λ v y z f. agree_null (as_ref v) y z f (normal_by _ _ _ _ (ap (λ k. select_at (field_sort p fd) k (as_ref v) (Named fd)) (agree_heap y z f)) f))
        eval_agree (ReadElement a ix) i s t h = agree_then (eval_agree a i.0 s t h) (λ v y z f. agree_then (eval_agree ix i.1 y z f) (λ w y z f. agree_index (as_ref v) (as_int w) y z f (normal_by _ _ _ _ (ap (λ k. IntValue (select_int k (as_ref v) (Index (as_int w)))) (agree_heap y z f)) f)))
        eval_agree (LengthOf a) i s t h = agree_then (eval_agree a i s t h) (λ v y z f. agree_null (as_ref v) y z f (normal f))
        eval_agree (Cast k a) i s t h = agree_then (eval_agree a i s t h) (λ v y z f. agree_cond _ (normal f) (agree_raise p.cast y z f))
        eval_agree (InstanceOf k a) i s t h = agree_then (eval_agree a i s t h) (λ v y z f. (normal f))
        eval_agree (VirtualCall k m a bs) i s t h = agree_then (eval_agree a i.0 s t h) (λ v y z f. agree_then (evals_agree bs i.1 y z f) (λ vs y z f. agree_null (as_ref v) y z f (agree_dispatch run runs (p.lookup (class_of p (as_ref v)) m) (as_ref v) vs y z f)))
        eval_agree (StaticCall m bs) i s t h = agree_then (evals_agree bs i s t h) (λ vs y z f. runs m _ vs y z f)
        eval_agree (ConstructorCall c a bs) i s t h = agree_then (eval_agree a i.0 s t h) (λ v y z f. agree_then (evals_agree bs i.1 y z f) (λ vs y z f. runs c (as_ref v) vs y z f))
        eval_agree (DoThen c a) i s t h = agree_then (exec_agree c i.0 s t h) (λ _ y z f. eval_agree a i.1 y z f)

        pub evals_agree : (es : Exprs) → ExprsIn P Q es → (s t : State) → R s t → OutcomesAgree R (evals p run n es s) (evals p run n es t)
        evals_agree NoExprs i s t h = normal h
        evals_agree (ExprThen a bs) i s t h = agree_then (eval_agree a i.0 s t h) (λ v y z f. agree_then (evals_agree bs i.1 y z f) (λ vs y z f. (normal f)))

        pub step_agree : (c : Stmt) → StmtIn P Q c → (s t : State) → R s t → OutcomesAgree R (step p run n c s) (step p run n c t)
        step_agree (Set x a) i s t h = agree_then (eval_agree a i.1 s t h) (λ v y z f. normal (alike.writes x i.0 v y z f))
        step_agree (WriteField a fd b) i s t h = agree_then (eval_agree a i.0 s t h) (λ v y z f. agree_then (eval_agree b i.1 y z f) (λ w y z f. agree_null (as_ref v) y z f (agree_put (as_ref v) (Named fd) w y z f)))
        step_agree (WriteElement a ix b) i s t h = agree_then (eval_agree a i.0 s t h) (λ v y z f. agree_then (eval_agree ix i.1 y z f) (λ w y z f. agree_then (eval_agree b i.2 y z f) (λ x y z f. agree_index (as_ref v) (as_int w) y z f (agree_put (as_ref v) (Index (as_int w)) x y z f))))
        step_agree (Evaluate a) i s t h = agree_then (eval_agree a i s t h) (λ v y z f. (normal f))
        step_agree (If a c d) i s t h = agree_then (eval_agree a i.0 s t h) (λ v y z f. agree_cond (as_bool v) (exec_agree c i.1 y z f) (exec_agree d i.2 y z f))
        step_agree (While k a c) i s t h = agree_loop n _ _ (λ s t h. eval_agree a i.0 s t h) (λ s t h. exec_agree c i.1 s t h) s t h
        step_agree (Block l c) i s t h = agree_block l (exec_agree c i s t h)
        step_agree (Break l) i s t h = broke h
        step_agree (Catch c x d) i s t h = agree_catch x i.1 (exec_agree c i.0 s t h) (λ s t h. exec_agree d i.2 s t h)
        step_agree (Finally c d) i s t h = agree_finally (exec_agree c i.0 s t h) (λ s t h. exec_agree d i.1 s t h)
        step_agree (Throw a) i s t h = agree_then (eval_agree a i s t h) (λ v y z f. agree_null (as_ref v) y z f (thrown f))
        step_agree (ThrowUnchecked a) i s t h = agree_then (eval_agree a i s t h) (λ v y z f. thrown f)
        step_agree (Return a) i s t h = agree_then (eval_agree a i s t h) (λ v y z f. returned f)
        step_agree ReturnVoid i s t h = returned h
        step_agree (Frame r c) i s t h = agree_frame r i.0 (exec_agree c i.1 s t h)
        step_agree (Raise c) i s t h = agree_raise c s t h
        step_agree (AllocObject x c) i s t h = normal (agree_new x i (λ k. fresh_object k c) s t h)
        step_agree (AllocArray x a) i s t h = agree_then (eval_agree a i.1 s t h) (λ v y z f. agree_cond (is_length (as_int v)) (normal (agree_new x i.0 (λ k. fresh_array k (magnitude (as_int v))) y z f)) no_length)
        step_agree (NewArray x a) i s t h = agree_then (eval_agree a i.1 s t h) (λ v y z f. agree_cond _ (agree_raise p.negative_size y z f) (agree_cond (is_length (as_int v)) (normal (agree_new x i.0 (λ k. fresh_array k (magnitude (as_int v))) y z f)) no_length))
        step_agree Stop i s t h = stopped h

        pub exec_agree : (c : PlainCode) → CodeIn P Q c → (s t : State) → R s t → OutcomesAgree R (exec p run n c s) (exec p run n c t)
        exec_agree Done i s t h = normal h
        exec_agree (Then c cs) i s t h = agree_then (step_agree c i.0 s t h) (λ _ y z f. exec_agree cs i.1 y z f)

    module _ (any : (k : Heap) (s t : State) → R s t → R (with_heap s k) (with_heap t k)) where
      agree_back : (k : Sort) (o : Outcome (Unit {0})) (s t : State) → R s t → OutcomesAgree R (back_in s k o) (back_in t k o)
      agree_back k (Normal a u) s t h = normal (any _ s t h)
      agree_back k (Broke i u) s t h = not_ended
      agree_back k (Returned v u) s t h = normal (any _ s t h)
      agree_back k (Thrown i u) s t h = thrown (any _ s t h)
      agree_back k (Stopped u) s t h = stopped (any _ s t h)
      agree_back k NoLength s t h = no_length
      agree_back k NotEnded s t h = not_ended

      agree_body : (o : Option Body) (go : PlainCode → State → Outcome (Unit {0})) (r : Reference) (vs : List Value) (s t : State) → R s t → OutcomesAgree R (run_body p o go r vs s) (run_body p o go r vs t)
      agree_body None go r vs s t h = not_ended
      agree_body (Some b) go r vs s t h =
          subst (λ k. OutcomesAgree R (back_in s b.result (go b.code (with_values (with_one (with_heap empty_state (heap_of s)) b.receiver (RefValue r)) b.parameters vs))) (back_in t b.result (go b.code (with_values (with_one (with_heap empty_state k) b.receiver (RefValue r)) b.parameters vs)))) (agree_heap s t h) (agree_back b.result _ s t h)

      pub runner_respects : (d n : ℕ) → Respects (runner p d n)
      runner_respects zero n m r vs s t h = not_ended
      runner_respects (suc d) n m r vs s t h = agree_body (p.body m) _ r vs s t h

      pub exec_at_agree : (d n : ℕ) (c : PlainCode) → CodeIn P Q c → (s t : State) → R s t → OutcomesAgree R (exec_at p d n c s) (exec_at p d n c t)
      exec_at_agree d n = exec_agree (runner p d n) n (runner_respects d n)

-- ---- values and truth

pub agree_write : (P : Name → Type 0) (s t : State) (x : Name) (v w : Value) → v ≡ w → Agree P s t → Agree P (write s x v) (write t x w)
agree_write P s t x v w e h q q_in = read-write s x v q ∙ (λ i. cond (same_name q x) (at_sort x.sort (e i)) (h q q_in i)) ∙ sym (read-write t x w q)

pub any_heap : (P : Name → Type 0) (k : Heap) (s t : State) → Agree P s t → Agree P (with_heap s k) (with_heap t k)
any_heap P k s t h = agree_write P s t heap_name (HeapValue k) (HeapValue k) refl h

module _ (P Q : Name → Type 0) (i j s t : State) (cs : Agree Q i j) (vs : Agree P s t) where
  mutual
    pub value_agree : (a : PlainTerm) → TermIn P Q a → (b : List Value) → value i s b a ≡ value j t b a
    value_agree (Number z) o b = refl
    value_agree (Boolean x) o b = refl
    value_agree NullTerm o b = refl
    value_agree (ProgramVariable x) o b = vs x o
    value_agree (Constant c) o b = cs c o
    value_agree (Bound k srt) o b = refl
    value_agree (Arithmetic op a c) o b = λ e. IntValue (arithmetic op (as_int (value_agree a o.0 b e)) (as_int (value_agree c o.1 b e)))
    value_agree (Negation a) o b = ap (λ v. IntValue (neg_ℤ (as_int v))) (value_agree a o b)
    value_agree (Wrap a) o b = ap (λ v. IntValue (wrap32 (as_int v))) (value_agree a o b)
    value_agree (Length a) o b = ap (λ v. IntValue (length_of (as_ref v))) (value_agree a o b)
    value_agree (Select srt h r f) o b = λ e. select_at srt (as_heap (value_agree h o.0 b e)) (as_ref (value_agree r o.1 b e)) (as_field (value_agree f o.2 b e))
    value_agree (Sum a c u) o b = λ e. IntValue (sum_range (as_int (value_agree a o.0 b e)) (as_int (value_agree c o.1 b e)) (λ z. as_int (value_agree u o.2 (IntValue z ∷ b) e)))
    value_agree (Store h r f a) o b = λ e. HeapValue (store_value (as_heap (value_agree h o.0 b e)) (as_ref (value_agree r o.1 b e)) (as_field (value_agree f o.2 b e)) (value_agree a o.3 b e))
    value_agree (Create h r) o b = λ e. HeapValue (create (as_heap (value_agree h o.0 b e)) (as_ref (value_agree r o.1 b e)))
    value_agree (Anon h l g) o b = λ e. HeapValue (anon (as_heap (value_agree h o.0 b e)) (λ q. within_agree l o.1 b q e) (as_heap (value_agree g o.2 b e)))
    value_agree (NamedField f) o b = refl
    value_agree CreatedField o b = refl
    value_agree (ElementField a) o b = ap (λ v. FieldValue (Index (as_int v))) (value_agree a o b)

    pub within_agree : (l : PlainLoc) → LocIn P Q l → (b : List Value) (q : Location) → within i s b l q ≡ within j t b l q
    within_agree NoLocations o b q = refl
    within_agree AllLocations o b q = refl
    within_agree (Single r f) o b q = λ e. same location_coding q (location (as_ref (value_agree r o.0 b e)) (as_field (value_agree f o.1 b e)))
    within_agree (ObjectFields r) o b q = λ e. same reference_coding q.at (as_ref (value_agree r o b e))
    within_agree (ArrayElements r) o b q = λ e. same reference_coding q.at (as_ref (value_agree r o b e)) && is_index q.field
    within_agree (ElementRange r a c) o b q = λ e. same reference_coding q.at (as_ref (value_agree r o.0 b e)) && in_range (as_int (value_agree a o.1 b e)) (as_int (value_agree c o.2 b e)) q.field
    within_agree (Union l m) o b q = λ e. within_agree l o.0 b q e || within_agree m o.1 b q e

  pub updated_agree : (u : Pairs) → PairsIn P Q u → (b : List Value) (y z : State) → Agree P y z → Agree P (updated i s b u y) (updated j t b u z)
  updated_agree [] o b y z h = h
  updated_agree (e ∷ u) o b y z h = updated_agree u o.1 b _ _ (agree_write P y z e.0 _ _ (value_agree e.1 o.0 b) h)

-- runs that agree ask the same of what comes after
pub if_ends_agree : {A : Type 0} (P : Name → Type 0) (o q : Outcome A) (F G : State → Type 0) → OutcomesAgree (Agree P) o q → ((s t : State) → Agree P s t → F s ≡ G t) → IfEnds o F ≡ IfEnds q G
if_ends_agree P o q F G (normal h) g = g _ _ h
if_ends_agree P o q F G (broke h) g = refl
if_ends_agree P o q F G (returned h) g = refl
if_ends_agree P o q F G (thrown h) g = refl
if_ends_agree P o q F G (stopped h) g = g _ _ h
if_ends_agree P o q F G no_length g = refl
if_ends_agree P o q F G not_ended g = refl

pub ends_in_agree : {A : Type 0} (P : Name → Type 0) (o q : Outcome A) (F G : State → Type 0) → OutcomesAgree (Agree P) o q → ((s t : State) → Agree P s t → F s ≡ G t) → EndsIn o F ≡ EndsIn q G
ends_in_agree P o q F G (normal h) g = g _ _ h
ends_in_agree P o q F G (broke h) g = refl
ends_in_agree P o q F G (returned h) g = refl
ends_in_agree P o q F G (thrown h) g = refl
ends_in_agree P o q F G (stopped h) g = g _ _ h
ends_in_agree P o q F G no_length g = refl
ends_in_agree P o q F G not_ended g = refl

-- the empty code changes nothing, and all other code sees the heap
code_agree : (P : Name → Type 0) (p : Program) (d n : ℕ) (c : PlainCode) → CodeIn P P c × HeapIn P c → (s t : State) → Agree P s t → OutcomesAgree (Agree P) (exec_at p d n c s) (exec_at p d n c t)
code_agree P p d n Done o s t h = normal h
code_agree P p d n (Then c cs) o s t h = exec_at_agree P P (Agree P) (agree_alike P P o.1 o.1) p (any_heap P) d n (Then c cs) o.0 s t h

module _ (g : Setting) (d : ℕ) (inv : Heap → Reference → Type 0) (P Q : Name → Type 0) (i j : State) (cs : Agree Q i j) where
  -- the truth of a formula is one type in states that agree at its names
  pub truth_agree : (a : PlainFormula) → FormulaIn P Q a → (b : List Value) (s t : State) → Agree P s t → truth g d inv i s b a ≡ truth g d inv j t b a
  truth_agree TrueFormula o b s t h = refl
  truth_agree FalseFormula o b s t h = refl
  truth_agree (Not a) o b s t h = λ e. ¬ (truth_agree a o b s t h e)
  truth_agree (And a c) o b s t h = λ e. truth_agree a o.0 b s t h e × truth_agree c o.1 b s t h e
  truth_agree (Or a c) o b s t h = λ e. EitherOf (truth_agree a o.0 b s t h e) (truth_agree c o.1 b s t h e)
  truth_agree (Implies a c) o b s t h = λ e. truth_agree a o.0 b s t h e → truth_agree c o.1 b s t h e
  truth_agree (Iff a c) o b s t h = λ e. (truth_agree a o.0 b s t h e → truth_agree c o.1 b s t h e) × (truth_agree c o.1 b s t h e → truth_agree a o.0 b s t h e)
  truth_agree (Equal a c) o b s t h = λ e. value_agree P Q i j s t cs h a o.0 b e ≡ value_agree P Q i j s t cs h c o.1 b e
  truth_agree (Less a c) o b s t h = λ e. int_lt (as_int (value_agree P Q i j s t cs h a o.0 b e)) (as_int (value_agree P Q i j s t cs h c o.1 b e)) ≡ true
  truth_agree (LessOrEqual a c) o b s t h = λ e. int_le (as_int (value_agree P Q i j s t cs h a o.0 b e)) (as_int (value_agree P Q i j s t cs h c o.1 b e)) ≡ true
  truth_agree (Forall k a) o b s t h = λ e. (v : Value) → IsOf k v → truth_agree a o (v ∷ b) s t h e
  truth_agree (Exists k a) o b s t h = λ e. ¬ ((v : Value) → IsOf k v → ¬ (truth_agree a o (v ∷ b) s t h e))
  truth_agree (Updated u a) o b s t h = truth_agree a o.1 b _ _ (updated_agree P Q i j s t cs h u o.0 b s t h)
  truth_agree (Modal modalities.Necessity c a) o b s t h = λ e. (n : ℕ) → if_ends_agree P (exec_at g.program d n c s) (exec_at g.program d n c t) (λ y. truth g d inv i y b a) (λ y. truth g d inv j y b a) (code_agree P g.program d n c o.0 s t h) (λ y z f. truth_agree a o.1 b y z f) e
  truth_agree (Modal modalities.Possibility c a) o b s t h = λ e. ¬ ((k n : ℕ) → ¬ (ends_in_agree P (exec_at g.program k n c s) (exec_at g.program k n c t) (λ y. truth g d inv i y b a) (λ y. truth g d inv j y b a) (code_agree P g.program k n c o.0 s t h) (λ y z f. truth_agree a o.1 b y z f) e))
  truth_agree (InLocations r f l) o b s t h = λ e. within_agree P Q i j s t cs h l o.2 b (location (as_ref (value_agree P Q i j s t cs h r o.0 b e)) (as_field (value_agree P Q i j s t cs h f o.1 b e))) e ≡ true
  truth_agree (InInt a) o b s t h = ap (λ v. in_int (as_int v) ≡ true) (value_agree P Q i j s t cs h a o b)
  truth_agree (WellFormed a) o b s t h = ap (λ v. IsWf g v) (value_agree P Q i j s t cs h a o b)
  truth_agree (Invariant a r) o b s t h = λ e. inv (as_heap (value_agree P Q i j s t cs h a o.0 b e)) (as_ref (value_agree P Q i j s t cs h r o.1 b e))
  truth_agree (IsInstance k r) o b s t h = ap (λ v. is_instance g.program k (as_ref v) ≡ true) (value_agree P Q i j s t cs h r o b)
  truth_agree (IsExactInstance k r) o b s t h = ap (λ v. is_exactly k (as_ref v) ≡ true) (value_agree P Q i j s t cs h r o b)
