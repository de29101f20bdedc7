-- How runs of resolved code end: by one induction over code, for any property of values and states that code keeps.
use Rattle.std.proofs.Common.{◌≡◌, ℕ, zero, suc, Bool, true, false, cond, ℤ, pos, Option, Some, None, List, [], ◌∷◌, refl, nat_eq, int_lt, int_div, int_rem, ◌+ℤ◌, ◌-ℤ◌, ◌*ℤ◌, ◌||◌, ap, subst, sym, ◌∙◌, true≢false}
use Rattle.jd_base.specs.declared.sort.Sort.{Sort}
use Rattle.jd_base.specs.declared.sort.Sort.TheVariants.{Int as IntSort}
use Rattle.jd_heap.specs.Allocation.{fresh_object, fresh_array}
use Rattle.jd_heap.specs.Heaps.{is_zero, Heap, create, length_of, is_length}
use Rattle.jd_heap.specs.References.{Null, Reference, Field, Named, Index, is_created_field, is_null}
use Rattle.jd_heap.specs.Values.{Value, IntValue, BoolValue, RefValue, as_int, as_bool, as_ref, at_sort, default, select_at, store_value, IsOf}
use Rattle.jd_model.specs.Outcomes.{Outcome, Normal, Broke, Returned, Thrown, Stopped, NoLength, NotEnded, then, back_in, loop, after_block, after_frame, after_catch, after_finally, set_default, set_result, given}
use Rattle.jd_model.proofs.Writes.{read_own}
use Rattle.jd_model.specs.Programs.{is_instance, Program, Body, class_of, field_sort}
use Rattle.jd_model.specs.Runs.{wrap32, Runner, eval, evals, step, exec, exec_at, runner, run_body, raise, unless_null, at_index, is_outside, dispatch, unary, binary, magnitude, with_one, with_values}
use Rattle.jd_model.specs.States.{empty_state, State, read, write, heap_of, with_heap}
use Rattle.jd_syntax.specs.Codes.{Expr, IntLiteral, BoolLiteral, NullLiteral, Variable, Unary, Binary, AndAlso, OrElse, Conditional, ReadField, ReadElement, LengthOf, Cast, InstanceOf, VirtualCall, StaticCall, ConstructorCall, DoThen, Exprs, NoExprs, ExprThen, Stmt, Set, WriteField, WriteElement, Evaluate, If, While, Block, Break, Catch, Finally, Throw, ThrowUnchecked, Return, ReturnVoid, Frame, Raise, AllocObject, AllocArray, NewArray, Stop, PlainCode, Done, Then}
use Rattle.jd_syntax.specs.Names.{Name}
use Rattle.std.specs.List.{list_any}
use Rattle.jd_model.specs.WellFormedHeaps.{in_int}
use Rattle.jd_model.specs.ResolvedBodies.{IsResolvedExpr, AreResolvedExprs, IsResolvedStmt, IsResolvedCode, AreHandlers}
use Rattle.jd_syntax.specs.declared.code.BinaryOp.{BinaryOp}
use Rattle.jd_syntax.specs.declared.code.UnaryOp.{UnaryOp}
use Rattle.jd_syntax.specs.declared.code.BinaryOp.TheVariants as binary_ops

module _ (p : Program) (Short : Type 0) (Good : Value → Type 0) (I : State → Type 0) where
  abbrev GoodOption : Option Value → Type 0
  GoodOption None = Unit {0}
  GoodOption (Some v) = Good v

  abbrev pub AllGood : List Value → Type 0
  AllGood [] = Unit {0}
  AllGood (v ∷ vs) = Good v × AllGood vs

  -- values and states that what code does keeps
  pub record Keeps : Type 0 where
    pub reads : (s : State) (x : Name) → I s → Good (read s x)
    pub writes : (s : State) (x : Name) (v : Value) → I s → Good v → I (write s x v)
    pub puts : (s : State) (o : Reference) (f : Field) (v : Value) → I s → Good v → I (with_heap s (store_value (heap_of s) o f v))
    pub news : (s : State) (o : Reference) → I s → I (with_heap s (create (heap_of s) o))
    pub back : (s t : State) → I s → I t → I (with_heap s (heap_of t))
    pub begins : (s : State) (b : Body) (r : Reference) (vs : List Value) → I s → AllGood vs → I (with_values (with_one (with_heap empty_state (heap_of s)) b.receiver (RefValue r)) b.parameters vs)
    pub selects : (s : State) (k : Sort) (o : Reference) (f : Field) → is_created_field f ≡ false → I s → Good (select_at k (heap_of s) o f)
    pub unaries : (op : UnaryOp) (v : Value) → Good v → Good (unary op v)
    pub wraps : (z : ℤ) → Good (IntValue (wrap32 z))
    pub bools : (b : Bool) → Good (BoolValue b)
    pub refs : (r : Reference) → Good (RefValue r)
    pub lengths : (r : Reference) → Good (IntValue (length_of r))
    pub defaults : (k : Sort) → Good (default k)
    pub sorted : (k : Sort) (v : Value) → Good v → Good (at_sort k v)
    pub literals : (z : ℤ) → in_int z ≡ true → Good (IntValue z)
    pub sizes : (v : Value) → Good v → int_lt (as_int v) (pos 0) ≡ false → is_length (as_int v) ≡ false → Short

  -- how such code may end, with breaks to these labels
  abbrev pub Ends : {A : Type 0} → List ℕ → (A → Type 0) → Outcome A → Type 0
  Ends L G (Normal a t) = G a × I t
  Ends L G (Broke l t) = (list_any (nat_eq l) L ≡ true) × I t
  Ends L G (Returned v t) = GoodOption v × I t
  Ends L G (Thrown r t) = (is_null r ≡ false) × I t
  Ends L G (Stopped t) = ⊥
  Ends L G NoLength = Short
  Ends L G NotEnded = Unit {0}

  ends_then : {A B : Type 0} (L : List ℕ) (G : A → Type 0) (H : B → Type 0) (o : Outcome A) (k : A → State → Outcome B) → Ends L G o → ((a : A) (t : State) → G a → I t → Ends L H (k a t)) → Ends L H (then o k)
  ends_then L G H (Normal a t) k e f = f a t e.0 e.1
  ends_then L G H (Broke l t) k e f = e
  ends_then L G H (Returned v t) k e f = e
  ends_then L G H (Thrown r t) k e f = e
  ends_then L G H (Stopped t) k e f = e
  ends_then L G H NoLength k e f = e
  ends_then L G H NotEnded k e f = tt

  ends_cond : {A : Type 0} (L : List ℕ) (G : A → Type 0) (b : Bool) (o q : Outcome A) → (b ≡ true → Ends L G o) → (b ≡ false → Ends L G q) → Ends L G (cond b o q)
  ends_cond L G true o q e f = e refl
  ends_cond L G false o q e f = f refl

  abbrev Any : Unit {0} → Type 0
  Any u = Unit {0}

  ends_more : {A : Type 0} (L : List ℕ) (G : A → Type 0) (o : Outcome A) → Ends [] G o → Ends L G o
  ends_more L G (Normal a t) e = e
  ends_more L G (Broke l t) e = absurd (true≢false (sym e.0))
  ends_more L G (Returned v t) e = e
  ends_more L G (Thrown r t) e = e
  ends_more L G (Stopped t) e = e
  ends_more L G NoLength e = e
  ends_more L G NotEnded e = tt

  module _ (keeps : Keeps) where
    ends_block : (L : List ℕ) (l : ℕ) (o : Outcome (Unit {0})) → Ends (l ∷ L) Any o → Ends L Any (after_block l o)
    ends_block L l (Normal a t) e = e
    ends_block L l (Broke k t) e = ends_cond L Any (nat_eq k l) (Normal tt t) (Broke k t) (λ q. (tt, e.1)) (λ q. ((λ j. sym q j || list_any (nat_eq k) L) ∙ e.0, e.1))
    ends_block L l (Returned v t) e = e
    ends_block L l (Thrown r t) e = e
    ends_block L l (Stopped t) e = e
    ends_block L l NoLength e = e
    ends_block L l NotEnded e = tt

    good_given : (k : Sort) (v : Option Value) → GoodOption v → Good (given k v)
    good_given k None e = keeps.defaults k
    good_given k (Some v) e = e

    keeps_result : (r : Option Name) (v : Option Value) (t : State) → GoodOption v → I t → I (set_result r v t)
    keeps_result None v t e i = i
    keeps_result (Some x) v t e i = keeps.writes t x (given x.sort v) i (good_given x.sort v e)

    keeps_default : (r : Option Name) (t : State) → I t → I (set_default r t)
    keeps_default None t i = i
    keeps_default (Some x) t i = keeps.writes t x (default x.sort) i (keeps.defaults x.sort)

    ends_frame : (L : List ℕ) (r : Option Name) (o : Outcome (Unit {0})) → Ends L Any o → Ends L Any (after_frame r o)
    ends_frame L r (Normal a t) e = (tt, keeps_default r t e.1)
    ends_frame L r (Broke k t) e = e
    ends_frame L r (Returned v t) e = (tt, keeps_result r v t e.0 e.1)
    ends_frame L r (Thrown x t) e = e
    ends_frame L r (Stopped t) e = e
    ends_frame L r NoLength e = e
    ends_frame L r NotEnded e = tt

    ends_catch : (L : List ℕ) (o : Outcome (Unit {0})) (x : Name) (k : State → Outcome (Unit {0})) → Ends L Any o → ((r : Reference) (t : State) → is_null r ≡ false → I t → Ends L Any (k (write t x (RefValue r)))) → Ends L Any (after_catch o x k)
    ends_catch L (Normal a t) x k e f = e
    ends_catch L (Broke l t) x k e f = e
    ends_catch L (Returned v t) x k e f = e
    ends_catch L (Thrown r t) x k e f = f r t e.0 e.1
    ends_catch L (Stopped t) x k e f = e
    ends_catch L NoLength x k e f = e
    ends_catch L NotEnded x k e f = tt

    ends_finally : (L : List ℕ) (o : Outcome (Unit {0})) (k : State → Outcome (Unit {0})) → Ends L Any o → ((t : State) → I t → Ends L Any (k t)) → Ends L Any (after_finally o k)
    ends_finally L (Normal a t) k e f = f t e.1
    ends_finally L (Broke l t) k e f = ends_then L Any Any (k t) (λ _ u. Broke l u) (f t e.1) (λ a u _ i. (e.0, i))
    ends_finally L (Returned v t) k e f = ends_then L Any Any (k t) (λ _ u. Returned v u) (f t e.1) (λ a u _ i. (e.0, i))
    ends_finally L (Thrown r t) k e f = ends_then L Any Any (k t) (λ _ u. Thrown r u) (f t e.1) (λ a u _ i. (e.0, i))
    ends_finally L (Stopped t) k e f = e
    ends_finally L NoLength k e f = e
    ends_finally L NotEnded k e f = tt

    ends_loop : (L : List ℕ) (n : ℕ) (test : State → Outcome Value) (body : State → Outcome (Unit {0})) → ((t : State) → I t → Ends L Good (test t)) → ((t : State) → I t → Ends L Any (body t)) → (s : State) → I s → Ends L Any (loop n test body s)
    ends_loop L zero test body e f s i = ends_then L Good Any (test s) _ (e s i) (λ v t _ j. ends_cond L Any (as_bool v) NotEnded (Normal tt t) (λ _. tt) (λ _. (tt, j)))
    ends_loop L (suc n) test body e f s i = ends_then L Good Any (test s) _ (e s i) (λ v t _ j. ends_cond L Any (as_bool v) (then (body t) (λ _ u. loop n test body u)) (Normal tt t) (λ _. ends_then L Any Any (body t) _ (f t j) (λ _ u _ k. ends_loop L n test body e f u k)) (λ _. (tt, j)))

    fresh_some : (h : Heap) (c : ℕ) → is_null (fresh_object h c) ≡ false
    unfolding fresh_object
    fresh_some h c = refl

    ends_raise : {A : Type 0} (L : List ℕ) (G : A → Type 0) (c : ℕ) (s : State) → I s → Ends L G (raise p c s)
    ends_raise L G c s i = (fresh_some (heap_of s) c, keeps.news s (fresh_object (heap_of s) c) i)

    ends_null : {A : Type 0} (L : List ℕ) (G : A → Type 0) (r : Reference) (s : State) (o : Outcome A) → I s → (is_null r ≡ false → Ends L G o) → Ends L G (unless_null p r s o)
    ends_null L G r s o i e = ends_cond L G (is_null r) (raise p p.null_pointer s) o (λ _. ends_raise L G p.null_pointer s i) e

    ends_index : {A : Type 0} (L : List ℕ) (G : A → Type 0) (r : Reference) (z : ℤ) (s : State) (o : Outcome A) → I s → Ends L G o → Ends L G (at_index p r z s o)
    ends_index L G r z s o i e = ends_null L G r s _ i (λ _. ends_cond L G (is_outside z r) (raise p p.bounds s) o (λ _. ends_raise L G p.bounds s i) (λ _. e))

    ends_binary : (L : List ℕ) (op : BinaryOp) (v w : Value) (s : State) → I s → Ends L Good (binary p op v w s)
    ends_binary L binary_ops.Add v w s i = (keeps.wraps ((as_int v) +ℤ (as_int w)), i)
    ends_binary L binary_ops.Subtract v w s i = (keeps.wraps ((as_int v) -ℤ (as_int w)), i)
    ends_binary L binary_ops.Multiply v w s i = (keeps.wraps ((as_int v) *ℤ (as_int w)), i)
    ends_binary L binary_ops.Divide v w s i = ends_cond L Good (is_zero (as_int w)) (raise p p.arithmetic s) (Normal (IntValue (wrap32 (int_div (as_int v) (as_int w)))) s) (λ _. ends_raise L Good p.arithmetic s i) (λ _. (keeps.wraps (int_div (as_int v) (as_int w)), i))
    ends_binary L binary_ops.Remainder v w s i = ends_cond L Good (is_zero (as_int w)) (raise p p.arithmetic s) (Normal (IntValue (wrap32 (int_rem (as_int v) (as_int w)))) s) (λ _. ends_raise L Good p.arithmetic s i) (λ _. (keeps.wraps (int_rem (as_int v) (as_int w)), i))
    ends_binary L binary_ops.Less v w s i = (keeps.bools _, i)
    ends_binary L binary_ops.LessOrEqual v w s i = (keeps.bools _, i)
    ends_binary L binary_ops.Greater v w s i = (keeps.bools _, i)
    ends_binary L binary_ops.GreaterOrEqual v w s i = (keeps.bools _, i)
    ends_binary L binary_ops.Equal v w s i = (keeps.bools _, i)
    ends_binary L binary_ops.NotEqual v w s i = (keeps.bools _, i)

    -- a runner whose calls end so
    abbrev RunnerEnds : Runner p → Type 0
    RunnerEnds run = (m : ℕ) (r : Reference) (vs : List Value) (s : State) → AllGood vs → I s → Ends [] Good (run m r vs s)

    ends_dispatch : (run : Runner p) → RunnerEnds run → (o : Option ℕ) (r : Reference) (vs : List Value) (s : State) → AllGood vs → I s → Ends [] Good (dispatch p run o r vs s)
    ends_dispatch run f None r vs s g i = tt
    ends_dispatch run f (Some m) r vs s g i = f m r vs s g i

    module _ (run : Runner p) (n : ℕ) (called : RunnerEnds run) where
      mutual
        pub eval_ends : (L : List ℕ) (e : Expr) → IsResolvedExpr e → (s : State) → I s → Ends L Good (eval p run n e s)
        eval_ends L (IntLiteral z) o s i = (keeps.literals z o, i)
        eval_ends L (BoolLiteral b) o s i = (keeps.bools b, i)
        eval_ends L NullLiteral o s i = (keeps.refs _, i)
        eval_ends L (Variable x) o s i = (keeps.reads s x i, i)
        eval_ends L (Unary op a) o s i = ends_then L Good Good (eval p run n a s) _ (eval_ends L a o s i) (λ v t g j. (keeps.unaries op v g, j))
        eval_ends L (Binary op a b) o s i = ends_then L Good Good (eval p run n a s) _ (eval_ends L a o.0 s i) (λ v t g j. ends_then L Good Good (eval p run n b t) _ (eval_ends L b o.1 t j) (λ w u h k. ends_binary L op v w u k))
        eval_ends L (AndAlso a b) o s i = ends_then L Good Good (eval p run n a s) _ (eval_ends L a o.0 s i) (λ v t g j. ends_cond L Good (as_bool v) (eval p run n b t) _ (λ _. eval_ends L b o.1 t j) (λ _. (keeps.bools false, j)))
        eval_ends L (OrElse a b) o s i = ends_then L Good Good (eval p run n a s) _ (eval_ends L a o.0 s i) (λ v t g j. ends_cond L Good (as_bool v) _ (eval p run n b t) (λ _. (keeps.bools true, j)) (λ _. eval_ends L b o.1 t j))
        eval_ends L (Conditional a b c) o s i = ends_then L Good Good (eval p run n a s) _ (eval_ends L a o.0 s i) (λ v t g j. ends_cond L Good (as_bool v) (eval p run n b t) (eval p run n c t) (λ _. eval_ends L b o.1 t j) (λ _. eval_ends L c o.2 t j))
        eval_ends L (ReadField a f) o s i = ends_then L Good Good (eval p run n a s) _ (eval_ends L a o s i) (λ v t g j. ends_null L Good (as_ref v) t _ j (λ _. (keeps.selects t (field_sort p f) (as_ref v) (Named f) refl j, j)))
        eval_ends L (ReadElement a x) o s i = ends_then L Good Good (eval p run n a s) _ (eval_ends L a o.0 s i) (λ v t g j. ends_then L Good Good (eval p run n x t) _ (eval_ends L x o.1 t j) (λ w u h k. ends_index L Good (as_ref v) (as_int w) u _ k (keeps.selects u IntSort (as_ref v) (Index (as_int w)) refl k, k)))
        eval_ends L (LengthOf a) o s i = ends_then L Good Good (eval p run n a s) _ (eval_ends L a o s i) (λ v t g j. ends_null L Good (as_ref v) t _ j (λ _. (keeps.lengths (as_ref v), j)))
        eval_ends L (Cast k a) o s i = ends_then L Good Good (eval p run n a s) _ (eval_ends L a o s i) (λ v t g j. ends_cond L Good _ (Normal v t) (raise p p.cast t) (λ _. (g, j)) (λ _. ends_raise L Good p.cast t j))
        eval_ends L (InstanceOf k a) o s i = ends_then L Good Good (eval p run n a s) _ (eval_ends L a o s i) (λ v t g j. (keeps.bools _, j))
        eval_ends L (VirtualCall k m a bs) o s i = ends_then L Good Good (eval p run n a s) _ (eval_ends L a o.0 s i) (λ v t g j. ends_then L AllGood Good (evals p run n bs t) _ (evals_ends L bs o.1 t j) (λ vs u h k. ends_null L Good (as_ref v) u _ k (λ _. ends_more L Good (dispatch p run (p.lookup (class_of p (as_ref v)) m) (as_ref v) vs u) (ends_dispatch run called (p.lookup (class_of p (as_ref v)) m) (as_ref v) vs u h k))))
        eval_ends L (StaticCall m bs) o s i = ends_then L AllGood Good (evals p run n bs s) _ (evals_ends L bs o s i) (λ vs u h k. ends_more L Good (run m Null vs u) (called m Null vs u h k))
        eval_ends L (ConstructorCall c a bs) o s i = ends_then L Good Good (eval p run n a s) _ (eval_ends L a o.0 s i) (λ v t g j. ends_then L AllGood Good (evals p run n bs t) _ (evals_ends L bs o.1 t j) (λ vs u h k. ends_more L Good (run c (as_ref v) vs u) (called c (as_ref v) vs u h k)))
        eval_ends L (DoThen c a) o s i = ends_then L Any Good (exec p run n c s) _ (ends_more L Any (exec p run n c s) (exec_ends [] c o.0 s i)) (λ _ t _ j. eval_ends L a o.1 t j)

        pub evals_ends : (L : List ℕ) (es : Exprs) → AreResolvedExprs es → (s : State) → I s → Ends L AllGood (evals p run n es s)
        evals_ends L NoExprs o s i = (tt, i)
        evals_ends L (ExprThen a bs) o s i = ends_then L Good AllGood (eval p run n a s) _ (eval_ends L a o.0 s i) (λ v t g j. ends_then L AllGood AllGood (evals p run n bs t) _ (evals_ends L bs o.1 t j) (λ vs u h k. ((g, h), k)))

        pub step_ends : (L : List ℕ) (c : Stmt) → IsResolvedStmt L c → (s : State) → I s → Ends L Any (step p run n c s)
        step_ends L (Set x a) o s i = ends_then L Good Any (eval p run n a s) _ (eval_ends L a o s i) (λ v t g j. (tt, keeps.writes t x v j g))
        step_ends L (WriteField a f b) o s i = ends_then L Good Any (eval p run n a s) _ (eval_ends L a o.0 s i) (λ v t g j. ends_then L Good Any (eval p run n b t) _ (eval_ends L b o.1 t j) (λ w u h k. ends_null L Any (as_ref v) u _ k (λ _. (tt, keeps.puts u (as_ref v) (Named f) w k h))))
        step_ends L (WriteElement a x b) o s i = ends_then L Good Any (eval p run n a s) _ (eval_ends L a o.0 s i) (λ v t g j. ends_then L Good Any (eval p run n x t) _ (eval_ends L x o.1 t j) (λ w u h k. ends_then L Good Any (eval p run n b u) _ (eval_ends L b o.2 u k) (λ z y q l. ends_index L Any (as_ref v) (as_int w) y _ l (tt, keeps.puts y (as_ref v) (Index (as_int w)) z l q))))
        step_ends L (Evaluate a) o s i = ends_then L Good Any (eval p run n a s) _ (eval_ends L a o s i) (λ v t g j. (tt, j))
        step_ends L (If a c d) o s i = ends_then L Good Any (eval p run n a s) _ (eval_ends L a o.0 s i) (λ v t g j. ends_cond L Any (as_bool v) (exec p run n c t) (exec p run n d t) (λ _. exec_ends L c o.1 t j) (λ _. exec_ends L d o.2 t j))
        step_ends L (While k a c) o s i = ends_loop L n _ _ (λ t j. eval_ends L a o.0 t j) (λ t j. exec_ends L c o.1 t j) s i
        step_ends L (Block l c) o s i = ends_block L l (exec p run n c s) (exec_ends (l ∷ L) c o s i)
        step_ends L (Break l) o s i = (o, i)
        step_ends L (Catch c x d) o s i = ends_catch L (exec p run n c s) x _ (exec_ends L c o.0 s i)
            (λ r t e j. handlers_end L x d o.2 (write t x (RefValue r)) r (read_own t x (RefValue r) (subst (λ k. IsOf k (RefValue r)) (sym o.1) tt)) e (keeps.writes t x (RefValue r) j (keeps.refs r)))
        step_ends L (Finally c d) o s i = ends_finally L (exec p run n c s) _ (exec_ends L c o.0 s i) (λ t j. exec_ends L d o.1 t j)
        step_ends L (Throw a) o s i = ends_then L Good Any (eval p run n a s) _ (eval_ends L a o s i) (λ v t g j. ends_null L Any (as_ref v) t _ j (λ e. (e, j)))
        step_ends L (ThrowUnchecked a) o s i = absurd o
        step_ends L (Return a) o s i = ends_then L Good Any (eval p run n a s) _ (eval_ends L a o s i) (λ v t g j. (g, j))
        step_ends L ReturnVoid o s i = (tt, i)
        step_ends L (Frame r c) o s i = ends_frame L r (exec p run n c s) (exec_ends L c o s i)
        step_ends L (Raise c) o s i = ends_raise L Any c s i
        step_ends L (AllocObject x c) o s i = (tt, keeps.writes _ x _ (keeps.news s (fresh_object (heap_of s) c) i) (keeps.refs _))
        step_ends L (AllocArray x a) o s i = absurd o
        step_ends L (NewArray x a) o s i = ends_then L Good Any (eval p run n a s) _ (eval_ends L a o s i) (λ v t g j. ends_cond L Any (int_lt (as_int v) (pos 0)) (raise p p.negative_size t) _ (λ _. ends_raise L Any p.negative_size t j) (λ e. ends_cond L Any (is_length (as_int v)) _ NoLength (λ _. (tt, keeps.writes _ x _ (keeps.news t (fresh_array (heap_of t) (magnitude (as_int v))) j) (keeps.refs _))) (λ f. keeps.sizes v g e f)))
        step_ends L Stop o s i = absurd o

        pub exec_ends : (L : List ℕ) (c : PlainCode) → IsResolvedCode L c → (s : State) → I s → Ends L Any (exec p run n c s)
        exec_ends L Done o s i = (tt, i)
        exec_ends L (Then c cs) o s i = ends_then L Any Any (step p run n c s) _ (step_ends L c o.0 s i) (λ _ t _ j. exec_ends L cs o.1 t j)

        -- where the caught reference is not null
        pub handlers_end : (L : List ℕ) (x : Name) (c : PlainCode) → AreHandlers L x c → (s : State) (r : Reference) → read s x ≡ RefValue r → is_null r ≡ false → I s → Ends L Any (exec p run n c s)
        handlers_end L x (Then (If (InstanceOf k (Variable y)) c d) Done) o s r e f i = ends_then L Any Any (cond (is_instance p k (as_ref (read s y))) (exec p run n c s) (exec p run n d s)) _
            (ends_cond L Any (is_instance p k (as_ref (read s y))) (exec p run n c s) (exec p run n d s) (λ _. exec_ends L c o.1 s i) (λ _. handlers_end L x d o.2 s r e f i))
            (λ _ t _ j. (tt, j))
        handlers_end L x (Then (ThrowUnchecked (Variable y)) Done) o s r e f i = (ap (λ v. is_null (as_ref v)) (ap (read s) o ∙ e) ∙ f, i)
        handlers_end L x c o s r e f i = absurd o

    back_ends : (k : Sort) (s : State) → I s → (o : Outcome (Unit {0})) → Ends [] Any o → Ends [] Good (back_in s k o)
    back_ends k s i (Normal u t) e = (keeps.defaults k, keeps.back s t i e.1)
    back_ends k s i (Broke l t) e = tt
    back_ends k s i (Returned v t) e = (keeps.sorted k (given k v) (good_given k v e.0), keeps.back s t i e.1)
    back_ends k s i (Thrown r t) e = (e.0, keeps.back s t i e.1)
    back_ends k s i (Stopped t) e = absurd e
    back_ends k s i NoLength e = e
    back_ends k s i NotEnded e = tt

    body_ends : (o : Option Body) → ((b : Body) → o ≡ Some b → IsResolvedCode [] b.code) → (go : PlainCode → State → Outcome (Unit {0})) → ((c : PlainCode) → IsResolvedCode [] c → (t : State) → I t → Ends [] Any (go c t)) → (r : Reference) (vs : List Value) (s : State) → AllGood vs → I s → Ends [] Good (run_body p o go r vs s)
    body_ends None ok go f r vs s g i = tt
    body_ends (Some b) ok go f r vs s g i = back_ends b.result s i _ (f b.code (ok b refl) _ (keeps.begins s b r vs i g))

    module _ (bodies : (m : ℕ) (b : Body) → p.body m ≡ Some b → IsResolvedCode [] b.code) (n : ℕ) where
      pub runner_ends : (d : ℕ) → RunnerEnds (runner p d n)
      runner_ends zero m r vs s g i = tt
      runner_ends (suc d) m r vs s g i = body_ends (p.body m) (bodies m) (λ c t. exec p (runner p d n) n c t) (λ c o t j. exec_ends (runner p d n) n (runner_ends d) [] c o t j) r vs s g i

      -- so ends resolved code from a good state
      pub exec_at_ends : (d : ℕ) (c : PlainCode) → IsResolvedCode [] c → (s : State) → I s → Ends [] Any (exec_at p d n c s)
      exec_at_ends d c o s i = exec_ends (runner p d n) n (runner_ends d) [] c o s i
