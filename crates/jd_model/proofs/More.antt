-- More depth or turns give the same outcome.
use Rattle.std.proofs.Common.{◌≡◌, ℕ, zero, suc, ◌≤◌, Bool, true, false, cond, Option, Some, None, List, refl, ap, ◌∙◌, subst, arith}
use Rattle.jd_heap.specs.References.{Reference, is_null}
use Rattle.jd_heap.specs.Values.{Value, as_bool, as_ref}
use Rattle.jd_model.specs.Outcomes.{Outcome, Normal, Broke, Returned, Thrown, Stopped, NoLength, NotEnded, then, loop, after_block, after_frame, after_catch, after_finally, back_in, IsOver, Extends}
use Rattle.jd_model.specs.Programs.{Program, Body, class_of}
use Rattle.jd_model.specs.Runs.{Runner, eval, evals, step, exec, exec_at, runner, run_body, dispatch, unless_null, raise}
use Rattle.jd_model.specs.States.{State, write}
use Rattle.jd_syntax.specs.Codes.{Expr, IntLiteral, BoolLiteral, NullLiteral, Variable, Unary, Binary, AndAlso, OrElse, Conditional, ReadField, ReadElement, LengthOf, Cast, InstanceOf, VirtualCall, StaticCall, ConstructorCall, DoThen, Exprs, NoExprs, ExprThen, Stmt, Set, WriteField, WriteElement, Evaluate, If, While, Block, Break, Catch, Finally, Throw, ThrowUnchecked, Return, ReturnVoid, Frame, Raise, AllocObject, AllocArray, NewArray, Stop, PlainCode, Done, Then}
use Rattle.jd_syntax.specs.Names.{Name}

pub again : {A : Type 0} (o : Outcome A) → Extends o o
again o over = refl

pub ext_trans : {A : Type 0} (o q r : Outcome A) → Extends o q → Extends q r → Extends o r
ext_trans o q r h g over = h over ∙ g (subst IsOver (h over) over)

-- through what keeps a run that is not ended
pub strict : {A B : Type 0} (f : Outcome A → Outcome B) → f NotEnded ≡ NotEnded → (o q : Outcome A) → Extends o q → Extends (f o) (f q)
strict f e (Normal a s) q h over = ap f (h tt)
strict f e (Broke l s) q h over = ap f (h tt)
strict f e (Returned v s) q h over = ap f (h tt)
strict f e (Thrown r s) q h over = ap f (h tt)
strict f e (Stopped s) q h over = ap f (h tt)
strict f e NoLength q h over = ap f (h tt)
strict f e NotEnded q h over = absurd (subst IsOver e over)

then_more : {A B : Type 0} (o : Outcome A) (k m : A → State → Outcome B) → ((a : A) (s : State) → Extends (k a s) (m a s)) → Extends (then o k) (then o m)
then_more (Normal a s) k m h = h a s
then_more (Broke l s) k m h = again (Broke l s)
then_more (Returned v s) k m h = again (Returned v s)
then_more (Thrown r s) k m h = again (Thrown r s)
then_more (Stopped s) k m h = again (Stopped s)
then_more NoLength k m h = again NoLength
then_more NotEnded k m h = again NotEnded

pub then_ext : {A B : Type 0} (o q : Outcome A) (k m : A → State → Outcome B) → Extends o q → ((a : A) (s : State) → Extends (k a s) (m a s)) → Extends (then o k) (then q m)
then_ext o q k m h g = ext_trans (then o k) (then q k) (then q m) (strict (λ o. then o k) refl o q h) (then_more q k m g)

pub cond_ext : {A : Type 0} (b : Bool) (o q r s : Outcome A) → Extends o q → Extends r s → Extends (cond b o r) (cond b q s)
cond_ext true o q r s h g = h
cond_ext false o q r s h g = g

catch_more : (o : Outcome (Unit {0})) (x : Name) (k m : State → Outcome (Unit {0})) → ((s : State) → Extends (k s) (m s)) → Extends (after_catch o x k) (after_catch o x m)
catch_more (Normal a s) x k m h = again (Normal a s)
catch_more (Broke l s) x k m h = again (Broke l s)
catch_more (Returned v s) x k m h = again (Returned v s)
catch_more (Thrown r s) x k m h = h (write s x _)
catch_more (Stopped s) x k m h = again (Stopped s)
catch_more NoLength x k m h = again NoLength
catch_more NotEnded x k m h = again NotEnded

pub catch_ext : (o q : Outcome (Unit {0})) (x : Name) (k m : State → Outcome (Unit {0})) → Extends o q → ((s : State) → Extends (k s) (m s)) → Extends (after_catch o x k) (after_catch q x m)
catch_ext o q x k m h g = ext_trans (after_catch o x k) (after_catch q x k) (after_catch q x m) (strict (λ o. after_catch o x k) refl o q h) (catch_more q x k m g)

finally_more : (o : Outcome (Unit {0})) (k m : State → Outcome (Unit {0})) → ((s : State) → Extends (k s) (m s)) → Extends (after_finally o k) (after_finally o m)
finally_more (Normal a s) k m h = h s
finally_more (Broke l s) k m h = strict (λ o. then o (λ _ t. Broke l t)) refl (k s) (m s) (h s)
finally_more (Returned v s) k m h = strict (λ o. then o (λ _ t. Returned v t)) refl (k s) (m s) (h s)
finally_more (Thrown r s) k m h = strict (λ o. then o (λ _ t. Thrown r t)) refl (k s) (m s) (h s)
finally_more (Stopped s) k m h = again (Stopped s)
finally_more NoLength k m h = again NoLength
finally_more NotEnded k m h = again NotEnded

pub finally_ext : (o q : Outcome (Unit {0})) (k m : State → Outcome (Unit {0})) → Extends o q → ((s : State) → Extends (k s) (m s)) → Extends (after_finally o k) (after_finally q m)
finally_ext o q k m h g = ext_trans (after_finally o k) (after_finally q k) (after_finally q m) (strict (λ o. after_finally o k) refl o q h) (finally_more q k m g)

pub loop_ext : (m n : ℕ) → m ≤ n → (test test' : State → Outcome Value) (body body' : State → Outcome (Unit {0})) → ((s : State) → Extends (test s) (test' s)) → ((s : State) → Extends (body s) (body' s)) → (s : State) → Extends (loop m test body s) (loop n test' body' s)
loop_ext zero zero le test test' body body' h g s =
    then_ext (test s) (test' s) _ _ (h s) (λ v t. again (cond (as_bool v) NotEnded (Normal tt t)))
loop_ext zero (suc n) le test test' body body' h g s =
    then_ext (test s) (test' s) _ _ (h s) (λ v t. cond_ext (as_bool v) _ _ _ _ (λ over. absurd over) (again (Normal tt t)))
loop_ext (suc m) zero le test test' body body' h g s = absurd (omega arith)
loop_ext (suc m) (suc n) le test test' body body' h g s =
    then_ext (test s) (test' s) _ _ (h s) (λ v t. cond_ext (as_bool v) _ _ _ _
    (then_ext (body t) (body' t) _ _ (g t) (λ _ u. loop_ext m n (omega arith) test test' body body' h g u))
    (again (Normal tt t)))

module _ (p : Program) where
  null_ext : {A : Type 0} (r : Reference) (s : State) (o q : Outcome A) → Extends o q → Extends (unless_null p r s o) (unless_null p r s q)
  null_ext r s o q h = cond_ext (is_null r) _ _ _ _ (again (raise p p.null_pointer s)) h

  dispatch_ext : (run run' : Runner p) → ((m : ℕ) (r : Reference) (vs : List Value) (s : State) → Extends (run m r vs s) (run' m r vs s)) → (o : Option ℕ) (r : Reference) (vs : List Value) (s : State) → Extends (dispatch p run o r vs s) (dispatch p run' o r vs s)
  dispatch_ext run run' h None r vs s = again NotEnded
  dispatch_ext run run' h (Some m) r vs s = h m r vs s

  module _ (run run' : Runner p) (m n : ℕ) (le : m ≤ n) (runs : (i : ℕ) (r : Reference) (vs : List Value) (s : State) → Extends (run i r vs s) (run' i r vs s)) where
    mutual
      pub eval_ext : (e : Expr) (s : State) → Extends (eval p run m e s) (eval p run' n e s)
      eval_ext (IntLiteral z) s = again _
      eval_ext (BoolLiteral b) s = again _
      eval_ext NullLiteral s = again _
      eval_ext (Variable x) s = again _
      eval_ext (Unary op a) s = then_ext _ _ _ _ (eval_ext a s) (λ v t. again _)
      eval_ext (Binary op a b) s = then_ext _ _ _ _ (eval_ext a s) (λ v t. then_ext _ _ _ _ (eval_ext b t) (λ w u. again _))
      eval_ext (AndAlso a b) s = then_ext _ _ _ _ (eval_ext a s) (λ v t. cond_ext (as_bool v) _ _ _ _ (eval_ext b t) (again _))
      eval_ext (OrElse a b) s = then_ext _ _ _ _ (eval_ext a s) (λ v t. cond_ext (as_bool v) _ _ _ _ (again _) (eval_ext b t))
      eval_ext (Conditional a b c) s = then_ext _ _ _ _ (eval_ext a s) (λ v t. cond_ext (as_bool v) _ _ _ _ (eval_ext b t) (eval_ext c t))
      eval_ext (ReadField a f) s = then_ext _ _ _ _ (eval_ext a s) (λ v t. again _)
      eval_ext (ReadElement a i) s = then_ext _ _ _ _ (eval_ext a s) (λ v t. then_ext _ _ _ _ (eval_ext i t) (λ w u. again _))
      eval_ext (LengthOf a) s = then_ext _ _ _ _ (eval_ext a s) (λ v t. again _)
      eval_ext (Cast k a) s = then_ext _ _ _ _ (eval_ext a s) (λ v t. again _)
      eval_ext (InstanceOf k a) s = then_ext _ _ _ _ (eval_ext a s) (λ v t. again _)
      eval_ext (VirtualCall k i a bs) s = then_ext _ _ _ _ (eval_ext a s) (λ v t. then_ext _ _ _ _ (evals_ext bs t) (λ vs u. null_ext (as_ref v) u _ _ (dispatch_ext run run' runs (p.lookup (class_of p (as_ref v)) i) (as_ref v) vs u)))
      eval_ext (StaticCall i bs) s = then_ext _ _ _ _ (evals_ext bs s) (λ vs t. runs i _ vs t)
      eval_ext (ConstructorCall c a bs) s = then_ext _ _ _ _ (eval_ext a s) (λ v t. then_ext _ _ _ _ (evals_ext bs t) (λ vs u. runs c (as_ref v) vs u))
      eval_ext (DoThen c a) s = then_ext _ _ _ _ (exec_ext c s) (λ _ t. eval_ext a t)

      pub evals_ext : (es : Exprs) (s : State) → Extends (evals p run m es s) (evals p run' n es s)
      evals_ext NoExprs s = again _
      evals_ext (ExprThen a bs) s = then_ext _ _ _ _ (eval_ext a s) (λ v t. then_ext _ _ _ _ (evals_ext bs t) (λ vs u. again _))

      pub step_ext : (c : Stmt) (s : State) → Extends (step p run m c s) (step p run' n c s)
      step_ext (Set x a) s = then_ext _ _ _ _ (eval_ext a s) (λ v t. again _)
      step_ext (WriteField a f b) s = then_ext _ _ _ _ (eval_ext a s) (λ v t. then_ext _ _ _ _ (eval_ext b t) (λ w u. again _))
      step_ext (WriteElement a i b) s = then_ext _ _ _ _ (eval_ext a s) (λ v t. then_ext _ _ _ _ (eval_ext i t) (λ w u. then_ext _ _ _ _ (eval_ext b u) (λ z y. again _)))
      step_ext (Evaluate a) s = then_ext _ _ _ _ (eval_ext a s) (λ v t. again _)
      step_ext (If a c d) s = then_ext _ _ _ _ (eval_ext a s) (λ v t. cond_ext (as_bool v) _ _ _ _ (exec_ext c t) (exec_ext d t))
      step_ext (While k a c) s = loop_ext m n le _ _ _ _ (λ t. eval_ext a t) (λ t. exec_ext c t) s
      step_ext (Block l c) s = strict (after_block l) refl _ _ (exec_ext c s)
      step_ext (Break l) s = again _
      step_ext (Catch c x d) s = catch_ext _ _ x _ _ (exec_ext c s) (λ t. exec_ext d t)
      step_ext (Finally c d) s = finally_ext _ _ _ _ (exec_ext c s) (λ t. exec_ext d t)
      step_ext (Throw a) s = then_ext _ _ _ _ (eval_ext a s) (λ v t. again _)
      step_ext (ThrowUnchecked a) s = then_ext _ _ _ _ (eval_ext a s) (λ v t. again _)
      step_ext (Return a) s = then_ext _ _ _ _ (eval_ext a s) (λ v t. again _)
      step_ext ReturnVoid s = again _
      step_ext (Frame r c) s = strict (after_frame r) refl _ _ (exec_ext c s)
      step_ext (Raise c) s = again _
      step_ext (AllocObject x c) s = again _
      step_ext (AllocArray x a) s = then_ext _ _ _ _ (eval_ext a s) (λ v t. again _)
      step_ext (NewArray x a) s = then_ext _ _ _ _ (eval_ext a s) (λ v t. again _)
      step_ext Stop s = again _

      pub exec_ext : (c : PlainCode) (s : State) → Extends (exec p run m c s) (exec p run' n c s)
      exec_ext Done s = again _
      exec_ext (Then c cs) s = then_ext _ _ _ _ (step_ext c s) (λ _ t. exec_ext cs t)

  body_ext : (o : Option Body) (go go' : PlainCode → State → Outcome (Unit {0})) → ((c : PlainCode) (s : State) → Extends (go c s) (go' c s)) → (r : Reference) (vs : List Value) (s : State) → Extends (run_body p o go r vs s) (run_body p o go' r vs s)
  body_ext None go go' h r vs s = again NotEnded
  body_ext (Some b) go go' h r vs s = strict (back_in s b.result) refl _ _ (h b.code _)

  pub runner_ext : (d e m n : ℕ) → d ≤ e → m ≤ n → (i : ℕ) (r : Reference) (vs : List Value) (s : State) → Extends (runner p d m i r vs s) (runner p e n i r vs s)
  runner_ext zero e m n le lt i r vs s = λ over. absurd over
  runner_ext (suc d) zero m n le lt i r vs s = absurd (omega arith)
  runner_ext (suc d) (suc e) m n le lt i r vs s =
      body_ext (p.body i) _ _ (λ c t. exec_ext (runner p d m) (runner p e n) m n lt (runner_ext d e m n (omega arith) lt) c t) r vs s

  pub more : (d e m n : ℕ) → d ≤ e → m ≤ n → (c : PlainCode) (s : State) → Extends (exec_at p d m c s) (exec_at p e n c s)
  more d e m n le lt c s = exec_ext (runner p d m) (runner p e n) m n lt (runner_ext d e m n le lt) c s
