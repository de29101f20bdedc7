-- Loops in any context: an invariant for a box, and an invariant with a variant for a diamond.
use Rattle.std.proofs.Common.{◌≡◌, ℕ, zero, suc, ◌+◌, ◌≤◌, ◌<◌, Bool, true, false, cond, refl, sym, ap, ◌∙◌, subst, arith}
use Rattle.jd_heap.specs.Values.{Value, as_bool}
use Rattle.jd_model.proofs.Contexts.{around}
use Rattle.jd_model.proofs.More.{again, strict, then_ext, catch_ext, finally_ext, loop_ext, eval_ext, exec_ext, runner_ext}
use Rattle.jd_model.specs.Contexts.{Context, Here, InBlock, InFrame, InCatch, InFinally}
use Rattle.jd_model.specs.Outcomes.{Outcome, Normal, Broke, Returned, Thrown, Stopped, NoLength, NotEnded, then, loop, after_block, after_frame, after_catch, after_finally, IsOver, Extends}
use Rattle.jd_model.specs.Programs.{Program}
use Rattle.jd_model.specs.Runs.{Runner, eval, exec, runner}
use Rattle.jd_model.specs.States.{State}
use Rattle.jd_model.specs.Truth.{IfEnds, EndsIn}
use Rattle.jd_syntax.specs.Codes.{Expr, PlainCode}

module _ (F : Outcome (Unit {0}) → Outcome (Unit {0})) (F_open : F NotEnded ≡ NotEnded) (test : State → Outcome Value) (body : State → Outcome (Unit {0})) (inv : State → Type 0) (A : State → Type 0) where
  -- a turn that ends normally leads to the invariant, and each other end to what the box wants after the context
  abbrev pub BoxTurn : Outcome (Unit {0}) → Type 0
  BoxTurn (Normal x u) = inv u
  BoxTurn (Broke l u) = IfEnds (F (Broke l u)) A
  BoxTurn (Returned v u) = IfEnds (F (Returned v u)) A
  BoxTurn (Thrown r u) = IfEnds (F (Thrown r u)) A
  BoxTurn (Stopped u) = IfEnds (F (Stopped u)) A
  BoxTurn NoLength = IfEnds (F NoLength) A
  BoxTurn NotEnded = Unit {0}

  abbrev pub BoxChoice : Bool → State → Type 0
  BoxChoice true u = BoxTurn (body u)
  BoxChoice false u = IfEnds (F (Normal tt u)) A

  abbrev pub BoxTest : Outcome Value → Type 0
  BoxTest (Normal v u) = BoxChoice (as_bool v) u
  BoxTest (Broke l u) = IfEnds (F (Broke l u)) A
  BoxTest (Returned v u) = IfEnds (F (Returned v u)) A
  BoxTest (Thrown r u) = IfEnds (F (Thrown r u)) A
  BoxTest (Stopped u) = IfEnds (F (Stopped u)) A
  BoxTest NoLength = IfEnds (F NoLength) A
  BoxTest NotEnded = Unit {0}

  open_end : IfEnds (F NotEnded) A
  open_end = subst (λ o. IfEnds o A) (sym F_open) tt

  first : (b : Bool) (u : State) → BoxChoice b u → IfEnds (F (cond b NotEnded (Normal tt u))) A
  first true u h = open_end
  first false u h = h

  turn : (m : ℕ) → ((t : State) → inv t → IfEnds (F (loop m test body t)) A) → (o : Outcome (Unit {0})) → BoxTurn o → IfEnds (F (then o (λ _ u. loop m test body u))) A
  turn m ih (Normal x u) h = ih u h
  turn m ih (Broke l u) h = h
  turn m ih (Returned v u) h = h
  turn m ih (Thrown r u) h = h
  turn m ih (Stopped u) h = h
  turn m ih NoLength h = h
  turn m ih NotEnded h = open_end

  next : (m : ℕ) → ((t : State) → inv t → IfEnds (F (loop m test body t)) A) → (b : Bool) (u : State) → BoxChoice b u → IfEnds (F (cond b (then (body u) (λ _ w. loop m test body w)) (Normal tt u))) A
  next m ih true u h = turn m ih (body u) h
  next m ih false u h = h

  tested : (k : Value → State → Outcome (Unit {0})) → ((v : Value) (u : State) → BoxChoice (as_bool v) u → IfEnds (F (k v u)) A) → (o : Outcome Value) → BoxTest o → IfEnds (F (then o k)) A
  tested k h (Normal v u) g = h v u g
  tested k h (Broke l u) g = g
  tested k h (Returned v u) g = g
  tested k h (Thrown r u) g = g
  tested k h (Stopped u) g = g
  tested k h NoLength g = g
  tested k h NotEnded g = open_end

  pub box_loop : ((t : State) → inv t → BoxTest (test t)) → (m : ℕ) (t : State) → inv t → IfEnds (F (loop m test body t)) A
  box_loop keeps zero t h = tested _ (λ v u g. first (as_bool v) u g) (test t) (keeps t h)
  box_loop keeps (suc m) t h = tested _ (λ v u g. next m (box_loop keeps m) (as_bool v) u g) (test t) (keeps t h)

-- a context passes on a run that is not ended, and one that was stopped
module _ (p : Program) (run : Runner p) (n : ℕ) where
  pub around_open : (k : Context) → around p run n k NotEnded ≡ NotEnded
  unfolding around
  around_open (Here rest) = refl
  around_open (InBlock l k rest) = ap (λ o. then (after_block l o) (λ _ t. exec p run n rest t)) (around_open k)
  around_open (InFrame r k rest) = ap (λ o. then (after_frame r o) (λ _ t. exec p run n rest t)) (around_open k)
  around_open (InCatch k x h rest) = ap (λ o. then (after_catch o x (λ t. exec p run n h t)) (λ _ t. exec p run n rest t)) (around_open k)
  around_open (InFinally k f rest) = ap (λ o. then (after_finally o (λ t. exec p run n f t)) (λ _ t. exec p run n rest t)) (around_open k)

  pub around_stopped : (k : Context) (s : State) → around p run n k (Stopped s) ≡ Stopped s
  unfolding around
  around_stopped (Here rest) s = refl
  around_stopped (InBlock l k rest) s = ap (λ o. then (after_block l o) (λ _ t. exec p run n rest t)) (around_stopped k s)
  around_stopped (InFrame r k rest) s = ap (λ o. then (after_frame r o) (λ _ t. exec p run n rest t)) (around_stopped k s)
  around_stopped (InCatch k x h rest) s = ap (λ o. then (after_catch o x (λ t. exec p run n h t)) (λ _ t. exec p run n rest t)) (around_stopped k s)
  around_stopped (InFinally k f rest) s = ap (λ o. then (after_finally o (λ t. exec p run n f t)) (λ _ t. exec p run n rest t)) (around_stopped k s)

-- more depth and turns, in a context too
module _ (p : Program) (d e m n : ℕ) (le : d ≤ e) (lt : m ≤ n) where
  more_exec : (c : PlainCode) (s : State) → Extends (exec p (runner p d m) m c s) (exec p (runner p e n) n c s)
  more_exec c s = exec_ext p (runner p d m) (runner p e n) m n lt (runner_ext p d e m n le lt) c s

  pub around_ext : (k : Context) (o q : Outcome (Unit {0})) → Extends o q → Extends (around p (runner p d m) m k o) (around p (runner p e n) n k q)
  unfolding around
  around_ext (Here rest) o q h = then_ext o q _ _ h (λ _ t. more_exec rest t)
  around_ext (InBlock l k rest) o q h = then_ext (after_block l (around p (runner p d m) m k o)) (after_block l (around p (runner p e n) n k q)) _ _ (strict (after_block l) refl _ _ (around_ext k o q h)) (λ _ t. more_exec rest t)
  around_ext (InFrame r k rest) o q h = then_ext (after_frame r (around p (runner p d m) m k o)) (after_frame r (around p (runner p e n) n k q)) _ _ (strict (after_frame r) refl _ _ (around_ext k o q h)) (λ _ t. more_exec rest t)
  around_ext (InCatch k x c rest) o q h = then_ext (after_catch (around p (runner p d m) m k o) x (λ t. exec p (runner p d m) m c t)) (after_catch (around p (runner p e n) n k q) x (λ t. exec p (runner p e n) n c t)) _ _ (catch_ext _ _ x _ _ (around_ext k o q h) (λ t. more_exec c t)) (λ _ t. more_exec rest t)
  around_ext (InFinally k f rest) o q h = then_ext (after_finally (around p (runner p d m) m k o) (λ t. exec p (runner p d m) m f t)) (after_finally (around p (runner p e n) n k q) (λ t. exec p (runner p e n) n f t)) _ _ (finally_ext _ _ _ _ (around_ext k o q h) (λ t. more_exec f t)) (λ _ t. more_exec rest t)

ends_over : {A : Type 0} (o : Outcome A) (P : State → Type 0) → EndsIn o P → IsOver o
ends_over (Normal a s) P h = tt
ends_over (Broke l s) P h = tt
ends_over (Returned v s) P h = tt
ends_over (Thrown r s) P h = tt
ends_over (Stopped s) P h = tt
ends_over NoLength P h = tt
ends_over NotEnded P h = h

pub ends_ext : {A : Type 0} (o q : Outcome A) (P : State → Type 0) → Extends o q → EndsIn o P → EndsIn q P
ends_ext o q P h e = subst (λ r. EndsIn r P) (h (ends_over o P e)) e

module _ (p : Program) (k : Context) (e : Expr) (c : PlainCode) (inv : State → Type 0) (var : State → ℕ) (A : State → Type 0) where
  abbrev test_at : ℕ → ℕ → State → Outcome Value
  test_at f n t = eval p (runner p f n) n e t

  abbrev body_at : ℕ → ℕ → State → Outcome (Unit {0})
  body_at f n t = exec p (runner p f n) n c t

  abbrev outer : ℕ → ℕ → Outcome (Unit {0}) → Outcome (Unit {0})
  outer f n o = around p (runner p f n) n k o

  abbrev loop_at : ℕ → ℕ → ℕ → State → Outcome (Unit {0})
  loop_at f n m t = loop m (test_at f n) (body_at f n) t

  -- a turn that ends normally keeps the invariant and lowers the variant
  abbrev pub DiamondTurn : ℕ → ℕ → ℕ → Outcome (Unit {0}) → Type 0
  DiamondTurn f n v (Normal x u) = inv u × (var u < v)
  DiamondTurn f n v (Broke l u) = EndsIn (outer f n (Broke l u)) A
  DiamondTurn f n v (Returned w u) = EndsIn (outer f n (Returned w u)) A
  DiamondTurn f n v (Thrown r u) = EndsIn (outer f n (Thrown r u)) A
  DiamondTurn f n v (Stopped u) = EndsIn (outer f n (Stopped u)) A
  DiamondTurn f n v NoLength = EndsIn (outer f n NoLength) A
  DiamondTurn f n v NotEnded = ⊥

  abbrev pub DiamondChoice : ℕ → ℕ → ℕ → Bool → State → Type 0
  DiamondChoice f n v true u = DiamondTurn f n v (body_at f n u)
  DiamondChoice f n v false u = EndsIn (outer f n (Normal tt u)) A

  abbrev pub DiamondTest : ℕ → ℕ → ℕ → Outcome Value → Type 0
  DiamondTest f n v (Normal w u) = DiamondChoice f n v (as_bool w) u
  DiamondTest f n v (Broke l u) = EndsIn (outer f n (Broke l u)) A
  DiamondTest f n v (Returned w u) = EndsIn (outer f n (Returned w u)) A
  DiamondTest f n v (Thrown r u) = EndsIn (outer f n (Thrown r u)) A
  DiamondTest f n v (Stopped u) = EndsIn (outer f n (Stopped u)) A
  DiamondTest f n v NoLength = EndsIn (outer f n NoLength) A
  DiamondTest f n v NotEnded = ⊥

  -- by denial: some depth and turns end the loop as wanted
  abbrev pub LoopEnds : State → Type 0
  LoopEnds t = ¬ ((f n : ℕ) → ¬ (EndsIn (outer f n (loop_at f n n t)) A))

  -- what a loop does after its test
  rest_at : ℕ → ℕ → ℕ → State → Outcome (Unit {0})
  rest_at f n zero u = NotEnded
  rest_at f n (suc m) u = then (body_at f n u) (λ _ w. loop_at f n m w)

  loop_is : (f n m : ℕ) (t : State) → loop_at f n m t ≡ then (test_at f n t) (λ v u. cond (as_bool v) (rest_at f n m u) (Normal tt u))
  unfolding rest_at
  loop_is f n zero t = refl
  loop_is f n (suc m) t = refl

  -- where the test's run is known
  ends_by : (f n : ℕ) (t : State) (o : Outcome Value) → test_at f n t ≡ o → EndsIn (outer f n (then o (λ v u. cond (as_bool v) (rest_at f n n u) (Normal tt u)))) A → LoopEnds t
  ends_by f n t o q h none = none f n (subst (λ r. EndsIn (outer f n r) A) (sym (loop_is f n n t ∙ ap (λ r. then r (λ v u. cond (as_bool v) (rest_at f n n u) (Normal tt u))) q)) h)

  -- one turn, and then the loop from where it led
  one_turn : (f n : ℕ) (t u w : State) (v : Value) → as_bool v ≡ true → test_at f n t ≡ Normal v u → body_at f n u ≡ Normal tt w → LoopEnds w → LoopEnds t
  one_turn f n t u w v on q r h none = h (λ f' n' end.
      let ff = f + f' in
      let nn = suc (n + n') in
      let up : f ≤ ff = omega arith in
      let up' : f' ≤ ff = omega arith in
      let big : n ≤ nn = omega arith in
      let big' : n' ≤ nn = omega arith in
      let less : n' ≤ n + n' = omega arith in
      let runs = runner_ext p f ff n nn up big in
      let runs' = runner_ext p f' ff n' nn up' big' in
      let test : test_at ff nn t ≡ Normal v u = sym (eval_ext p (runner p f n) (runner p ff nn) n nn big runs e t (subst IsOver (sym q) tt)) ∙ q in
      let body : body_at ff nn u ≡ Normal tt w = sym (exec_ext p (runner p f n) (runner p ff nn) n nn big runs c u (subst IsOver (sym r) tt)) ∙ r in
      let goes : loop_at ff nn nn t ≡ loop_at ff nn (n + n') w =
      ap (λ o. then o (λ v u. cond (as_bool v) (then (body_at ff nn u) (λ _ w. loop_at ff nn (n + n') w)) (Normal tt u))) test
      ∙ ap (λ b. cond b (then (body_at ff nn u) (λ _ w. loop_at ff nn (n + n') w)) (Normal tt u)) on
      ∙ ap (λ o. then o (λ _ w. loop_at ff nn (n + n') w)) body in
      let more = loop_ext n' (n + n') less (test_at f' n') (test_at ff nn) (body_at f' n') (body_at ff nn) (λ s. eval_ext p (runner p f' n') (runner p ff nn) n' nn big' runs' e s) (λ s. exec_ext p (runner p f' n') (runner p ff nn) n' nn big' runs' c s) w in
      none ff nn (subst (λ o. EndsIn (outer ff nn o) A) (sym goes)
      (ends_ext (outer f' n' (loop_at f' n' n' w)) (outer ff nn (loop_at ff nn (n + n') w)) A (around_ext p f' ff n' nn up' big' k _ _ more) end)))

  turn_ends : (f n : ℕ) (t u : State) (v : Value) → as_bool v ≡ true → test_at f n t ≡ Normal v u → (o : Outcome (Unit {0})) → body_at f n u ≡ o → IsOver o → EndsIn (outer f n (then o (λ _ w. loop_at f (suc n) n w))) A → LoopEnds t
  turn_ends f n t u v on q o r over h none =
      let up : f ≤ f = omega arith in
      let big : n ≤ suc n = omega arith in
      let runs = runner_ext p f f n (suc n) up big in
      let test : test_at f (suc n) t ≡ Normal v u = sym (eval_ext p (runner p f n) (runner p f (suc n)) n (suc n) big runs e t (subst IsOver (sym q) tt)) ∙ q in
      let body : body_at f (suc n) u ≡ o = sym (exec_ext p (runner p f n) (runner p f (suc n)) n (suc n) big runs c u (subst IsOver (sym r) over)) ∙ r in
      let goes : loop_at f (suc n) (suc n) t ≡ then o (λ _ w. loop_at f (suc n) n w) =
      ap (λ o. then o (λ v u. cond (as_bool v) (then (body_at f (suc n) u) (λ _ w. loop_at f (suc n) n w)) (Normal tt u))) test
      ∙ ap (λ b. cond b (then (body_at f (suc n) u) (λ _ w. loop_at f (suc n) n w)) (Normal tt u)) on
      ∙ ap (λ o. then o (λ _ w. loop_at f (suc n) n w)) body in
      none f (suc n) (subst (λ o. EndsIn (outer f (suc n) o) A) (sym goes)
      (ends_ext (outer f n (then o (λ _ w. loop_at f (suc n) n w))) (outer f (suc n) (then o (λ _ w. loop_at f (suc n) n w))) A (around_ext p f f n (suc n) up big k _ _ (again (then o (λ _ w. loop_at f (suc n) n w)))) h))

  by_turn : (f n : ℕ) (t u : State) (v : Value) → as_bool v ≡ true → test_at f n t ≡ Normal v u → ((w : State) → inv w → var w < var t → LoopEnds w) → (o : Outcome (Unit {0})) → body_at f n u ≡ o → DiamondTurn f n (var t) o → LoopEnds t
  by_turn f n t u v on q ih (Normal x w) r h = one_turn f n t u w v on q r (ih w h.0 h.1)
  by_turn f n t u v on q ih (Broke l w) r h = turn_ends f n t u v on q (Broke l w) r tt h
  by_turn f n t u v on q ih (Returned x w) r h = turn_ends f n t u v on q (Returned x w) r tt h
  by_turn f n t u v on q ih (Thrown x w) r h = turn_ends f n t u v on q (Thrown x w) r tt h
  by_turn f n t u v on q ih (Stopped w) r h = turn_ends f n t u v on q (Stopped w) r tt h
  by_turn f n t u v on q ih NoLength r h = turn_ends f n t u v on q NoLength r tt h
  by_turn f n t u v on q ih NotEnded r h = absurd h

  by_choice : (f n : ℕ) (t u : State) (v : Value) (b : Bool) → as_bool v ≡ b → test_at f n t ≡ Normal v u → ((w : State) → inv w → var w < var t → LoopEnds w) → DiamondChoice f n (var t) b u → LoopEnds t
  by_choice f n t u v true y q ih h = by_turn f n t u v y q ih (body_at f n u) refl h
  by_choice f n t u v false y q ih h = ends_by f n t (Normal v u) q (subst (λ b. EndsIn (outer f n (cond b (rest_at f n n u) (Normal tt u))) A) (sym y) h)

  by_test : (f n : ℕ) (t : State) → ((w : State) → inv w → var w < var t → LoopEnds w) → (o : Outcome Value) → test_at f n t ≡ o → DiamondTest f n (var t) o → LoopEnds t
  by_test f n t ih (Normal v u) q h = by_choice f n t u v (as_bool v) refl q ih h
  by_test f n t ih (Broke l u) q h = ends_by f n t (Broke l u) q h
  by_test f n t ih (Returned w u) q h = ends_by f n t (Returned w u) q h
  by_test f n t ih (Thrown r u) q h = ends_by f n t (Thrown r u) q h
  by_test f n t ih (Stopped u) q h = ends_by f n t (Stopped u) q h
  by_test f n t ih NoLength q h = ends_by f n t NoLength q h
  by_test f n t ih NotEnded q h = absurd h

  below : ((t : State) → inv t → ¬ ((f n : ℕ) → ¬ (DiamondTest f n (var t) (test_at f n t)))) → (m : ℕ) (t : State) → var t < m → inv t → LoopEnds t
  below keeps zero t lt i = λ none. absurd (omega arith)
  below keeps (suc m) t lt i = λ none. keeps t i (λ f n h. by_test f n t (λ w j le. below keeps m w (omega arith) j) (test_at f n t) refl h none)

  pub diamond_loop : ((t : State) → inv t → ¬ ((f n : ℕ) → ¬ (DiamondTest f n (var t) (test_at f n t)))) → (t : State) → inv t → LoopEnds t
  diamond_loop keeps t i = below keeps (suc (var t)) t (omega arith) i
