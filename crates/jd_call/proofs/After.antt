-- From the truth of a modality whose focus is replaced to the truth of the modality, where the two foci end alike.
use Rattle.std.proofs.Common.{None, Option, Some, ap, arith, refl, subst, sym, ◌≡◌, ◌≤◌, ◌∙◌, ◌+◌, ℕ, []}
use Rattle.jd_call.specs.Calls.{call_stmt}
use Rattle.jd_heap.specs.References.{Reference}
use Rattle.jd_heap.specs.Values.{RefValue, Value, as_ref}
use Rattle.jd_model.proofs.Around.{fill_agree}
use Rattle.jd_model.proofs.Coincidence.{Agree, OutcomesAgree, ends_in_agree, if_ends_agree, normal, thrown, truth_agree}
use Rattle.jd_model.proofs.Contexts.{around, exec-fill}
use Rattle.jd_model.proofs.More.{more}
use Rattle.jd_model.specs.Contexts.{Context, Here, InBlock, InCatch, InFinally, InFrame, fill, one}
use Rattle.jd_model.specs.Occurrences.{ContextIn, FormulaIn}
use Rattle.jd_model.specs.Outcomes.{Broke, IsOver, NoLength, Normal, NotEnded, Outcome, Returned, Stopped, Thrown, after_block, after_catch, after_finally, after_frame, then}
use Rattle.jd_model.specs.Programs.{Program}
use Rattle.jd_model.specs.Runs.{Runner, eval, exec, exec_at, runner, with_one}
use Rattle.jd_model.specs.States.{State, read, write}
use Rattle.jd_model.specs.Truth.{EndsIn, IfEnds, InvTruth, Setting, Truth}
use Rattle.jd_syntax.specs.CodeNames.{heap_name}
use Rattle.jd_syntax.specs.Codes.{Done, Expr, PlainCode, ThrowUnchecked, Variable}
use Rattle.jd_syntax.specs.Names.{Name}
use Rattle.jd_term.specs.Formulas.{Modal, PlainFormula}
use Rattle.jd_term.specs.declared.formula.Modality.TheVariants as modalities

pub ends_over : {A : Type 0} (o : Outcome A) (F : State → Type 0) → EndsIn o F → IsOver o
ends_over (Normal a t) F h = tt
ends_over (Stopped t) F h = tt
ends_over (Broke l t) F h = absurd h
ends_over (Returned v t) F h = absurd h
ends_over (Thrown r t) F h = absurd h
ends_over NoLength F h = tt
ends_over NotEnded F h = absurd h

-- a focus that is not ended leaves the code not ended
module _ (p : Program) (run : Runner p) (n : ℕ) where
  pub around_not_ended : (k : Context) → around p run n k NotEnded ≡ NotEnded
  unfolding around
  around_not_ended (Here rest) = refl
  around_not_ended (InBlock l k rest) = ap (λ o. then (after_block l o) (λ _ t. exec p run n rest t)) (around_not_ended k)
  around_not_ended (InFrame r k rest) = ap (λ o. then (after_frame r o) (λ _ t. exec p run n rest t)) (around_not_ended k)
  around_not_ended (InCatch k x h rest) = ap (λ o. then (after_catch o x (λ t. exec p run n h t)) (λ _ t. exec p run n rest t)) (around_not_ended k)
  around_not_ended (InFinally k f rest) = ap (λ o. then (after_finally o (λ t. exec p run n f t)) (λ _ t. exec p run n rest t)) (around_not_ended k)

-- what an assignment or an evaluation of a call makes of how the call ends
abbrev pub after_call : Option Name → Outcome Value → Outcome (Unit {0})
after_call None o = then (then o (λ v t. Normal (tt {0}) t)) (λ _ t. Normal (tt {0}) t)
after_call (Some x) o = then (then o (λ v t. Normal (tt {0}) (write t x v))) (λ _ t. Normal (tt {0}) t)

pub exec_call : (p : Program) (d n : ℕ) (y : Option Name) (e : Expr) (s : State) → exec_at p d n (one (call_stmt y e)) s ≡ after_call y (eval p (runner p d n) n e s)
exec_call p d n None e s = refl
exec_call p d n (Some x) e s = refl

pub after_normal : (y : Option Name) (v : Value) (u : State) → after_call y (Normal v u) ≡ Normal tt (with_one u y v)
after_normal None v u = refl
after_normal (Some x) v u = refl

pub after_thrown : (y : Option Name) (x : Reference) (u : State) → after_call y (Thrown x u) ≡ Thrown x u
after_thrown None x u = refl
after_thrown (Some z) x u = refl

after_none : (y : Option Name) → after_call y NotEnded ≡ NotEnded
after_none None = refl
after_none (Some z) = refl

abbrev leaves : Reference → State → Outcome (Unit {0})
leaves x u = Thrown x u

-- the focus where the call returns, or throws, and what the premises have in its place
module _ (p : Program) (d n : ℕ) (P : Name → Type 0) (y : Option Name) (e : Expr) (s t : State) where
  pub returns_like : (v : Value) (u : State) → eval p (runner p d n) n e s ≡ Normal v u → Agree P (with_one u y v) t → OutcomesAgree (Agree P) (exec_at p d n (one (call_stmt y e)) s) (exec_at p d n Done t)
  returns_like v u h a = subst (λ o. OutcomesAgree (Agree P) o (Normal (tt {0}) t)) (sym (exec_call p d n y e s ∙ ap (after_call y) h ∙ after_normal y v u)) (normal a)

  pub throws_like : (x : Reference) (u : State) (w : Name) → eval p (runner p d n) n e s ≡ Thrown x u → Agree P u t → read t w ≡ RefValue x → OutcomesAgree (Agree P) (exec_at p d n (one (call_stmt y e)) s) (exec_at p d n (one (ThrowUnchecked (Variable w))) t)
  throws_like x u w h a q =
      subst (λ o. OutcomesAgree (Agree P) o (leaves (as_ref (read t w)) t)) (sym (exec_call p d n y e s ∙ ap (after_call y) h ∙ after_thrown y x u))
      (subst (λ z. OutcomesAgree (Agree P) (leaves x u) (leaves z t)) (sym (ap as_ref q)) (thrown a))

module _ (g : Setting) (i j : State) (P Q : Name → Type 0) (heap_in : P heap_name) (k : Context) (k_in : ContextIn P P k) (a : PlainFormula) (a_in : FormulaIn P Q a) (cs : Agree Q i j) (c e : PlainCode) (s t : State) where
  -- a run of the box
  pub box_moves : (d n : ℕ) → OutcomesAgree (Agree P) (exec_at g.program d n c s) (exec_at g.program d n e t) → Truth g d j t [] (Modal modalities.Necessity (fill k e) a) → IfEnds (exec_at g.program d n (fill k c) s) (λ y. Truth g d i y [] a)
  box_moves d n h all = subst (λ X. X) (sym (if_ends_agree P _ _ (λ y. Truth g d i y [] a) (λ y. Truth g d j y [] a) (fill_agree P g.program heap_in d n k k_in c e s t h) (λ y z f. truth_agree g d (InvTruth g d) P Q i j cs a a_in [] y z f))) (all n)

  -- the diamond, where the foci end alike from some depth and turns on
  pub dia_moves : (d f m : ℕ) → ((e' n : ℕ) → f ≤ e' → m ≤ n → OutcomesAgree (Agree P) (exec_at g.program e' n c s) (exec_at g.program e' n e t)) → Truth g d j t [] (Modal modalities.Possibility (fill k e) a) → Truth g d i s [] (Modal modalities.Possibility (fill k c) a)
  dia_moves d f m h all = λ denied. all (λ e' n ends. denied (e' + f) (n + m) (moved e' n ends))
    where
      moved : (e' n : ℕ) → EndsIn (exec_at g.program e' n (fill k e) t) (λ y. Truth g d j y [] a) → EndsIn (exec_at g.program (e' + f) (n + m) (fill k c) s) (λ y. Truth g d i y [] a)
      moved e' n ends =
          subst (λ X. X) (sym (ends_in_agree P _ _ (λ y. Truth g d i y [] a) (λ y. Truth g d j y [] a) (fill_agree P g.program heap_in (e' + f) (n + m) k k_in c e s t (h (e' + f) (n + m) (omega arith) (omega arith))) (λ y z r. truth_agree g d (InvTruth g d) P Q i j cs a a_in [] y z r)))
          (subst (λ o. EndsIn o (λ y. Truth g d j y [] a)) (more g.program e' (e' + f) n (n + m) (omega arith) (omega arith) (fill k e) t (ends_over (exec_at g.program e' n (fill k e) t) (λ y. Truth g d j y [] a) ends)) ends)

-- a focus that is not ended leaves the code not ended
pub box_waits : (g : Setting) (i : State) (k : Context) (a : PlainFormula) (c : PlainCode) (s : State) (d n : ℕ) → exec_at g.program d n c s ≡ NotEnded → IfEnds (exec_at g.program d n (fill k c) s) (λ y. Truth g d i y [] a)
box_waits g i k a c s d n h = subst (λ o. IfEnds o (λ y. Truth g d i y [] a)) (sym (exec-fill g.program (runner g.program d n) n k c s ∙ ap (around g.program (runner g.program d n) n k) h ∙ around_not_ended g.program (runner g.program d n) n k)) tt

pub call_waits : (p : Program) (d n : ℕ) (y : Option Name) (e : Expr) (s : State) → eval p (runner p d n) n e s ≡ NotEnded → exec_at p d n (one (call_stmt y e)) s ≡ NotEnded
call_waits p d n y e s h = exec_call p d n y e s ∙ ap (after_call y) h ∙ after_none y
