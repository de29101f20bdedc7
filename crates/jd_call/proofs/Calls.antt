-- How a call ends: as its body's run does, in the caller's variables.
use Rattle.std.proofs.Common.{List, Option, Some, ap, arith, refl, subst, suc, sym, ◌≡◌, ◌∷◌, ◌∙◌, ℕ, []}
use Rattle.jd_call.specs.Calls.{ConstructorTarget, StaticTarget, Target, VirtualTarget, call_of, terms_of}
use Rattle.jd_heap.specs.Heaps.{Heap}
use Rattle.jd_heap.specs.References.{Null, Reference}
use Rattle.jd_heap.specs.Values.{Value, as_ref, at_sort, default}
use Rattle.jd_model.proofs.SimpleExpressions.{simple_eval}
use Rattle.jd_model.specs.Bodies.{AtEnd, Grows}
use Rattle.jd_model.specs.Cases.{Case, Contract, SpecifiedProgram}
use Rattle.jd_model.specs.EntryExit.{ExceptionalExit, NormalExit}
use Rattle.jd_model.specs.KeptCases.{Exit, MeetsTo, run_of}
use Rattle.jd_model.specs.Outcomes.{Broke, IsOver, NoLength, Normal, NotEnded, Outcome, Returned, Stopped, Thrown, back_in, given, then}
use Rattle.jd_model.specs.Programs.{Body, Program, class_of}
use Rattle.jd_model.specs.Runs.{Runner, dispatch, eval, evals, exec_at, run_body, runner, unless_null}
use Rattle.jd_model.specs.SimpleExpressions.{IsSimple, term_of}
use Rattle.jd_model.specs.States.{State, heap_of, with_heap}
use Rattle.jd_model.specs.TermValues.{value}
use Rattle.jd_syntax.specs.Codes.{ExprThen, Exprs, NoExprs}
use Rattle.jd_term.specs.Terms.{NullTerm, PlainTerm}

abbrev pub values : State → State → List Value → List PlainTerm → List Value
values i s b [] = []
values i s b (t ∷ ts) = value i s b t ∷ values i s b ts

abbrev pub receiver_term : Target → PlainTerm
receiver_term (VirtualTarget k m a) = term_of a
receiver_term (StaticTarget m) = NullTerm
receiver_term (ConstructorTarget m a) = term_of a

-- operands that are simple, of whatever sort
abbrev pub AllSimple : Exprs → Type 0
AllSimple NoExprs = Unit {0}
AllSimple (ExprThen a bs) = IsSimple a × AllSimple bs

abbrev pub TargetSimple : Target → Type 0
TargetSimple (VirtualTarget k m a) = IsSimple a
TargetSimple (StaticTarget m) = Unit {0}
TargetSimple (ConstructorTarget m a) = IsSimple a

-- the body that a target runs for a receiver
abbrev pub body_of : Program → Target → Reference → Option ℕ
body_of p (VirtualTarget k m a) r = p.lookup (class_of p r) m
body_of p (StaticTarget m) r = Some m
body_of p (ConstructorTarget m a) r = Some m

-- a call on null throws before any body runs
abbrev pub if_null : {A : Type 0} → Program → Target → Reference → State → Outcome A → Outcome A
if_null p (VirtualTarget k m a) r s o = unless_null p r s o
if_null p (StaticTarget m) r s o = o
if_null p (ConstructorTarget m a) r s o = o

module _ (p : Program) (i : State) (b : List Value) (run : Runner p) (n : ℕ) where
  evals_simple : (bs : Exprs) → AllSimple bs → (s : State) → evals p run n bs s ≡ Normal (values i s b (terms_of bs)) s
  evals_simple NoExprs o s = refl
  evals_simple (ExprThen a bs) o s =
      ap (λ r. then r (λ v t. then (evals p run n bs t) (λ vs u. Normal (v ∷ vs) u))) (simple_eval p i b run n a o.0 s)
      ∙ ap (λ r. then r (λ vs u. Normal (value i s b (term_of a) ∷ vs) u)) (evals_simple bs o.1 s)

  pub call_runs : (t : Target) (bs : Exprs) → TargetSimple t → AllSimple bs → (s : State) → eval p run n (call_of t bs) s ≡ if_null p t (as_ref (value i s b (receiver_term t))) s (dispatch p run (body_of p t (as_ref (value i s b (receiver_term t)))) (as_ref (value i s b (receiver_term t))) (values i s b (terms_of bs)) s)
  call_runs (VirtualTarget k m a) bs o q s =
      ap (λ r. then r (λ v t. then (evals p run n bs t) (λ vs u. unless_null p (as_ref v) u (dispatch p run (p.lookup (class_of p (as_ref v)) m) (as_ref v) vs u)))) (simple_eval p i b run n a o s)
      ∙ ap (λ r. then r (λ vs u. unless_null p (as_ref (value i s b (term_of a))) u (dispatch p run (p.lookup (class_of p (as_ref (value i s b (term_of a)))) m) (as_ref (value i s b (term_of a))) vs u))) (evals_simple bs q s)
  call_runs (StaticTarget m) bs o q s = ap (λ r. then r (λ vs t. run m Null vs t)) (evals_simple bs q s)
  call_runs (ConstructorTarget m a) bs o q s =
      ap (λ r. then r (λ v t. then (evals p run n bs t) (λ vs u. run m (as_ref v) vs u))) (simple_eval p i b run n a o s)
      ∙ ap (λ r. then r (λ vs u. run m (as_ref (value i s b (term_of a))) vs u)) (evals_simple bs q s)

-- a run of a call that is not ended, or leaves a heap and a result, or a heap and an exception, of which something holds
pub data CallMeets (s : State) (N : Heap → Value → Type 0) (X : Heap → Reference → Type 0) : Outcome Value → Type 0 where
  returns : (g : Heap) (v : Value) → N g v → CallMeets s N X (Normal v (with_heap s g))
  throws : (g : Heap) (x : Reference) → X g x → CallMeets s N X (Thrown x (with_heap s g))
  is_not_ended : CallMeets s N X NotEnded

module _ (p : SpecifiedProgram) (c : Contract) (b : Body) (h : Heap) (r : Reference) (vs : List Value) (s : State) where
  -- the result that the call gives and that the specification sees
  abbrev pub Returns : Heap → Value → Type 0
  Returns g v = NormalExit p.setting c h r vs g v × Grows h g

  abbrev pub Throws : Heap → Reference → Type 0
  Throws g x = ExceptionalExit p.setting c h r vs g x × Grows h g

  pub back_meets : (o : Outcome (Unit {0})) → Exit p c b h r vs o → AtEnd o (λ t. Grows h (heap_of t)) → CallMeets s Returns Throws (back_in s b.result o)
  back_meets (Normal u t) e q = returns (heap_of t) (default b.result) (e, q)
  back_meets (Returned v t) e q = returns (heap_of t) (at_sort b.result (given b.result v)) (e, q)
  back_meets (Thrown x t) e q = throws (heap_of t) x (e, q)
  back_meets (Broke l t) e q = absurd e
  back_meets (Stopped t) e q = absurd e
  back_meets NoLength e q = absurd e
  back_meets NotEnded e q = is_not_ended

-- where a body's case is kept to a depth, a call one level up ends so
pub body_meets : (p : SpecifiedProgram) (c : Case) (b : Body) → p.setting.program.body c.body ≡ Some b → (d n : ℕ) (s : State) (r : Reference) (vs : List Value) → MeetsTo p c d (heap_of s) r vs → AtEnd (run_of p b d n (heap_of s) r vs) (λ t. Grows (heap_of s) (heap_of t)) → CallMeets s (Returns p c.contract b (heap_of s) r vs s) (Throws p c.contract b (heap_of s) r vs s) (runner p.setting.program (suc d) n c.body r vs s)
body_meets p c b has d n s r vs meets grows =
    subst (λ o. CallMeets s (Returns p c.contract b (heap_of s) r vs s) (Throws p c.contract b (heap_of s) r vs s) (run_body p.setting.program o (λ k t. exec_at p.setting.program d n k t) r vs s)) (sym has)
    (back_meets p c.contract b (heap_of s) r vs s (run_of p b d n (heap_of s) r vs) (meets b has d n (omega arith)) grows)

-- a body's run that is over and met its exit leaves the call over
pub over_back : (p : SpecifiedProgram) (c : Contract) (b : Body) (h : Heap) (r : Reference) (vs : List Value) (s : State) (o : Outcome (Unit {0})) → Exit p c b h r vs o → IsOver o → IsOver (back_in s b.result o)
over_back p c b h r vs s (Normal u t) e over = tt
over_back p c b h r vs s (Returned v t) e over = tt
over_back p c b h r vs s (Thrown x t) e over = tt
over_back p c b h r vs s (Broke l t) e over = absurd e
over_back p c b h r vs s (Stopped t) e over = absurd e
over_back p c b h r vs s NoLength e over = absurd e
over_back p c b h r vs s NotEnded e over = absurd over
