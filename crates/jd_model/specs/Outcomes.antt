-- How runs end, and what the parts of a code do with it (JLS 14.1, 15.6).
use Rattle.std.specs.Prelude.{◌≡◌, ℕ, zero, suc, cond, Option, Some, None, nat_eq}
use Rattle.jd_base.specs.declared.sort.Sort.{Sort}
use Rattle.jd_syntax.specs.Names.{Name}
use Rattle.jd_heap.specs.References.{Reference}
use Rattle.jd_heap.specs.Values.{Value, RefValue, as_bool, at_sort, default}
use Rattle.jd_model.specs.States.{State, write, heap_of, with_heap}

-- normally, with a value and the state after; by a `break` to a label; by a `return`, with its value where it has one; by
-- a thrown reference; by `stop`; by an array's length that is none; or not ended within the depth and the turns
pub data Outcome (A : Type 0) : Type 0 where
  Normal : A → State → Outcome A
  Broke : ℕ → State → Outcome A
  Returned : Option Value → State → Outcome A
  Thrown : Reference → State → Outcome A
  Stopped : State → Outcome A
  NoLength : Outcome A
  NotEnded : Outcome A

-- what follows a run that ends normally
abbrev pub then : {A B : Type 0} → Outcome A → (A → State → Outcome B) → Outcome B
then (Normal a s) k = k a s
then (Broke l s) k = Broke l s
then (Returned v s) k = Returned v s
then (Thrown r s) k = Thrown r s
then (Stopped s) k = Stopped s
then NoLength k = NoLength
then NotEnded k = NotEnded

-- a result, or the default of its sort where there is none
abbrev pub given : Sort → Option Value → Value
given k None = default k
given k (Some v) = v

-- back in the caller's variables, with the heap of the callee; a result has its sort; a body that a `break` leaves has no end
abbrev pub back_in : State → Sort → Outcome (Unit {0}) → Outcome Value
back_in s k (Normal u t) = Normal (default k) (with_heap s (heap_of t))
back_in s k (Broke l t) = NotEnded
back_in s k (Returned v t) = Normal (at_sort k (given k v)) (with_heap s (heap_of t))
back_in s k (Thrown r t) = Thrown r (with_heap s (heap_of t))
back_in s k (Stopped t) = Stopped (with_heap s (heap_of t))
back_in s k NoLength = NoLength
back_in s k NotEnded = NotEnded

-- at most n turns of a loop: not ended only where one more would begin (JLS 14.12)
abbrev pub loop : ℕ → (State → Outcome Value) → (State → Outcome (Unit {0})) → State → Outcome (Unit {0})
loop zero test body s = then (test s) (λ v t. cond (as_bool v) NotEnded (Normal tt t))
loop (suc n) test body s = then (test s) (λ v t. cond (as_bool v) (then (body t) (λ _ u. loop n test body u)) (Normal tt t))

-- a block ends a `break` to its label (JLS 14.7, 14.15)
abbrev pub after_block : ℕ → Outcome (Unit {0}) → Outcome (Unit {0})
after_block l (Broke k s) = cond (nat_eq k l) (Normal tt s) (Broke k s)
after_block l o = o

-- a frame takes a `return`, and gives its variable the result (JLS 14.17)
abbrev pub set_default : Option Name → State → State
set_default None s = s
set_default (Some x) s = write s x (default x.sort)

abbrev pub set_result : Option Name → Option Value → State → State
set_result None v s = s
set_result (Some x) v s = write s x (given x.sort v)

abbrev pub after_frame : Option Name → Outcome (Unit {0}) → Outcome (Unit {0})
after_frame r (Normal u s) = Normal tt (set_default r s)
after_frame r (Returned v s) = Normal tt (set_result r v s)
after_frame r o = o

-- a handler runs where a reference is thrown (JLS 14.20.1)
abbrev pub after_catch : Outcome (Unit {0}) → Name → (State → Outcome (Unit {0})) → Outcome (Unit {0})
after_catch (Thrown r s) x k = k (write s x (RefValue r))
after_catch o x k = o

-- `finally` runs after all ends but `stop` and a bad length, and gives the first end back where it ends normally (JLS 14.20.2)
abbrev pub after_finally : Outcome (Unit {0}) → (State → Outcome (Unit {0})) → Outcome (Unit {0})
after_finally (Normal u s) k = k s
after_finally (Broke l s) k = then (k s) (λ _ t. Broke l t)
after_finally (Returned v s) k = then (k s) (λ _ t. Returned v t)
after_finally (Thrown r s) k = then (k s) (λ _ t. Thrown r t)
after_finally o k = o

-- the run is over, and the second run is the first if that is over
abbrev pub IsOver : {A : Type 0} → Outcome A → Type 0
IsOver NotEnded = ⊥
IsOver o = Unit {0}

abbrev pub Extends : {A : Type 0} → Outcome A → Outcome A → Type 0
Extends o q = IsOver o → o ≡ q
