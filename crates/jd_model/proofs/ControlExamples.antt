-- The examples of statements and calls, by computation.
use Rattle.std.proofs.Common.{◌≡◌, ◌≤◌, ◌<◌, ◌+◌, ℕ, zero, suc, Bool, true, false, cond, pos, ◌+ℤ◌, ⊎_elim, Option, Some, None, refl, sym, ap, ◌∙◌, subst, arith}
use Rattle.std.specs.Prelude.{[], List, int_lt}
use Rattle.std.proofs.lemmas.Bool.{cases_lt, lt-ltb, le-ltb}
use Rattle.std.proofs.lemmas.Bool.Decides.{Decides-eqb}
use Rattle.std.proofs.lemmas.Int.{int_wrap_fits, fits_signed_from_abs}
use Rattle.std.specs.Int.{int_wrap, w32}
use Rattle.jd_base.specs.declared.sort.Sort.TheVariants.{Int as IntSort}
use Rattle.jd_syntax.specs.Names.{Name}
use Rattle.jd_syntax.specs.CodeNames.{same_name, heap_name}
use Rattle.jd_syntax.proofs.NameTests.{same_name_decides}
use Rattle.jd_syntax.specs.declared.code.BinaryOp.TheVariants as binary_ops
use Rattle.jd_syntax.specs.Codes.{OfClass, Variable, VirtualCall, NoExprs, Binary, Set}
use Rattle.jd_heap.specs.References.{Reference, Null, Object}
use Rattle.jd_heap.specs.Values.{Value, IntValue, BoolValue, RefValue, HeapValue, FieldValue, as_ref, as_int, as_heap, at_sort, IsOf}
use Rattle.jd_base.specs.declared.sort.Sort.TheVariants.{Heap as HeapSort}
use Rattle.jd_model.specs.States.{State, read, write, heap_of, with_heap, empty_state}
use Rattle.jd_model.specs.Programs.{Program, class_of, is_instance}
use Rattle.jd_model.specs.Outcomes.{Outcome, Normal, Broke, Returned, Thrown, NotEnded, then, loop, after_catch, after_finally, back_in}
use Rattle.jd_model.specs.Runs.{Runner, eval, exec, runner, raise, dispatch, unless_null, run_body, no_run, binary, wrap32}
use Rattle.jd_model.specs.Examples.{i, object, number, only, Gives}
use Rattle.jd_model.specs.ControlExamples.{ReturnReplacesException, MethodReturnsAnyway, ExceptionGoesOn, ExceptionReplacesReturn, ReturnedValueStays, HandlerRuns, ReturnPassesHandler, StopPasses, BreakThroughFinally, BreakToOther, count_to, LoopCounts, EndlessLoop, LoopIsLeft, RunTimeClass, CallOnNull, ArgumentBeforeNull, CallAtDepthZero, NoSuchMethod, EndlessRecursion, this, animals, LegsOfAnimal, LegsOfBird, animal_lookup, FeetOfBird, FeetNeedDepth, BirdIsAnimal, AnimalIsNoBird}
use Rattle.jd_model.proofs.States.{read-write, state_same, read_of}
use Rattle.jd_model.proofs.Grows.{heap_written, same_heap}
use Rattle.jd_model.proofs.NewObjects.{after_normal, after_thrown, raises}

-- ---- `finally` and `catch`

pub return_replaces_exception : ReturnReplacesException
return_replaces_exception p run n z c d s t r e = ap (λ o. after_finally o (λ t. Returned (Some (IntValue (pos z))) t)) e

pub method_returns_anyway : MethodReturnsAnyway
method_returns_anyway p d n m s e = subst (λ b. Gives (run_body p b (λ c t. exec p (runner p d n) n c t) Null [] s) (IntValue (pos 7))) (sym e) refl

pub exception_goes_on : ExceptionGoesOn
exception_goes_on p run n c d s t u r e f =
    ap (λ o. after_finally o (λ t. exec p run n d t)) e
    ∙ ap (λ o. then o (λ _ t. Thrown r t)) f

pub exception_replaces_return : ExceptionReplacesReturn
exception_replaces_return p run n c d s t u v r e f =
    ap (λ o. after_finally o (λ t. exec p run n d t)) e
    ∙ ap (λ o. then o (λ _ t. Returned v t)) f

pub returned_value_stays : ReturnedValueStays
returned_value_stays p run n s = refl

pub handler_runs : HandlerRuns
handler_runs p run n z c s t r e = ap (λ o. after_catch o object (λ t. Normal tt (write t i (IntValue (pos z))))) e

pub return_passes_handler : ReturnPassesHandler
return_passes_handler p run n z c d x s = refl

pub stop_passes : StopPasses
stop_passes p run n c d x s = (refl, refl)

-- ---- `break`

pub break_through_finally : BreakThroughFinally
break_through_finally p run n l z c d x s = ap (λ b. cond b (Normal tt (write s x (IntValue (pos z)))) (Broke l (write s x (IntValue (pos z))))) ((Decides-eqb l l).1 refl)

pub break_to_other : BreakToOther
break_to_other p run n k l d s e = ap (λ b. cond b (Normal tt s) (Broke k s)) e

-- ---- loops

-- the last write to a variable counts
pub write-write : (s : State) (x : Name) (v w : Value) → write (write s x v) x w ≡ write s x w
write-write s x v w = state_same _ _ (λ q. read-write (write s x v) x w q ∙ by q (same_name q x) refl ∙ sym (read-write s x w q))
  where
    by : (q : Name) (b : Bool) → same_name q x ≡ b → cond (same_name q x) (at_sort x.sort w) (read (write s x v) q) ≡ cond (same_name q x) (at_sort x.sort w) (read s q)
    by q true e = ap (λ b. cond b (at_sort x.sort w) (read (write s x v) q)) e ∙ sym (ap (λ b. cond b (at_sort x.sort w) (read s q)) e)
    by q false e = ap (cond (same_name q x) (at_sort x.sort w)) (read-write s x v q ∙ ap (λ b. cond b (at_sort x.sort v) (read s q)) e)

abbrev counted : State → ℕ → State
counted s j = write s i (IntValue (pos j))

read_counted : (s : State) (j : ℕ) → read (counted s j) i ≡ IntValue (pos j)
read_counted s j = read-write s i (IntValue (pos j)) i

next_fits : (j : ℕ) → j < 2147483647 → wrap32 (pos j +ℤ pos 1) ≡ pos (suc j)
next_fits j lt = let next : j + 1 ≡ suc j = omega arith in ap (λ k. wrap32 (pos k)) next ∙ int_wrap_fits w32 (pos (suc j)) (fits_signed_from_abs w32 (pos (suc j)) (omega arith))

next_state : (s : State) (j : ℕ) → j < 2147483647 → write (counted s j) i (IntValue (wrap32 (as_int (read (counted s j) i) +ℤ pos 1))) ≡ counted s (suc j)
next_state s j lt = ap (λ v. write (counted s j) i (IntValue (wrap32 (as_int v +ℤ pos 1)))) (read_counted s j) ∙ ap (λ z. write (counted s j) i (IntValue z)) (next_fits j lt) ∙ write-write s i _ _

module _ (p : Program) (run : Runner p) (k : ℕ) (fits : k ≤ 2147483647) where
  -- the loop as it runs with m more turns, where calls and inner loops have n
  turns : ℕ → ℕ → State → Outcome (Unit {0})
  turns n m s = loop m (λ t. eval p run n (Binary binary_ops.Less (Variable i) (number k)) t) (λ t. exec p run n (only (Set i (Binary binary_ops.Add (Variable i) (number 1)))) t) s

  test_is : (s : State) (j : ℕ) (b : Bool) → int_lt (pos j) (pos k) ≡ b → int_lt (as_int (read (counted s j) i)) (pos k) ≡ b
  test_is s j b e = ap (λ v. int_lt (as_int v) (pos k)) (read_counted s j) ∙ e

  -- at an i below k a turn leads to the next number, at k the loop ends
  one_turn : (n m j : ℕ) (s : State) → j < k → turns n (suc m) (counted s j) ≡ turns n m (counted s (suc j))
  unfolding turns
  one_turn n m j s lt =
      ap (λ b. cond b (turns n m (write (counted s j) i (IntValue (wrap32 (as_int (read (counted s j) i) +ℤ pos 1))))) (Normal tt (counted s j))) (test_is s j true (lt-ltb j k lt))
      ∙ ap (turns n m) (next_state s j (omega arith))

  no_turn : (n j : ℕ) (s : State) → j < k → turns n zero (counted s j) ≡ NotEnded
  unfolding turns
  no_turn n j s lt = ap (λ b. cond b NotEnded (Normal tt (counted s j))) (test_is s j true (lt-ltb j k lt))

  last_turn : (n m : ℕ) (s : State) → turns n m (counted s k) ≡ Normal tt (counted s k)
  unfolding turns
  last_turn n zero s = ap (λ b. cond b NotEnded (Normal tt (counted s k))) (test_is s k false (le-ltb k k (omega arith)))
  last_turn n (suc m) s = ap (λ b. cond b (turns n m (write (counted s k) i (IntValue (wrap32 (as_int (read (counted s k) i) +ℤ pos 1))))) (Normal tt (counted s k))) (test_is s k false (le-ltb k k (omega arith)))

  too_few : (n m j : ℕ) (s : State) → m + j < k → turns n m (counted s j) ≡ NotEnded
  too_few n zero j s lt = no_turn n j s (omega arith)
  too_few n (suc m) j s lt = one_turn n m j s (omega arith) ∙ too_few n m (suc j) s (omega arith)

  enough : (n m j : ℕ) (s : State) → j ≤ k → k ≤ m + j → turns n m (counted s j) ≡ Normal tt (counted s k)
  enough n zero j s le ge = let all : k ≡ j = omega arith in subst (λ j. turns n zero (counted s j) ≡ Normal tt (counted s k)) all (last_turn n zero s)
  enough n (suc m) j s le ge = ⊎_elim
      (λ (lt : j < k). one_turn n m j s lt ∙ enough n m (suc j) s (omega arith) (omega arith))
      (λ (done : k ≤ j). let all : k ≡ j = omega arith in subst (λ j. turns n (suc m) (counted s j) ≡ Normal tt (counted s k)) all (last_turn n (suc m) s))
      (cases_lt j k)

  pub counts : (m : ℕ) (s : State) → (m < k → exec p run m (count_to k) (counted s 0) ≡ NotEnded) × (k ≤ m → exec p run m (count_to k) (counted s 0) ≡ Normal tt (counted s k))
  unfolding turns
  counts m s = (
    λ lt. ap (λ o. then o (λ _ t. Normal tt t)) (too_few m m 0 s (omega arith)),
    λ le. ap (λ o. then o (λ _ t. Normal tt t)) (enough m m 0 s (omega arith) (omega arith)),
  )

pub loop_counts : LoopCounts
loop_counts p d k m s fits = counts p (runner p d m) k fits m s

forever : (n : ℕ) (s : State) → loop n (λ t. Normal (BoolValue true) t) (λ t. Normal tt t) s ≡ NotEnded
forever zero s = refl
forever (suc n) s = forever n s

pub endless_loop : EndlessLoop
endless_loop p d n s = ap (λ o. then o (λ _ t. Normal tt t)) (forever n s)

pub loop_is_left : LoopIsLeft
loop_is_left p d n l s = ap (λ b. then (cond b (Normal tt s) (Broke l s)) (λ _ t. Normal tt t)) ((Decides-eqb l l).1 refl)

-- ---- calls

pub run_time_class : RunTimeClass
run_time_class p run n k m j a bs r vs s t u e object f found =
    after_normal _ _ (RefValue r) t e
    ∙ after_normal _ _ vs u f
    ∙ ap (λ b. cond b (raise p p.null_pointer u) (dispatch p run (p.lookup (class_of p r) m) r vs u)) object
    ∙ ap (λ o. dispatch p run o r vs u) found

pub call_on_null : CallOnNull
call_on_null p d n k m a bs vs s t u e f = raises p p.null_pointer u _ (after_normal _ _ (RefValue Null) t e ∙ after_normal _ _ vs u f)

pub argument_before_null : ArgumentBeforeNull
argument_before_null p run n k m a bs v r s t u e f = after_normal _ _ v t e ∙ after_thrown _ _ r u f

none_runs : (p : Program) (o : Option ℕ) (r : Reference) (vs : List Value) (s : State) → dispatch p (no_run p) o r vs s ≡ NotEnded
none_runs p None r vs s = refl
none_runs p (Some m) r vs s = refl

pub call_at_depth_zero : CallAtDepthZero
call_at_depth_zero p n k m a bs r vs s t u e object f =
    after_normal _ _ (RefValue r) t e
    ∙ after_normal _ _ vs u f
    ∙ ap (λ b. cond b (raise p p.null_pointer u) (dispatch p (no_run p) (p.lookup (class_of p r) m) r vs u)) object
    ∙ none_runs p (p.lookup (class_of p r) m) r vs u

pub no_such_method : NoSuchMethod
no_such_method p d n k m a bs r vs s t u e object f none =
    after_normal _ _ (RefValue r) t e
    ∙ after_normal _ _ vs u f
    ∙ ap (λ b. cond b (raise p p.null_pointer u) (dispatch p (runner p d n) (p.lookup (class_of p r) m) r vs u)) object
    ∙ ap (λ o. dispatch p (runner p d n) o r vs u) none

-- the code `return a;` ends as a does
abbrev returned : Outcome Value → Outcome (Unit {0})
returned o = then o (λ v t. Returned (Some v) t)

pub endless_recursion : EndlessRecursion
endless_recursion p zero n m s e = refl
endless_recursion p (suc d) n m s e =
    ap (λ b. run_body p b (λ c t. exec p (runner p d n) n c t) Null [] s) e
    ∙ ap (λ o. back_in s IntSort (then (returned o) (λ _ t. Normal tt t))) (endless_recursion p d n m (with_heap empty_state (heap_of s)) e)

-- ---- the program with two classes

heap_value : (v : Value) → IsOf HeapSort v → HeapValue (as_heap v) ≡ v
heap_value (HeapValue h) w = refl
heap_value (IntValue z) w = elim w [ ]
heap_value (BoolValue z) w = elim w [ ]
heap_value (RefValue z) w = elim w [ ]
heap_value (FieldValue z) w = elim w [ ]

heap_kept : (s : State) → with_heap s (heap_of s) ≡ s
heap_kept s = state_same _ _ (λ q. read-write s heap_name (HeapValue (heap_of s)) q ∙ by q (same_name q heap_name) refl)
  where
    by : (q : Name) (b : Bool) → same_name q heap_name ≡ b → cond b (HeapValue (heap_of s)) (read s q) ≡ read s q
    by q true e = heap_value (read s heap_name) (read_of s heap_name) ∙ ap (read s) (sym ((same_name_decides q heap_name).0 e))
    by q false e = refl

-- the state in which a body starts, and the caller's state after a call that leaves its heap
abbrev begun : State → Reference → State
begun s r = write (with_heap empty_state (heap_of s)) this (RefValue r)

unchanged : (s : State) (r : Reference) → with_heap s (heap_of (begun s r)) ≡ s
unchanged s r = ap (with_heap s) (same_heap (with_heap empty_state (heap_of s)) this (RefValue r) refl ∙ heap_written empty_state (heap_of s)) ∙ heap_kept s

called : (d n c k m : ℕ) (x : Name) (s : State) → read s x ≡ RefValue (Object c k) → eval animals (runner animals d n) n (VirtualCall 1 m (Variable x) NoExprs) s ≡ dispatch animals (runner animals d n) (animal_lookup c m) (Object c k) [] s
called d n c k m x s e = ap (λ v. unless_null animals (as_ref v) s (dispatch animals (runner animals d n) (animal_lookup (class_of animals (as_ref v)) m) (as_ref v) [] s)) e

pub legs_of_animal : LegsOfAnimal
legs_of_animal d k s e n = called (suc d) n 1 k 0 object s e ∙ ap (Normal (IntValue (pos 4))) (unchanged s (Object 1 k))

bird_legs : (d n k : ℕ) (x : Name) (s : State) → read s x ≡ RefValue (Object 2 k) → eval animals (runner animals (suc d) n) n (VirtualCall 1 0 (Variable x) NoExprs) s ≡ Normal (IntValue (pos 2)) s
bird_legs d n k x s e = called (suc d) n 2 k 0 x s e ∙ ap (Normal (IntValue (pos 2))) (unchanged s (Object 2 k))

pub legs_of_bird : LegsOfBird
legs_of_bird d k s e n = bird_legs d n k object s e

this_read : (s : State) (r : Reference) → read (begun s r) this ≡ RefValue r
this_read s r = read-write (with_heap empty_state (heap_of s)) this (RefValue r) this

-- how a call of `feet` ends, from how its inner call ends
abbrev feet_end : State → Outcome Value → Outcome Value
feet_end s o = back_in s IntSort (then (returned (then o (λ v t. binary animals binary_ops.Add v (IntValue (pos 10)) t))) (λ _ t. Normal tt t))

pub feet_of_bird : FeetOfBird
unfolding int_wrap
feet_of_bird d k s e n =
    called (suc (suc d)) n 2 k 1 object s e
    ∙ ap (feet_end s) (bird_legs d n k this (begun s (Object 2 k)) (this_read s (Object 2 k)))
    ∙ ap (Normal (IntValue (pos 12))) (unchanged s (Object 2 k))

pub feet_need_depth : FeetNeedDepth
feet_need_depth n k s e =
    called 1 n 2 k 1 object s e
    ∙ ap (feet_end s) (called 0 n 2 k 0 this (begun s (Object 2 k)) (this_read s (Object 2 k)))

pub bird_is_animal : BirdIsAnimal
bird_is_animal run n k s e = ap (λ v. Normal (BoolValue (is_instance animals (OfClass 1) (as_ref v))) s) e

pub animal_is_no_bird : AnimalIsNoBird
animal_is_no_bird run n k s e = ap (λ v. Normal (BoolValue (is_instance animals (OfClass 2) (as_ref v))) s) e
