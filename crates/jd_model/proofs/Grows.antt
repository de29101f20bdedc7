-- What is created stays created in every run.
use Rattle.std.proofs.Common.{◌≡◌, ℕ, zero, suc, Bool, true, false, cond, Option, Some, None, List, [], ◌∷◌, refl, sym, ap, ◌∙◌, subst, true≢false}
use Rattle.jd_base.specs.declared.sort.Sort.{Sort}
use Rattle.jd_heap.proofs.Entries.{entry-store, entry-create, proper_only}
use Rattle.jd_heap.specs.Codings.{same, same_decides}
use Rattle.jd_heap.specs.Heaps.{Heap, Entry, IntEntry, BoolEntry, RefEntry, entry, is_created, bool_in, store, create}
use Rattle.jd_heap.specs.ReferenceCodings.{location_coding, reference_coding}
use Rattle.jd_heap.specs.References.{Reference, Field, Created, location, is_created_field}
use Rattle.jd_heap.specs.Values.{Value, IntValue, BoolValue, RefValue, HeapValue, FieldValue, as_heap, at_sort, store_value}
use Rattle.jd_model.proofs.Coincidence.{Alike, OutcomesAgree, normal, broke, returned, thrown, stopped, no_length, not_ended, Respects, exec_agree}
use Rattle.jd_model.proofs.States.{read-write}
use Rattle.jd_model.specs.Bodies.{Grows, AtEnd, NotHeap, AssignsNoHeap}
use Rattle.jd_model.specs.Occurrences.{MaybeIn, CodeIn, Always, AllOf}
use Rattle.jd_model.specs.Outcomes.{Outcome, back_in}
use Rattle.jd_model.specs.Programs.{Program, Body}
use Rattle.jd_model.specs.Runs.{exec, exec_at, runner, run_body, with_one, with_values}
use Rattle.jd_model.specs.States.{State, read, write, empty_state, heap_of, with_heap}
use Rattle.jd_syntax.proofs.NameTests.{same_name_decides}
use Rattle.jd_syntax.specs.CodeNames.{heap_name}
use Rattle.jd_syntax.specs.Codes.{PlainCode}
use Rattle.jd_syntax.specs.Names.{Name}

-- a location of `created` is none of another field
other_field : (r o : Reference) (f : Field) → is_created_field f ≡ false → (b : Bool) → same location_coding (location r Created) (location o f) ≡ b → b ≡ false
other_field r o f n false e = refl
other_field r o f n true e = absurd (true≢false (ap (λ l. is_created_field l.field) ((same_decides location_coding (location r Created) (location o f)).0 e) ∙ n))

stored : (h : Heap) (o : Reference) (f : Field) (e : Entry) (r : Reference) (b : Bool) → is_created_field f ≡ b → is_created (store h o f e) r ≡ is_created h r
stored h o f e r true q = ap bool_in (entry-store h o f e (location r Created) ∙ ap (λ b. cond b (entry h (location r Created)) (cond (same location_coding (location r Created) (location o f)) (proper_only (location o f) e) (entry h (location r Created)))) q)
stored h o f e r false q = ap bool_in (entry-store h o f e (location r Created)
    ∙ ap (λ b. cond b (entry h (location r Created)) (cond (same location_coding (location r Created) (location o f)) (proper_only (location o f) e) (entry h (location r Created)))) q
    ∙ ap (λ b. cond b (proper_only (location o f) e) (entry h (location r Created))) (other_field r o f q (same location_coding (location r Created) (location o f)) refl))

pub store_keeps : (h : Heap) (o : Reference) (f : Field) (v : Value) (r : Reference) → is_created (store_value h o f v) r ≡ is_created h r
store_keeps h o f (IntValue z) r = stored h o f (IntEntry z) r (is_created_field f) refl
store_keeps h o f (BoolValue z) r = stored h o f (BoolEntry z) r (is_created_field f) refl
store_keeps h o f (RefValue z) r = stored h o f (RefEntry z) r (is_created_field f) refl
store_keeps h o f (HeapValue z) r = stored h o f _ r (is_created_field f) refl
store_keeps h o f (FieldValue z) r = stored h o f _ r (is_created_field f) refl

created_by : (h : Heap) (o r : Reference) (b c : Bool) → same location_coding (location r Created) (location o Created) ≡ b → same reference_coding r o ≡ c → is_created h r ≡ true → bool_in (cond b (Some (BoolEntry true)) (cond c None (entry h (location r Created)))) ≡ true
created_by h o r true c p q e = refl
created_by h o r false false p q e = e
created_by h o r false true p q e = absurd (true≢false (sym ((same_decides location_coding (location r Created) (location o Created)).1 (ap (λ x. location x Created) ((same_decides reference_coding r o).0 q))) ∙ p))

pub create_grows : (h : Heap) (o : Reference) → Grows h (create h o)
create_grows h o r e = ap bool_in (entry-create h o (location r Created)) ∙ created_by h o r (same location_coding (location r Created) (location o Created)) (same reference_coding r o) refl refl e

-- the heap that was written is the heap that is read
pub heap_written : (s : State) (h : Heap) → heap_of (with_heap s h) ≡ h
heap_written s h = ap as_heap (read-write s heap_name (HeapValue h) heap_name ∙ ap (λ b. cond b (HeapValue h) (read s heap_name)) ((same_name_decides heap_name heap_name).1 refl))

module _ (h : Heap) where
  -- one state, whose heap has grown from h
  abbrev pub Grown : State → State → Type 0
  Grown s t = (s ≡ t) × Grows h (heap_of s)

  grown_heap : (k : Heap) (s t : State) → Grows h k → s ≡ t → Grown (with_heap s k) (with_heap t k)
  grown_heap k s t g e = (ap (λ x. with_heap x k) e, λ o c. ap (λ x. is_created x o) (heap_written s k) ∙ g o c)

pub same_heap : (s : State) (x : Name) (v : Value) → NotHeap x → heap_of (write s x v) ≡ heap_of s
same_heap s x v n = ap as_heap (read-write s x v heap_name ∙ ap (λ b. cond b (at_sort x.sort v) (read s heap_name)) n)

pub one_heap : (s : State) (x : Option Name) (v : Value) → MaybeIn Always NotHeap x → heap_of (with_one s x v) ≡ heap_of s
one_heap s None v n = refl
one_heap s (Some x) v n = same_heap s x v n

pub values_heap : (s : State) (xs : List Name) (vs : List Value) → AllOf NotHeap xs → heap_of (with_values s xs vs) ≡ heap_of s
values_heap s [] vs n = refl
values_heap s (x ∷ xs) [] n = refl
values_heap s (x ∷ xs) (v ∷ vs) n = values_heap (write s x v) xs vs n.1 ∙ same_heap s x v n.0

pub grown_alike : (h : Heap) → Alike Always NotHeap (Grown h)
grown_alike h = record {
  reads = λ x o s t r. ap (λ y. read y x) r.0;
  writes = λ x o v s t r. (ap (λ y. write y x v) r.0, λ q c. ap (λ k. is_created k q) (same_heap s x v o) ∙ r.1 q c);
  heaps = λ s t r. ap heap_of r.0;
  puts = λ o f v s t r. grown_heap h (store_value (heap_of s) o f v) s t (λ q c. store_keeps (heap_of s) o f v q ∙ r.1 q c) r.0;
  news = λ o s t r. grown_heap h (create (heap_of s) o) s t (λ q c. create_grows (heap_of s) o q (r.1 q c)) r.0;
}

back_grown : (h : Heap) (s t : State) (k : Sort) → Grown h s t → (o q : Outcome (Unit {0})) → OutcomesAgree (Grown h) o q → OutcomesAgree (Grown h) (back_in s k o) (back_in t k q)
back_grown h s t k r o q (normal {s = y} {t = z} e) = normal (subst (λ x. Grown h (with_heap s (heap_of y)) (with_heap t (heap_of x))) e.0 (grown_heap h (heap_of y) s t e.1 r.0))
back_grown h s t k r o q (broke e) = not_ended
back_grown h s t k r o q (returned {s = y} {t = z} e) = normal (subst (λ x. Grown h (with_heap s (heap_of y)) (with_heap t (heap_of x))) e.0 (grown_heap h (heap_of y) s t e.1 r.0))
back_grown h s t k r o q (thrown {s = y} {t = z} e) = thrown (subst (λ x. Grown h (with_heap s (heap_of y)) (with_heap t (heap_of x))) e.0 (grown_heap h (heap_of y) s t e.1 r.0))
back_grown h s t k r o q (stopped {s = y} {t = z} e) = stopped (subst (λ x. Grown h (with_heap s (heap_of y)) (with_heap t (heap_of x))) e.0 (grown_heap h (heap_of y) s t e.1 r.0))
back_grown h s t k r o q no_length = no_length
back_grown h s t k r o q not_ended = not_ended

module _ (p : Program) (bodies : (m : ℕ) (b : Body) → p.body m ≡ Some b → AssignsNoHeap b) (n : ℕ) where
  start : Body → Reference → List Value → State → State
  start b r vs s = with_values (with_one (with_heap empty_state (heap_of s)) b.receiver (RefValue r)) b.parameters vs

  start_heap : (b : Body) → AssignsNoHeap b → (r : Reference) (vs : List Value) (s : State) → heap_of (start b r vs s) ≡ heap_of s
  unfolding start
  start_heap b ok r vs s = values_heap _ b.parameters vs ok.parameters ∙ one_heap _ b.receiver (RefValue r) ok.receiver ∙ heap_written empty_state (heap_of s)

  body_grows : (o : Option Body) → ((b : Body) → o ≡ Some b → AssignsNoHeap b) → (go : PlainCode → State → Outcome (Unit {0})) → ((h : Heap) (c : PlainCode) → CodeIn Always NotHeap c → (s t : State) → Grown h s t → OutcomesAgree (Grown h) (go c s) (go c t)) → (h : Heap) (r : Reference) (vs : List Value) (s t : State) → Grown h s t → OutcomesAgree (Grown h) (run_body p o go r vs s) (run_body p o go r vs t)
  unfolding start
  body_grows None ok go grows h r vs s t e = not_ended
  body_grows (Some b) ok go grows h r vs s t e =
      back_grown h s t b.result e _ _ (grows h b.code (ok b refl).code (start b r vs s) (start b r vs t)
      (ap (start b r vs) e.0, λ q c. ap (λ k. is_created k q) (start_heap b (ok b refl) r vs s) ∙ e.1 q c))

  pub runner_grows : (d : ℕ) (h : Heap) → Respects Always NotHeap (Grown h) (grown_alike h) p (runner p d n)
  runner_grows zero h m r vs s t e = not_ended
  runner_grows (suc d) h m r vs s t e = body_grows (p.body m) (bodies m) (λ c y. exec p (runner p d n) n c y)
      (λ k c i y z f. exec_agree Always NotHeap (Grown k) (grown_alike k) p (runner p d n) n (runner_grows d k) c i y z f) h r vs s t e

  -- every run of sound code ends in a heap in which all that was created still is
  pub exec_grows : (d : ℕ) (c : PlainCode) → CodeIn Always NotHeap c → (s : State) → OutcomesAgree (Grown (heap_of s)) (exec_at p d n c s) (exec_at p d n c s)
  exec_grows d c i s = exec_agree Always NotHeap (Grown (heap_of s)) (grown_alike (heap_of s)) p (runner p d n) n (runner_grows d (heap_of s)) c i s s (refl, λ q e. e)

pub grown_ends : {A : Type 0} (h : Heap) (o q : Outcome A) → OutcomesAgree (Grown h) o q → AtEnd o (λ t. Grows h (heap_of t))
grown_ends h o q (normal e) = e.1
grown_ends h o q (broke e) = e.1
grown_ends h o q (returned e) = e.1
grown_ends h o q (thrown e) = e.1
grown_ends h o q (stopped e) = e.1
grown_ends h o q no_length = tt
grown_ends h o q not_ended = tt

-- what is created stays created
pub created_stays : (p : Program) → ((m : ℕ) (b : Body) → p.body m ≡ Some b → AssignsNoHeap b) → (d n : ℕ) (c : PlainCode) → CodeIn Always NotHeap c → (s : State) → AtEnd (exec_at p d n c s) (λ t. Grows (heap_of s) (heap_of t))
created_stays p bodies d n c i s = grown_ends (heap_of s) _ _ (exec_grows p bodies n d c i s)
