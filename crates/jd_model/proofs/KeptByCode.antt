-- What a run of code keeps: variables that the code does not assign, and what is created.
use Rattle.std.proofs.Common.{◌≡◌, ℕ, false, refl, ap, ◌∙◌}
use Rattle.jd_syntax.specs.Names.{Name}
use Rattle.jd_syntax.specs.CodeNames.{same_name, heap_name}
use Rattle.jd_syntax.specs.Codes.{Expr, PlainCode}
use Rattle.jd_heap.specs.Heaps.{Heap}
use Rattle.jd_heap.specs.Values.{HeapValue}
use Rattle.jd_model.specs.States.{State, read, write, heap_of, with_heap}
use Rattle.jd_model.specs.Programs.{Program}
use Rattle.jd_model.specs.Outcomes.{Outcome, Normal, Broke, Returned, Thrown, Stopped, NoLength, NotEnded}
use Rattle.jd_model.specs.Runs.{eval, exec, runner}
use Rattle.jd_model.specs.Occurrences.{ExprIn, CodeIn, Always}
use Rattle.jd_model.specs.Bodies.{NotHeap, AllAssignNoHeap, Grows, AtEnd}
use Rattle.jd_model.proofs.Coincidence.{Alike, by_writes, OutcomesAgree, normal, broke, returned, thrown, stopped, no_length, not_ended, exec_agree, eval_agree, runner_respects}
use Rattle.jd_model.proofs.Grows.{Grown, grown_alike, runner_grows, grown_ends}
use Rattle.jd_model.proofs.Wider.{expr_wider, code_wider}
use Rattle.jd_model.proofs.Writes.{flip_apart, read_there}

at_both : {A : Type 0} (o : Outcome A) (I J : State → Type 0) → AtEnd o I → AtEnd o J → AtEnd o (λ z. I z × J z)
at_both (Normal a z) I J h g = (h, g)
at_both (Broke l z) I J h g = (h, g)
at_both (Returned v z) I J h g = (h, g)
at_both (Thrown r z) I J h g = (h, g)
at_both (Stopped z) I J h g = (h, g)
at_both NoLength I J h g = tt
at_both NotEnded I J h g = tt

-- names that may be written, names that are kept, and the state and the heap that they are kept from
module _ (Written Fixed : Name → Type 0) (apart : (q : Name) → Fixed q → (x : Name) → Written x → same_name q x ≡ false) (fixed_no_heap : (q : Name) → Fixed q → NotHeap q) (written_no_heap : (x : Name) → Written x → NotHeap x) (r : State) (h : Heap) where
  abbrev HasFixed : State → Type 0
  HasFixed t = (x : Name) → Fixed x → read t x ≡ read r x

  -- each kept name has its value, and what was created is
  abbrev pub Keeps : State → Type 0
  Keeps t = HasFixed t × Grows h (heap_of t)

  Loose : Name → Type 0
  Loose x = (q : Name) → Fixed q → same_name q x ≡ false

  Still : State → State → Type 0
  Still z y = (z ≡ y) × HasFixed z

  heap_loose : Loose heap_name
  unfolding Loose
  heap_loose q f = flip_apart heap_name q (fixed_no_heap q f)

  written_loose : (x : Name) → Written x → Loose x
  unfolding Loose
  written_loose x m q f = apart q f x m

  still_alike : Alike Always Loose Still
  unfolding Still Loose
  still_alike = by_writes Always Loose Still (λ x o z y e. ap (λ q. read q x) e.0)
      (λ x o u z y e. (ap (λ q. write q x u) e.0, λ q f. read_there z x u q (o q f) ∙ e.1 q f))
      tt heap_loose

  still_any : (k : Heap) (z y : State) → Still z y → Still (with_heap z k) (with_heap y k)
  still_any k z y e = still_alike.writes heap_name heap_loose (HeapValue k) z y e

  still_end : {A : Type 0} {o q : Outcome A} → OutcomesAgree Still o q → AtEnd o HasFixed
  unfolding Still
  still_end (normal e) = e.1
  still_end (broke e) = e.1
  still_end (returned e) = e.1
  still_end (thrown e) = e.1
  still_end (stopped e) = e.1
  still_end no_length = tt
  still_end not_ended = tt

  module _ (p : Program) (bodies : AllAssignNoHeap p) (d m : ℕ) where
    pub keeps_test : (e : Expr) → ExprIn Always Written e → (t : State) → Keeps t → AtEnd (eval p (runner p d m) m e t) Keeps
    unfolding Still
    keeps_test e e_in t k = at_both (eval p (runner p d m) m e t) HasFixed (λ z. Grows h (heap_of z))
        (still_end (eval_agree Always Loose Still still_alike p (runner p d m) m (runner_respects Always Loose Still still_alike p still_any d m) e (expr_wider Always Written Always Loose (λ x o. tt) written_loose e e_in) t t (refl, k.0)))
        (grown_ends h (eval p (runner p d m) m e t) (eval p (runner p d m) m e t) (eval_agree Always NotHeap (Grown h) (grown_alike h) p (runner p d m) m (runner_grows p bodies m d h) e (expr_wider Always Written Always NotHeap (λ x o. tt) written_no_heap e e_in) t t (refl, k.1)))

    pub keeps_body : (c : PlainCode) → CodeIn Always Written c → (t : State) → Keeps t → AtEnd (exec p (runner p d m) m c t) Keeps
    unfolding Still
    keeps_body c c_in t k = at_both (exec p (runner p d m) m c t) HasFixed (λ z. Grows h (heap_of z))
        (still_end (exec_agree Always Loose Still still_alike p (runner p d m) m (runner_respects Always Loose Still still_alike p still_any d m) c (code_wider Always Written Always Loose (λ x o. tt) written_loose c c_in) t t (refl, k.0)))
        (grown_ends h (exec p (runner p d m) m c t) (exec p (runner p d m) m c t) (exec_agree Always NotHeap (Grown h) (grown_alike h) p (runner p d m) m (runner_grows p bodies m d h) c (code_wider Always Written Always NotHeap (λ x o. tt) written_no_heap c c_in) t t (refl, k.1)))
