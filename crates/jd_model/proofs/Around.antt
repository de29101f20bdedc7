-- Where two foci end related, so do the codes around them.
use Rattle.std.proofs.Common.{ℕ, sym, subst}
use Rattle.jd_heap.specs.Heaps.{Heap}
use Rattle.jd_model.proofs.Coincidence.{Alike, OutcomesAgree, exec_at_agree, agree_then, agree_block, agree_frame, agree_catch, agree_finally, Agree, agree_alike, any_heap}
use Rattle.jd_model.proofs.Contexts.{around, exec-fill}
use Rattle.jd_model.specs.Contexts.{Context, Here, InBlock, InFrame, InCatch, InFinally, fill}
use Rattle.jd_model.specs.Occurrences.{CodeIn, ContextIn}
use Rattle.jd_model.specs.Outcomes.{Outcome, then}
use Rattle.jd_model.specs.Programs.{Program}
use Rattle.jd_model.specs.Runs.{exec, exec_at, runner}
use Rattle.jd_model.specs.States.{State, with_heap}
use Rattle.jd_syntax.specs.CodeNames.{heap_name}
use Rattle.jd_syntax.specs.Codes.{PlainCode}
use Rattle.jd_syntax.specs.Names.{Name}

module _ (P Q : Name → Type 0) (R : State → State → Type 0) (alike : Alike P Q R) (p : Program) (any : (k : Heap) (s t : State) → R s t → R (with_heap s k) (with_heap t k)) (d n : ℕ) where
  tail : (rest : PlainCode) → CodeIn P Q rest → {o q : Outcome (Unit {0})} → OutcomesAgree R o q → OutcomesAgree R (then o (λ _ t. exec p (runner p d n) n rest t)) (then q (λ _ t. exec p (runner p d n) n rest t))
  tail rest i h = agree_then P Q R alike h (λ _ s t e. exec_at_agree P Q R alike p any d n rest i s t e)

  pub around_alike : (k : Context) → ContextIn P Q k → {o q : Outcome (Unit {0})} → OutcomesAgree R o q → OutcomesAgree R (around p (runner p d n) n k o) (around p (runner p d n) n k q)
  unfolding around
  around_alike (Here rest) i h = tail rest i h
  around_alike (InBlock l k rest) i h = tail rest i.1 (agree_block P Q R alike l (around_alike k i.0 h))
  around_alike (InFrame r k rest) i h = tail rest i.2 (agree_frame P Q R alike r i.0 (around_alike k i.1 h))
  around_alike (InCatch k x c rest) i h = tail rest i.3 (agree_catch P Q R alike x i.1 (around_alike k i.0 h) (λ s t e. exec_at_agree P Q R alike p any d n c i.2 s t e))
  around_alike (InFinally k f rest) i h = tail rest i.2 (agree_finally P Q R alike (around_alike k i.0 h) (λ s t e. exec_at_agree P Q R alike p any d n f i.1 s t e))

-- the relation that two states agree on some names, and the codes with the foci
module _ (P : Name → Type 0) (p : Program) (heap_in : P heap_name) (d n : ℕ) where
  pub fill_agree : (k : Context) → ContextIn P P k → (c e : PlainCode) (s t : State) → OutcomesAgree (Agree P) (exec_at p d n c s) (exec_at p d n e t) → OutcomesAgree (Agree P) (exec_at p d n (fill k c) s) (exec_at p d n (fill k e) t)
  fill_agree k i c e s t h =
      subst (λ o. OutcomesAgree (Agree P) o (exec_at p d n (fill k e) t)) (sym (exec-fill p (runner p d n) n k c s))
      (subst (λ o. OutcomesAgree (Agree P) (around p (runner p d n) n k (exec_at p d n c s)) o) (sym (exec-fill p (runner p d n) n k e t)) (around_alike P P (Agree P) (agree_alike P P heap_in heap_in) p (any_heap P) d n k i h))
