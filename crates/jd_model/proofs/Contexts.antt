-- A code's focus: what it does depends on what its focus does.
use Rattle.std.proofs.Common.{◌≡◌, ℕ, refl, sym, ap, ◌∙◌}
use mathlib.Core.Path.{fun_ext}
use Rattle.jd_model.specs.Contexts.{Context, Here, InBlock, InFrame, InCatch, InFinally, chain, fill}
use Rattle.jd_model.specs.Outcomes.{Outcome, Normal, Broke, Returned, Thrown, Stopped, NoLength, NotEnded, then, after_block, after_frame, after_catch, after_finally}
use Rattle.jd_model.specs.Programs.{Program}
use Rattle.jd_model.specs.Runs.{Runner, exec, step, exec_at, runner}
use Rattle.jd_model.specs.States.{State}
use Rattle.jd_syntax.specs.Codes.{PlainCode, Done, Then}

pub then_then : {A B C : Type 0} (o : Outcome A) (k : A → State → Outcome B) (m : B → State → Outcome C) → then (then o k) m ≡ then o (λ a s. then (k a s) m)
then_then (Normal a s) k m = refl
then_then (Broke l s) k m = refl
then_then (Returned v s) k m = refl
then_then (Thrown r s) k m = refl
then_then (Stopped s) k m = refl
then_then NoLength k m = refl
then_then NotEnded k m = refl

module _ (p : Program) (run : Runner p) (n : ℕ) where
  pub exec-chain : (c d : PlainCode) (s : State) → exec p run n (chain c d) s ≡ then (exec p run n c s) (λ _ t. exec p run n d t)
  exec-chain Done d s = refl
  exec-chain (Then c cs) d s =
      ap (then (step p run n c s)) (fun_ext (λ u. fun_ext (λ t. exec-chain cs d t)))
      ∙ sym (then_then (step p run n c s) (λ _ t. exec p run n cs t) (λ _ t. exec p run n d t))

  -- what the context makes of how its focus ends
  unfoldable pub around : Context → Outcome (Unit {0}) → Outcome (Unit {0})
  around (Here rest) o = then o (λ _ t. exec p run n rest t)
  around (InBlock l k rest) o = then (after_block l (around k o)) (λ _ t. exec p run n rest t)
  around (InFrame r k rest) o = then (after_frame r (around k o)) (λ _ t. exec p run n rest t)
  around (InCatch k x h rest) o = then (after_catch (around k o) x (λ t. exec p run n h t)) (λ _ t. exec p run n rest t)
  around (InFinally k f rest) o = then (after_finally (around k o) (λ t. exec p run n f t)) (λ _ t. exec p run n rest t)

  pub exec-fill : (k : Context) (c : PlainCode) (s : State) → exec p run n (fill k c) s ≡ around k (exec p run n c s)
  unfolding around
  exec-fill (Here rest) c s = exec-chain c rest s
  exec-fill (InBlock l k rest) c s = ap (λ o. then (after_block l o) (λ _ t. exec p run n rest t)) (exec-fill k c s)
  exec-fill (InFrame r k rest) c s = ap (λ o. then (after_frame r o) (λ _ t. exec p run n rest t)) (exec-fill k c s)
  exec-fill (InCatch k x h rest) c s = ap (λ o. then (after_catch o x (λ t. exec p run n h t)) (λ _ t. exec p run n rest t)) (exec-fill k c s)
  exec-fill (InFinally k f rest) c s = ap (λ o. then (after_finally o (λ t. exec p run n f t)) (λ _ t. exec p run n rest t)) (exec-fill k c s)

-- where two foci end alike, each from its state, so do the codes around them
pub fill_alike : (p : Program) (d n : ℕ) (k : Context) (c e : PlainCode) (s t : State) → exec_at p d n c s ≡ exec_at p d n e t → exec_at p d n (fill k c) s ≡ exec_at p d n (fill k e) t
fill_alike p d n k c e s t h = exec-fill p (runner p d n) n k c s ∙ ap (around p (runner p d n) n k) h ∙ sym (exec-fill p (runner p d n) n k e t)
