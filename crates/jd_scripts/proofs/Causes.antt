-- Where no token goes on: why.
use Rattle.std.proofs.Common.{◌≡◌, ℕ, ◌+◌, false, List, [], ◌∷◌, ◌++◌, Result, Ok, Err, refl, sym, ap, subst, ◌∙◌, append_assoc, arith, true≢false}
use Rattle.jd_bracketed.specs.Tokens.{TokenKind}
use Rattle.jd_scripts.specs.Scripts.{ScriptFile, Limits, IsFile, IsFront}
use Rattle.jd_scripts.specs.Answers.{Limit, Version, Names, Steps, Levels, lifted, FailsAt, ExceedsAt, EndsEarly}
use Rattle.jd_scripts.specs.Machine.{State, FileNext, WordNext, VersionNext, ProofNext, ProofWord, NameNext, InProof, FileEnd, Fault, WrongToken, Over, next, step, then_run, run}
use Rattle.jd_scripts.proofs.Runs.{ran, same_state, err_ok, run-append, run_one}
use Rattle.jd_scripts.proofs.Complete.{reads_file}
use Rattle.jd_scripts.proofs.Sound.{file_of, reached, is_file}
use Rattle.jd_scripts.proofs.Fronts as fronts
use Rattle.jd_scripts.proofs.Looser.{Looser, front_looser, file_looser, decide_wrong, run_looser, beyond, same_limit}

pub whole : (l : Limits) (ts : List TokenKind) (f : ScriptFile) → IsFile l ts f → run l ts FileNext ≡ Ok (FileEnd f.version f.proofs)
whole l ts f is = ap (λ us. run l us FileNext) is.spelled ∙ reads_file l f is.fits

front_of : (l : Limits) (ts : List TokenKind) (st : State) → run l ts FileNext ≡ Ok st → IsFront l ts
front_of l ts st e = fronts.front_of l ts st (reached l ts st e)

run_fails : (l : Limits) (ts more : List TokenKind) (t : TokenKind) (st : State) (f : Fault) → run l ts FileNext ≡ Ok st → step l st t ≡ Err f → run l ((ts ++ t ∷ []) ++ more) FileNext ≡ Err f
unfolding run
run_fails l ts more t st f e g = ap (λ us. run l us FileNext) (append_assoc ts (t ∷ []) more) ∙ (run-append l ts (t ∷ more) FileNext st e ∙ ap (then_run (run l more)) g)

no_front : (l : Limits) (ts : List TokenKind) (t : TokenKind) (st : State) (f : Fault) → run l ts FileNext ≡ Ok st → step l st t ≡ Err f → IsFront l (ts ++ t ∷ []) → ⊥
no_front l ts t st f e g (more, file, is) = err_ok f (FileEnd file.version file.proofs) (sym (run_fails l ts more t st f e g) ∙ whole l ((ts ++ t ∷ []) ++ more) file is)

-- ---- limits that are wider than both

abbrev both : Limits → Limits → Limits
both l m = record { one_version = false; distinct = false; steps = l.steps + m.steps; levels = l.levels + m.levels }

left_looser : (l m : Limits) → Looser l (both l m)
left_looser l m = record { one_version = λ e. absurd (true≢false (sym e)); distinct = λ e. absurd (true≢false (sym e)); steps = omega arith; levels = omega arith }

right_looser : (l m : Limits) → Looser m (both l m)
right_looser l m = record { one_version = λ e. absurd (true≢false (sym e)); distinct = λ e. absurd (true≢false (sym e)); steps = omega arith; levels = omega arith }

abbrev wide : Limit → ℕ → Limits → Limits
wide k n l = lifted k (n + (l.steps + l.levels)) l

wide_own : (k : Limit) (n : ℕ) (l : Limits) → Looser l (wide k n l)
wide_own Version n l = record { one_version = λ e. absurd (true≢false (sym e)); distinct = λ e. e; steps = omega arith; levels = omega arith }
wide_own Names n l = record { one_version = λ e. e; distinct = λ e. absurd (true≢false (sym e)); steps = omega arith; levels = omega arith }
wide_own Steps n l = record { one_version = λ e. e; distinct = λ e. e; steps = omega arith; levels = omega arith }
wide_own Levels n l = record { one_version = λ e. e; distinct = λ e. e; steps = omega arith; levels = omega arith }

wide_lifted : (k : Limit) (n : ℕ) (l : Limits) → Looser (lifted k n l) (wide k n l)
wide_lifted Version n l = record { one_version = λ e. e; distinct = λ e. e; steps = omega arith; levels = omega arith }
wide_lifted Names n l = record { one_version = λ e. e; distinct = λ e. e; steps = omega arith; levels = omega arith }
wide_lifted Steps n l = record { one_version = λ e. e; distinct = λ e. e; steps = omega arith; levels = omega arith }
wide_lifted Levels n l = record { one_version = λ e. e; distinct = λ e. e; steps = omega arith; levels = omega arith }

-- ---- what a fault means

pub fails_at : (l : Limits) (ts : List TokenKind) (t : TokenKind) (st : State) → run l ts FileNext ≡ Ok st → step l st t ≡ Err WrongToken → FailsAt l ts t
fails_at l ts t st e g = record {
  before = front_of l ts st e;
  here = λ any h.
      let m = both l any in
      no_front m ts t st WrongToken (run_looser l m ts FileNext st (left_looser l any) e) (decide_wrong l m (next st t) g) (front_looser any m (ts ++ t ∷ []) (right_looser l any) h);
}

pub exceeds_at : (l : Limits) (k : Limit) (ts : List TokenKind) (t : TokenKind) (st : State) → run l ts FileNext ≡ Ok st → step l st t ≡ Err (Over k) → ExceedsAt k l ts t
exceeds_at l k ts t st e g =
    let up = beyond l (next st t) k g in
    let m = lifted k up.to l in
    record {
      before = front_of l ts st e;
      beyond = (up.to, front_of m (ts ++ t ∷ []) up.state (run_one m ts t FileNext st up.state (run_looser l m ts FileNext st up.looser e) up.goes));
      here = no_front l ts t st (Over k) e g;
    }

abbrev pub IsEnd : State → Type 0
IsEnd FileNext = ⊥
IsEnd WordNext = ⊥
IsEnd VersionNext = ⊥
IsEnd (ProofNext v done) = ⊥
IsEnd (ProofWord v done) = ⊥
IsEnd (NameNext v done) = ⊥
IsEnd (InProof c q ns os k) = ⊥
IsEnd (FileEnd v done) = Unit {0}

pub ends_early : (l : Limits) (ts : List TokenKind) (st : State) → run l ts FileNext ≡ Ok st → (IsEnd st → ⊥) → EndsEarly l ts
ends_early l ts st e unless = record {
  before = front_of l ts st e;
  here = λ any f is.
      let m = both l any in
      let ended : run m ts FileNext ≡ Ok (FileEnd f.version f.proofs) = whole m ts f (record { spelled = is.spelled; fits = file_looser any m f (right_looser l any) is.fits }) in
      unless (subst IsEnd (sym (same_state (sym (run_looser l m ts FileNext st (left_looser l any) e) ∙ ended))) tt);
}

-- ---- and what it comes from

record Run (l : Limits) (a b : List TokenKind) (st s : State) : Type 0 where
  between : State
  first : run l a st ≡ Ok between
  second : run l b between ≡ Ok s

run_front : (a : List TokenKind) (l : Limits) (b : List TokenKind) (st s : State) → run l (a ++ b) st ≡ Ok s → Run l a b st s
unfolding run
run_front [] l b st s e = record { between = st; first = refl; second = e }
run_front (t ∷ a) l b st s e =
    let k = ran (run l (a ++ b)) (step l st t) s e in
    let r = run_front a l b k.0 s k.2 in
    record { between = r.between; first = ap (then_run (run l a)) k.1 ∙ r.first; second = r.second }

front_runs : (l : Limits) (ts : List TokenKind) → IsFront l ts → (st : State) × (run l ts FileNext ≡ Ok st)
front_runs l ts (more, f, is) =
    let r = run_front ts l more FileNext (FileEnd f.version f.proofs) (whole l (ts ++ more) f is) in
    (r.between, r.first)

-- the token's step, where the tokens with it begin a file
last_step : (l : Limits) (ts : List TokenKind) (t : TokenKind) (st : State) → run l ts FileNext ≡ Ok st → IsFront l (ts ++ t ∷ []) → (s : State) × (step l st t ≡ Ok s)
unfolding run
last_step l ts t st e f =
    let all = front_runs l (ts ++ t ∷ []) f in
    let r = run_front ts l (t ∷ []) FileNext all.0 all.1 in
    let k = ran (λ m. Ok m) (step l r.between t) all.0 r.second in
    (k.0, ap (λ s. step l s t) (same_state (sym e ∙ r.first)) ∙ k.1)

pub record Stopped (l : Limits) (ts : List TokenKind) (t : TokenKind) (f : Fault) : Type 0 where
  pub state : State
  pub led : run l ts FileNext ≡ Ok state
  pub stops : step l state t ≡ Err f

pub fails_run : (l : Limits) (ts : List TokenKind) (t : TokenKind) → FailsAt l ts t → Stopped l ts t WrongToken
fails_run l ts t h = by_step (step l before.0 t) refl
  where
    before : (st : State) × (run l ts FileNext ≡ Ok st)
    before = front_runs l ts h.before

    by_step : (r : Result State Fault) → step l before.0 t ≡ r → Stopped l ts t WrongToken
    by_step (Ok s) e = absurd (h.here l (front_of l (ts ++ t ∷ []) s (run_one l ts t FileNext before.0 s before.1 e)))
    by_step (Err WrongToken) e = record { state = before.0; led = before.1; stops = e }
    by_step (Err (Over k)) e = let (n, f) = (exceeds_at l k ts t before.0 before.1 e).beyond in absurd (h.here (lifted k n l) f)

pub exceeds_run : (l : Limits) (k : Limit) (ts : List TokenKind) (t : TokenKind) → ExceedsAt k l ts t → Stopped l ts t (Over k)
exceeds_run l k ts t h = by_step (step l before.0 t) refl
  where
    before : (st : State) × (run l ts FileNext ≡ Ok st)
    before = front_runs l ts h.before

    wider : IsFront (wide k h.beyond.0 l) (ts ++ t ∷ [])
    wider = front_looser (lifted k h.beyond.0 l) (wide k h.beyond.0 l) (ts ++ t ∷ []) (wide_lifted k h.beyond.0 l) h.beyond.1

    goes : (s : State) × (step (wide k h.beyond.0 l) before.0 t ≡ Ok s)
    goes = last_step (wide k h.beyond.0 l) ts t before.0 (run_looser l (wide k h.beyond.0 l) ts FileNext before.0 (wide_own k h.beyond.0 l) before.1) wider

    by_step : (r : Result State Fault) → step l before.0 t ≡ r → Stopped l ts t (Over k)
    by_step (Ok s) e = absurd (h.here (front_of l (ts ++ t ∷ []) s (run_one l ts t FileNext before.0 s before.1 e)))
    by_step (Err WrongToken) e = absurd ((fails_at l ts t before.0 before.1 e).here (lifted k h.beyond.0 l) h.beyond.1)
    by_step (Err (Over j)) e =
        record { state = before.0; led = before.1; stops = e ∙ ap (λ (i : Limit). let r : Result State Fault = Err (Over i) in r) (same_limit l (next before.0 t) j k (h.beyond.0 + (l.steps + l.levels)) goes.0 e goes.1) }

pub record Short (l : Limits) (ts : List TokenKind) : Type 0 where
  pub state : State
  pub led : run l ts FileNext ≡ Ok state
  pub unless : IsEnd state → ⊥

pub ends_run : (l : Limits) (ts : List TokenKind) → EndsEarly l ts → Short l ts
ends_run l ts h =
    let before = front_runs l ts h.before in
    record { state = before.0; led = before.1; unless = λ end. at_end before.0 before.1 end }
  where
    at_end : (st : State) → run l ts FileNext ≡ Ok st → IsEnd st → ⊥
    at_end (FileEnd v done) e end = h.here l (file_of v done) (is_file l ts v done e)
    at_end FileNext e end = end
    at_end WordNext e end = end
    at_end VersionNext e end = end
    at_end (ProofNext v done) e end = end
    at_end (ProofWord v done) e end = end
    at_end (NameNext v done) e end = end
    at_end (InProof c q ns os k) e end = end
