-- What reading answers is the answer to the text, and the only one.
use Rattle.std.proofs.Common.{◌≡◌, true, List, [], ◌∷◌, ◌++◌, Result, Ok, Err, refl, sym, ap, subst, ◌∙◌, append_assoc}
use Rattle.std.proofs.lemmas.List.{append-nil, map-append}
use Rattle.jd_bracketed.specs.Tokens.{TokenKind, Word, Placed, kinds, tokens_of}
use Rattle.jd_bracketed.specs.Answers.{AtToken}
use Rattle.jd_scripts.specs.Scripts.{Limits, IsFile}
use Rattle.jd_scripts.specs.Answers.{Version, Names, Steps, Levels, FailsAt, ExceedsAt, Answer, Proofs, OtherVersion, Syntax, DuplicateProof, Truncated, TooManySteps, TooDeep, IsAnswer, limits_of, OneAnswer}
use Rattle.jd_scripts.specs.Machine.{State, FileNext, WordNext, VersionNext, ProofNext, ProofWord, NameNext, InProof, FileEnd, Fault, WrongToken, Over, step, run}
use Rattle.jd_scripts.specs.Results.{word_of, refused, ended, answer_by, answer}
use Rattle.jd_scripts.proofs.Runs.{ran, run_one}
use Rattle.jd_scripts.proofs.Sound.{file_of, is_file}
use Rattle.jd_scripts.proofs.Named.{name_is}
use Rattle.jd_scripts.proofs.Causes.{whole, fails_at, exceeds_at, ends_early, IsEnd, Stopped, fails_run, exceeds_run, ends_run}

-- ---- what reading answers is an answer

module _ (l : Limits) (one : l.one_version ≡ true) (tokens : List Placed) where
  at_token : (P : List TokenKind → TokenKind → Type 0) (front behind : List Placed) (p : Placed) → tokens ≡ front ++ p ∷ behind → P (kinds front) p.0 → AtToken P tokens p.1
  at_token P front behind p e h = record { front = front; token = p.0; behind = behind; parts = e; holds = h }

  refused_is : (front behind : List Placed) (p : Placed) (st : State) (f : Fault) → tokens ≡ front ++ p ∷ behind → run l (kinds front) FileNext ≡ Ok st → step l st p.0 ≡ Err f → IsAnswer l tokens (refused p f)
  refused_is front behind p st WrongToken e led g = at_token (FailsAt l) front behind p e (fails_at l (kinds front) p.0 st led g)
  refused_is front behind p st (Over Version) e led g = (p.1, at_token (ExceedsAt Version l) front behind p e (exceeds_at l Version (kinds front) p.0 st led g))
  refused_is front behind p st (Over Names) e led g =
      (p.1, at_token (λ ts t. (t ≡ Word (word_of p.0)) × ExceedsAt Names l ts t) front behind p e (name_is l st p.0 g, exceeds_at l Names (kinds front) p.0 st led g))
  refused_is front behind p st (Over Steps) e led g = (p.1, at_token (ExceedsAt Steps l) front behind p e (exceeds_at l Steps (kinds front) p.0 st led g))
  refused_is front behind p st (Over Levels) e led g = at_token (ExceedsAt Levels l) front behind p e (exceeds_at l Levels (kinds front) p.0 st led g)

  early : (st : State) → run l (kinds tokens) FileNext ≡ Ok st → (IsEnd st → ⊥) → IsAnswer l tokens Truncated
  early st led unless = ends_early l (kinds tokens) st led unless

  ended_is : (st : State) → run l (kinds tokens) FileNext ≡ Ok st → IsAnswer l tokens (ended st)
  ended_is FileNext led = early FileNext led (λ w. w)
  ended_is WordNext led = early WordNext led (λ w. w)
  ended_is VersionNext led = early VersionNext led (λ w. w)
  ended_is (ProofNext v done) led = early (ProofNext v done) led (λ w. w)
  ended_is (ProofWord v done) led = early (ProofWord v done) led (λ w. w)
  ended_is (NameNext v done) led = early (NameNext v done) led (λ w. w)
  ended_is (InProof c q ns os k) led = early (InProof c q ns os k) led (λ w. w)
  ended_is (FileEnd v done) led =
      let is = is_file l (kinds tokens) v done led in
      subst (λ n. IsFile l (kinds tokens) (file_of n done)) (is.fits.version one) is

  answered : (left front : List Placed) (st : State) → tokens ≡ front ++ left → run l (kinds front) FileNext ≡ Ok st → IsAnswer l tokens (answer l left st)
  unfolding answer
  answered [] front st e led = ended_is st (ap (λ ts. run l (kinds ts) FileNext) (e ∙ append-nil front) ∙ led)
  answered (p ∷ left) front st e led = by_step (step l st p.0) refl (λ s g.
      answered left (front ++ p ∷ []) s (e ∙ sym (append_assoc front (p ∷ []) left))
      (ap (λ ts. run l ts FileNext) (map-append (λ (q : Placed). q.0) front (p ∷ [])) ∙ run_one l (kinds front) p.0 FileNext st s led g))
    where
      by_step : (r : Result State Fault) → step l st p.0 ≡ r → ((s : State) → step l st p.0 ≡ Ok s → IsAnswer l tokens (answer l left s)) → IsAnswer l tokens (answer_by (answer l left) p (step l st p.0))
      by_step (Ok s) g further = subst (λ r. IsAnswer l tokens (answer_by (answer l left) p r)) (sym g) (further s g)
      by_step (Err f) g further = subst (λ r. IsAnswer l tokens (answer_by (answer l left) p r)) (sym g) (refused_is front left p st f e led g)

  pub is_answer : IsAnswer l tokens (answer l tokens FileNext)
  unfolding run
  is_answer = answered tokens [] FileNext refl refl

-- ---- and no other is

module _ (l : Limits) where
  further : (front rest : List Placed) (st s : State) → run l (kinds front) st ≡ Ok s → answer l (front ++ rest) st ≡ answer l rest s
  unfolding answer run
  further [] rest st s e = let same : st ≡ s = cc in ap (answer l rest) same
  further (p ∷ front) rest st s e =
      let k = ran (run l (kinds front)) (step l st p.0) s e in
      ap (answer_by (answer l (front ++ rest)) p) k.1 ∙ further front rest k.0 s k.2

  stopped : (tokens front behind : List Placed) (p : Placed) (f : Fault) → tokens ≡ front ++ p ∷ behind → Stopped l (kinds front) p.0 f → answer l tokens FileNext ≡ refused p f
  unfolding answer
  stopped tokens front behind p f e s =
      ap (λ ts. answer l ts FileNext) e ∙ (further front (p ∷ behind) FileNext s.state s.led ∙ ap (answer_by (answer l behind) p) s.stops)

  at_end : (tokens : List Placed) (st : State) → run l (kinds tokens) FileNext ≡ Ok st → answer l tokens FileNext ≡ ended st
  unfolding answer
  at_end tokens st e = ap (λ ts. answer l ts FileNext) (sym (append-nil tokens)) ∙ further tokens [] FileNext st e

  not_end : (st : State) → (IsEnd st → ⊥) → ended st ≡ Truncated
  not_end FileNext h = refl
  not_end WordNext h = refl
  not_end VersionNext h = refl
  not_end (ProofNext v done) h = refl
  not_end (ProofWord v done) h = refl
  not_end (NameNext v done) h = refl
  not_end (InProof c q ns os k) h = refl
  not_end (FileEnd v done) h = absurd (h tt)

  only : (tokens : List Placed) (a : Answer) → IsAnswer l tokens a → answer l tokens FileNext ≡ a
  only tokens (Proofs ps) h = at_end tokens (FileEnd 1 ps) (whole l (kinds tokens) (file_of 1 ps) h)
  only tokens OtherVersion (at, a) = stopped tokens a.front a.behind (a.token, at) (Over Version) a.parts (exceeds_run l Version (kinds a.front) a.token a.holds)
  only tokens (Syntax at) a = stopped tokens a.front a.behind (a.token, at) WrongToken a.parts (fails_run l (kinds a.front) a.token a.holds)
  only tokens (DuplicateProof name) (at, a) =
      stopped tokens a.front a.behind (a.token, at) (Over Names) a.parts (exceeds_run l Names (kinds a.front) a.token a.holds.1) ∙ ap (λ t. DuplicateProof (word_of t)) a.holds.0
  only tokens Truncated h = let s = ends_run l (kinds tokens) h in at_end tokens s.state s.led ∙ not_end s.state s.unless
  only tokens TooManySteps (at, a) = stopped tokens a.front a.behind (a.token, at) (Over Steps) a.parts (exceeds_run l Steps (kinds a.front) a.token a.holds)
  only tokens (TooDeep at) a = stopped tokens a.front a.behind (a.token, at) (Over Levels) a.parts (exceeds_run l Levels (kinds a.front) a.token a.holds)

pub one_answer : OneAnswer
one_answer = record {
  some = λ steps levels bytes.
      let l = limits_of steps levels in
      (answer l (tokens_of bytes) FileNext, is_answer l refl (tokens_of bytes));
  one = λ steps levels bytes a b h k. sym (only (limits_of steps levels) (tokens_of bytes) a h) ∙ only (limits_of steps levels) (tokens_of bytes) b k;
}
