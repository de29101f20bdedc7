-- A turn of the loop over the tokens.
use Rattle.std.proofs.Common.{◌≡◌, ℕ, List, [], ◌∷◌, ◌++◌, Ok, Err, refl, sym, ap, ◌∙◌, append_assoc}
use Rattle.std.proofs.lemmas.List.{append-nil, map-append}
use Rattle.jd_syntax.specs.declared.sx.Sx.{Sx}
use Rattle.jd_syntax.specs.Sxs.{Bracketed}
use Rattle.jd_bracketed.specs.Tokens.{Placed, kinds}
use Rattle.jd_bracketed.specs.Readings.{State, Before, Whole, WrongToken, TooManyLevels, step, run}
use Rattle.jd_bracketed.specs.ReadingViews.{reading_view}
use Rattle.jd_bracketed.specs.Answers.{IsRead, FailsAt, DeepAt, EndsEarly, AtToken}
use Rattle.jd_bracketed.specs.declared.reading.Reading.{Reading}
use Rattle.jd_bracketed.specs.declared.reading.Reading.TheVariants as states
use Rattle.jd_bracketed.proofs.Runs.{run_one, fails_at, deep_at, ends_early, is_read, IsWhole}

-- the tokens before those that are left lead to the state
pub record Reached (limit : ℕ) (tokens left : List Placed) (st : State) : Type 0 where
  pub front : List Placed
  pub parts : tokens ≡ front ++ left
  pub led : run limit (kinds front) Before ≡ Ok st

pub reached_none : (limit : ℕ) (tokens : List Placed) → Reached limit tokens tokens Before
unfolding run
reached_none limit tokens = record { front = []; parts = refl; led = refl }

pub turn : (limit : ℕ) (tokens left rest : List Placed) (p : Placed) (st s : State) → Reached limit tokens left st → left ≡ p ∷ rest
    → step limit st p.0 ≡ Ok s → Reached limit tokens rest s
turn limit tokens left rest p st s r e g = record {
  front = r.front ++ p ∷ [];
  parts = r.parts ∙ (ap (λ ts. r.front ++ ts) e ∙ sym (append_assoc r.front (p ∷ []) rest));
  led = ap (λ ts. run limit ts Before) (map-append (λ (q : Placed). q.0) r.front (p ∷ [])) ∙ run_one limit (kinds r.front) p.0 st s r.led g;
}

pub syntax_here : (limit : ℕ) (tokens left rest : List Placed) (p : Placed) (st : State) → Reached limit tokens left st → left ≡ p ∷ rest
    → step limit st p.0 ≡ Err WrongToken → AtToken (FailsAt limit) tokens p.1
syntax_here limit tokens left rest p st r e g = record {
  front = r.front;
  token = p.0;
  behind = rest;
  parts = r.parts ∙ ap (λ ts. r.front ++ ts) e;
  holds = fails_at limit (kinds r.front) p.0 st r.led g;
}

pub deep_here : (limit : ℕ) (tokens left rest : List Placed) (p : Placed) (st : State) → Reached limit tokens left st → left ≡ p ∷ rest
    → step limit st p.0 ≡ Err TooManyLevels → AtToken (DeepAt limit) tokens p.1
deep_here limit tokens left rest p st r e g = record {
  front = r.front;
  token = p.0;
  behind = rest;
  parts = r.parts ∙ ap (λ ts. r.front ++ ts) e;
  holds = deep_at limit (kinds r.front) p.0 st r.led g;
}

-- no token is left
at_end : (limit : ℕ) (tokens left : List Placed) (st : State) → Reached limit tokens left st → left ≡ [] → run limit (kinds tokens) Before ≡ Ok st
at_end limit tokens left st r e =
    ap (λ ts. run limit (kinds ts) Before) (r.parts ∙ (ap (λ ts. r.front ++ ts) e ∙ append-nil r.front)) ∙ r.led

pub whole_here : (limit : ℕ) (tokens left : List Placed) (st : State) (x : Bracketed) → Reached limit tokens left st → left ≡ [] → st ≡ Whole x → IsRead limit (kinds tokens) x
whole_here limit tokens left st x r e is = is_read limit (kinds tokens) x (at_end limit tokens left st r e ∙ ap (λ s. Ok s) is)

pub early_here : (limit : ℕ) (tokens left : List Placed) (st : State) → Reached limit tokens left st → left ≡ [] → (IsWhole st → ⊥) → EndsEarly limit (kinds tokens)
early_here limit tokens left st r e unless = ends_early limit (kinds tokens) st (at_end limit tokens left st r e) unless

pub not_whole : (s : Reading) → ((x : Sx) → s ≡ states.Whole x → ⊥) → IsWhole (reading_view s) → ⊥
not_whole states.Before h w = w
not_whole (states.Inside parts around) h w = w
not_whole (states.Whole x) h w = h x refl
