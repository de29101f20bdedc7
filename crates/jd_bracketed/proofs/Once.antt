-- A text has one answer.
use Rattle.std.proofs.Common.{◌≡◌, ℕ, List, [], ◌∷◌, ◌++◌, Result, Ok, Err, refl, sym, ap, subst, ◌∙◌, append_assoc}
use Rattle.std.proofs.lemmas.List.{append-nil, map-append}
use Rattle.jd_syntax.specs.Sxs.{Bracketed}
use Rattle.jd_bracketed.specs.Tokens.{TokenKind, Placed, kinds, tokens_of}
use Rattle.jd_bracketed.specs.Trees.{IsFront}
use Rattle.jd_bracketed.specs.Readings.{State, Before, Inside, Whole, Fault, WrongToken, TooManyLevels, step}
use Rattle.jd_bracketed.specs.Answers.{IsRead, FailsAt, DeepAt, AtToken, Answer, Tree, Syntax, Truncated, TooDeep, IsAnswer, most_levels, OneAnswer}
use Rattle.jd_bracketed.proofs.Runs.{one_reading}
use Rattle.jd_bracketed.proofs.Turns.{Reached, reached_none, turn, syntax_here, deep_here, whole_here, early_here}

-- ---- some answer

answered : (limit : ℕ) (tokens left : List Placed) (st : State) → Reached limit tokens left st → (answer : Answer) × IsAnswer limit tokens answer
answered limit tokens [] Before r = (Truncated, early_here limit tokens [] Before r refl (λ w. w))
answered limit tokens [] (Inside parts around) r = (Truncated, early_here limit tokens [] (Inside parts around) r refl (λ w. w))
answered limit tokens [] (Whole x) r = (Tree x, whole_here limit tokens [] (Whole x) x r refl refl)
answered limit tokens (p ∷ rest) st r = by_step (step limit st p.0) refl (λ s e. answered limit tokens rest s e)
  where
    by_step : (g : Result State Fault) → step limit st p.0 ≡ g → ((s : State) → Reached limit tokens rest s → (answer : Answer) × IsAnswer limit tokens answer)
        → (answer : Answer) × IsAnswer limit tokens answer
    by_step (Ok s) e further = further s (turn limit tokens (p ∷ rest) rest p st s r refl e)
    by_step (Err WrongToken) e further = (Syntax p.1, syntax_here limit tokens (p ∷ rest) rest p st r refl e)
    by_step (Err TooManyLevels) e further = (TooDeep p.1, deep_here limit tokens (p ∷ rest) rest p st r refl e)

-- ---- no two

-- of the answers that name a token
record StopsAt (limit : ℕ) (front : List TokenKind) (t : TokenKind) : Type 0 where
  before : IsFront limit front
  here : IsFront limit (front ++ t ∷ []) → ⊥

fails_stops : (limit : ℕ) (front : List TokenKind) (t : TokenKind) → FailsAt limit front t → StopsAt limit front t
fails_stops limit front t f = record { before = f.before; here = f.here limit }

deep_stops : (limit : ℕ) (front : List TokenKind) (t : TokenKind) → DeepAt limit front t → StopsAt limit front t
deep_stops limit front t d = record { before = d.before; here = d.here }

shorter : (limit : ℕ) (front behind : List TokenKind) → IsFront limit (front ++ behind) → IsFront limit front
shorter limit front behind (more, x, is, le) = (behind ++ more, x, sym (append_assoc front behind more) ∙ is, le)

-- the tokens up to that one begin no expression, so what they begin is none
none_behind : (limit : ℕ) (front behind : List Placed) (p : Placed) → StopsAt limit (kinds front) p.0 → IsFront limit (kinds (front ++ p ∷ behind)) → ⊥
none_behind limit front behind p s f =
    s.here (shorter limit (kinds front ++ p.0 ∷ []) (kinds behind)
    (subst (IsFront limit) (map-append (λ (q : Placed). q.0) front (p ∷ behind) ∙ sym (append_assoc (kinds front) (p.0 ∷ []) (kinds behind))) f))

not_front : (limit at : ℕ) (tokens : List Placed) → AtToken (StopsAt limit) tokens at → IsFront limit (kinds tokens) → ⊥
not_front limit at tokens a f = none_behind limit a.front a.behind (a.token, at) a.holds (subst (λ ts. IsFront limit (kinds ts)) a.parts f)

-- two places in one list: the same, or one before the other
data Places (f : List Placed) (p : Placed) (g : List Placed) (q : Placed) : Type 0 where
  same : f ≡ g → p ≡ q → Places f p g q
  first : (more : List Placed) → g ≡ f ++ p ∷ more → Places f p g q
  second : (more : List Placed) → f ≡ g ++ q ∷ more → Places f p g q

head_same : (p q : Placed) (xs ys : List Placed) → p ∷ xs ≡ q ∷ ys → p ≡ q
head_same p q xs ys e = cc

tail_same : (p q : Placed) (xs ys : List Placed) → p ∷ xs ≡ q ∷ ys → xs ≡ ys
tail_same p q xs ys e = cc

longer : (x y : Placed) (f g : List Placed) (p q : Placed) → x ≡ y → Places f p g q → Places (x ∷ f) p (y ∷ g) q
longer x y f g p q e (same a b) = same (ap (λ h. h ∷ f) e ∙ ap (λ xs. y ∷ xs) a) b
longer x y f g p q e (first more a) = first more (ap (λ h. h ∷ g) (sym e) ∙ ap (λ xs. x ∷ xs) a)
longer x y f g p q e (second more a) = second more (ap (λ h. h ∷ f) e ∙ ap (λ xs. y ∷ xs) a)

places : (f g : List Placed) (p q : Placed) (b d : List Placed) → f ++ p ∷ b ≡ g ++ q ∷ d → Places f p g q
places [] [] p q b d e = same refl (head_same p q b d e)
places [] (y ∷ g) p q b d e = first g (ap (λ h. h ∷ g) (sym (head_same p y b (g ++ q ∷ d) e)))
places (x ∷ f) [] p q b d e = second f (ap (λ h. h ∷ f) (head_same x q (f ++ p ∷ b) d e))
places (x ∷ f) (y ∷ g) p q b d e =
    longer x y f g p q (head_same x y (f ++ p ∷ b) (g ++ q ∷ d) e) (places f g p q b d (tail_same x y (f ++ p ∷ b) (g ++ q ∷ d) e))

-- two answers that name a token name the same
record Same (f : List Placed) (p : Placed) (g : List Placed) (q : Placed) : Type 0 where
  fronts : f ≡ g
  tokens : p ≡ q

same_token : (limit : ℕ) (f g : List Placed) (p q : Placed) → StopsAt limit (kinds f) p.0 → StopsAt limit (kinds g) q.0 → Places f p g q → Same f p g q
same_token limit f g p q s t (same a b) = record { fronts = a; tokens = b }
same_token limit f g p q s t (first more a) = absurd (none_behind limit f more p s (subst (λ ts. IsFront limit (kinds ts)) a t.before))
same_token limit f g p q s t (second more a) = absurd (none_behind limit g more q t (subst (λ ts. IsFront limit (kinds ts)) a s.before))

at_one : (limit : ℕ) (tokens : List Placed) (m n : ℕ) (a : AtToken (StopsAt limit) tokens m) (b : AtToken (StopsAt limit) tokens n)
    → Same a.front (a.token, m) b.front (b.token, n)
at_one limit tokens m n a b =
    same_token limit a.front b.front (a.token, m) (b.token, n) a.holds b.holds (places a.front b.front (a.token, m) (b.token, n) a.behind b.behind (sym a.parts ∙ b.parts))

weaker : (P Q : List TokenKind → TokenKind → Type 0) (tokens : List Placed) (at : ℕ) → ((front : List TokenKind) (t : TokenKind) → P front t → Q front t)
    → AtToken P tokens at → AtToken Q tokens at
weaker P Q tokens at so a = record { front = a.front; token = a.token; behind = a.behind; parts = a.parts; holds = so (kinds a.front) a.token a.holds }

syntax_stops : (limit : ℕ) (tokens : List Placed) (at : ℕ) → AtToken (FailsAt limit) tokens at → AtToken (StopsAt limit) tokens at
syntax_stops limit tokens at a = weaker (FailsAt limit) (StopsAt limit) tokens at (fails_stops limit) a

levels_stop : (limit : ℕ) (tokens : List Placed) (at : ℕ) → AtToken (DeepAt limit) tokens at → AtToken (StopsAt limit) tokens at
levels_stop limit tokens at a = weaker (DeepAt limit) (StopsAt limit) tokens at (deep_stops limit) a

place_same : (t u : TokenKind) (m n : ℕ) → (let p : Placed = (t, m) in p) ≡ (u, n) → m ≡ n
place_same t u m n e = ap (λ (p : Placed). p.1) e

-- an expression begins with all of its tokens
whole_front : (limit : ℕ) (ts : List TokenKind) (x : Bracketed) → IsRead limit ts x → IsFront limit ts
whole_front limit ts x r = ([], x, append-nil ts ∙ r.spelled, r.within)

not_both : (limit : ℕ) (tokens : List Placed) (m n : ℕ) → AtToken (FailsAt limit) tokens m → AtToken (DeepAt limit) tokens n → ⊥
unfolding levels_stop syntax_stops weaker
not_both limit tokens m n a b =
    let s = at_one limit tokens m n (syntax_stops limit tokens m a) (levels_stop limit tokens n b) in
    let (any, f) = b.holds.deeper in
    a.holds.here any (subst (λ ts. IsFront any (kinds ts ++ a.token ∷ [])) (sym s.fronts) (subst (λ (p : Placed). IsFront any (kinds b.front ++ p.0 ∷ [])) (sym s.tokens) f))

one : (limit : ℕ) (tokens : List Placed) (a b : Answer) → IsAnswer limit tokens a → IsAnswer limit tokens b → a ≡ b
one limit tokens (Tree x) (Tree y) h k = ap Tree (one_reading x y (sym h.spelled ∙ k.spelled))
one limit tokens (Tree x) (Syntax n) h k = absurd (not_front limit n tokens (syntax_stops limit tokens n k) (whole_front limit (kinds tokens) x h))
one limit tokens (Tree x) Truncated h k = absurd (k.here x h.spelled)
one limit tokens (Tree x) (TooDeep n) h k = absurd (not_front limit n tokens (levels_stop limit tokens n k) (whole_front limit (kinds tokens) x h))
one limit tokens (Syntax m) (Tree y) h k = absurd (not_front limit m tokens (syntax_stops limit tokens m h) (whole_front limit (kinds tokens) y k))
one limit tokens (Syntax m) (Syntax n) h k =
    ap Syntax (place_same _ _ m n (at_one limit tokens m n (syntax_stops limit tokens m h) (syntax_stops limit tokens n k)).tokens)
one limit tokens (Syntax m) Truncated h k = absurd (not_front limit m tokens (syntax_stops limit tokens m h) k.before)
one limit tokens (Syntax m) (TooDeep n) h k = absurd (not_both limit tokens m n h k)
one limit tokens Truncated (Tree y) h k = absurd (h.here y k.spelled)
one limit tokens Truncated (Syntax n) h k = absurd (not_front limit n tokens (syntax_stops limit tokens n k) h.before)
one limit tokens Truncated Truncated h k = refl
one limit tokens Truncated (TooDeep n) h k = absurd (not_front limit n tokens (levels_stop limit tokens n k) h.before)
one limit tokens (TooDeep m) (Tree y) h k = absurd (not_front limit m tokens (levels_stop limit tokens m h) (whole_front limit (kinds tokens) y k))
one limit tokens (TooDeep m) (Syntax n) h k = absurd (not_both limit tokens n m k h)
one limit tokens (TooDeep m) Truncated h k = absurd (not_front limit m tokens (levels_stop limit tokens m h) k.before)
one limit tokens (TooDeep m) (TooDeep n) h k =
    ap TooDeep (place_same _ _ m n (at_one limit tokens m n (levels_stop limit tokens m h) (levels_stop limit tokens n k)).tokens)

pub one_answer : OneAnswer
one_answer = record {
  some = λ bytes. answered most_levels (tokens_of bytes) (tokens_of bytes) Before (reached_none most_levels (tokens_of bytes));
  one = λ bytes answer other h k. one most_levels (tokens_of bytes) answer other h k;
}
