-- What a text is as a bracketed expression, or why it is none.
use Rattle.std.specs.Prelude.{◌≡◌, ◌≤◌, ℕ, List, [], ◌∷◌, ◌++◌, Result, Ok, Err}
use Rattle.jd_syntax.specs.Sxs.{Bracketed, sx_view}
use Rattle.jd_syntax.specs.declared.sx.Sx.{Sx}
use Rattle.jd_bracketed.specs.Tokens.{TokenKind, Placed, kinds, tokens_of}
use Rattle.jd_bracketed.specs.Trees.{spell, depth, IsFront}
use Rattle.jd_bracketed.specs.declared.refusal.SxRefusal.{SxRefusal}
use Rattle.jd_bracketed.specs.declared.refusal.SxRefusal.TheVariants as refusals

-- how many levels of brackets an expression may have
abbrev pub most_levels : ℕ
most_levels = 1000

-- the tokens are this expression's
pub record IsRead (limit : ℕ) (ts : List TokenKind) (x : Bracketed) : Type 0 where
  pub spelled : ts ≡ spell x
  pub within : depth x ≤ limit

-- behind these tokens no expression goes on with this one, however many levels it may have
pub record FailsAt (limit : ℕ) (front : List TokenKind) (t : TokenKind) : Type 0 where
  pub before : IsFront limit front
  pub here : (any : ℕ) → IsFront any (front ++ t ∷ []) → ⊥

-- behind these tokens an expression goes on with this one, but only one with too many levels
pub record DeepAt (limit : ℕ) (front : List TokenKind) (t : TokenKind) : Type 0 where
  pub before : IsFront limit front
  pub deeper : (any : ℕ) × IsFront any (front ++ t ∷ [])
  pub here : IsFront limit (front ++ t ∷ []) → ⊥

-- an expression begins with the tokens, and none is these
pub record EndsEarly (limit : ℕ) (ts : List TokenKind) : Type 0 where
  pub before : IsFront limit ts
  pub here : (x : Bracketed) → ts ≡ spell x → ⊥

-- this holds of the token at that offset and of those before it
pub record AtToken (P : List TokenKind → TokenKind → Type 0) (tokens : List Placed) (at : ℕ) : Type 0 where
  pub front : List Placed
  pub token : TokenKind
  pub behind : List Placed
  pub parts : tokens ≡ front ++ (token, at) ∷ behind
  pub holds : P (kinds front) token

-- ---- answers

-- a tree; the offset of the token at which no expression goes on; that the text ends too early; the offset of the bracket
-- that opens too many levels
pub data Answer : Type 0 where
  Tree : Bracketed → Answer
  Syntax : ℕ → Answer
  Truncated : Answer
  TooDeep : ℕ → Answer

abbrev pub IsAnswer : ℕ → List Placed → Answer → Type 0
IsAnswer limit tokens (Tree x) = IsRead limit (kinds tokens) x
IsAnswer limit tokens (Syntax at) = AtToken (FailsAt limit) tokens at
IsAnswer limit tokens Truncated = EndsEarly limit (kinds tokens)
IsAnswer limit tokens (TooDeep at) = AtToken (DeepAt limit) tokens at

-- the answer to a text
abbrev pub AnswersText : List ℕ → Answer → Type 0
AnswersText bytes answer = IsAnswer most_levels (tokens_of bytes) answer

-- a text has an answer, and no two
pub record OneAnswer : Type 0 where
  pub some : (bytes : List ℕ) → (answer : Answer) × AnswersText bytes answer
  pub one : (bytes : List ℕ) (answer other : Answer) → AnswersText bytes answer → AnswersText bytes other → answer ≡ other

-- ---- the code's answers

-- want of memory says nothing of the text
abbrev pub IsRefused : ℕ → List Placed → SxRefusal → Type 0
IsRefused limit tokens (refusals.Syntax file at) = (file ≡ 0) × IsAnswer limit tokens (Syntax at)
IsRefused limit tokens refusals.Truncated = IsAnswer limit tokens Truncated
IsRefused limit tokens (refusals.TooDeep file at) = (file ≡ 0) × IsAnswer limit tokens (TooDeep at)
IsRefused limit tokens refusals.NoMemory = Unit {0}

abbrev pub Answers : ℕ → List Placed → Result Sx SxRefusal → Type 0
Answers limit tokens (Ok x) = IsAnswer limit tokens (Tree (sx_view x))
Answers limit tokens (Err e) = IsRefused limit tokens e
