-- What a text is as a file of proof scripts, or why it is none.
use Rattle.std.specs.Prelude.{◌≡◌, ℕ, true, false, List, [], ◌∷◌, ◌++◌}
use Rattle.jd_bracketed.specs.Tokens.{TokenKind, Word, Placed, kinds, tokens_of}
use Rattle.jd_bracketed.specs.Answers.{AtToken}
use Rattle.jd_scripts.specs.Scripts.{PlainProof, ScriptFile, Limits, IsFile, IsFront}

-- what is limited
pub data Limit : Type 0 where
  Version : Limit
  Names : Limit
  Steps : Limit
  Levels : Limit

-- the limits but for one, which is any
abbrev pub lifted : Limit → ℕ → Limits → Limits
lifted Version n l = record { one_version = false; distinct = l.distinct; steps = l.steps; levels = l.levels }
lifted Names n l = record { one_version = l.one_version; distinct = false; steps = l.steps; levels = l.levels }
lifted Steps n l = record { one_version = l.one_version; distinct = l.distinct; steps = n; levels = l.levels }
lifted Levels n l = record { one_version = l.one_version; distinct = l.distinct; steps = l.steps; levels = n }

-- the limits of the form, but for the two numbers
abbrev pub limits_of : ℕ → ℕ → Limits
limits_of steps levels = record { one_version = true; distinct = true; steps = steps; levels = levels }

abbrev pub most_steps : ℕ
most_steps = 500000

abbrev pub most_levels : ℕ
most_levels = 1000

-- behind these tokens no file goes on with this one, whatever the limits
pub record FailsAt (limits : Limits) (front : List TokenKind) (t : TokenKind) : Type 0 where
  pub before : IsFront limits front
  pub here : (any : Limits) → IsFront any (front ++ t ∷ []) → ⊥

-- behind these tokens no file goes on with this one but one that is beyond this limit
pub record ExceedsAt (limit : Limit) (limits : Limits) (front : List TokenKind) (t : TokenKind) : Type 0 where
  pub before : IsFront limits front
  pub beyond : (n : ℕ) × IsFront (lifted limit n limits) (front ++ t ∷ [])
  pub here : IsFront limits (front ++ t ∷ []) → ⊥

-- a file begins with the tokens, and none is these
pub record EndsEarly (limits : Limits) (ts : List TokenKind) : Type 0 where
  pub before : IsFront limits ts
  pub here : (any : Limits) (f : ScriptFile) → IsFile any ts f → ⊥

-- ---- answers

-- the proofs; a version other than 1; the offset of the token at which no file goes on; the name that a second proof has; that
-- the text ends too early; too many steps in one proof; the offset of the bracket that opens too many levels
pub data Answer : Type 0 where
  Proofs : List PlainProof → Answer
  OtherVersion : Answer
  Syntax : ℕ → Answer
  DuplicateProof : List ℕ → Answer
  Truncated : Answer
  TooManySteps : Answer
  TooDeep : ℕ → Answer

-- the tokens spell these proofs, within the limits
abbrev pub IsScriptFile : Limits → List TokenKind → List PlainProof → Type 0
IsScriptFile limits ts proofs = IsFile limits ts (record { version = 1; proofs = proofs })

abbrev pub IsAnswer : Limits → List Placed → Answer → Type 0
IsAnswer limits tokens (Proofs ps) = IsScriptFile limits (kinds tokens) ps
IsAnswer limits tokens OtherVersion = (at : ℕ) × AtToken (ExceedsAt Version limits) tokens at
IsAnswer limits tokens (Syntax at) = AtToken (FailsAt limits) tokens at
IsAnswer limits tokens (DuplicateProof name) = (at : ℕ) × AtToken (λ front t. (t ≡ Word name) × ExceedsAt Names limits front t) tokens at
IsAnswer limits tokens Truncated = EndsEarly limits (kinds tokens)
IsAnswer limits tokens TooManySteps = (at : ℕ) × AtToken (ExceedsAt Steps limits) tokens at
IsAnswer limits tokens (TooDeep at) = AtToken (ExceedsAt Levels limits) tokens at

-- a text has an answer, and no two
pub record OneAnswer : Type 0 where
  pub some : (steps levels : ℕ) (bytes : List ℕ) → (answer : Answer) × IsAnswer (limits_of steps levels) (tokens_of bytes) answer
  pub one : (steps levels : ℕ) (bytes : List ℕ) (answer other : Answer)
      → IsAnswer (limits_of steps levels) (tokens_of bytes) answer → IsAnswer (limits_of steps levels) (tokens_of bytes) other → answer ≡ other
