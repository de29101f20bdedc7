-- What is answered where no tree has the tokens.
use Rattle.std.specs.Prelude.{◌≡◌, ℕ, ◌≤◌, List, ◌++◌, length, take}
use Rattle.std.specs.List.{slice_get}
use Rattle.jd_grammar.specs.declared.reading.Refusal.{Refusal}
use Rattle.jd_grammar.specs.declared.reading.Refusal.TheVariants.{Syntax, NoMemory}
use Rattle.jd_grammar.specs.Grammars.{Production, Spells}

-- tokens with which a tree of the name `start` begins
abbrev pub Begins : List Production → ℕ → List ℕ → Type 0
Begins g start tokens = (rest : List ℕ) × (order : List ℕ) × Spells g start (tokens ++ rest) order

-- the first tokens, so many of them, begin a tree, and with the next one, or with the end, they begin none
pub record StopsAt (g : List Production) (start : ℕ) (tokens : List ℕ) (at : ℕ) : Type 0 where
  pub inside : at ≤ length tokens
  pub begins : Begins g start (take at tokens)
  pub ends : (rest order : List ℕ) → slice_get rest 0 ≡ slice_get tokens at → Spells g start (take at tokens ++ rest) order → ⊥

abbrev pub IsRefusal : List Production → ℕ → List ℕ → Refusal → Type 0
IsRefusal g start tokens (Syntax at) = StopsAt g start tokens at
IsRefusal g start tokens NoMemory = Unit {0}
