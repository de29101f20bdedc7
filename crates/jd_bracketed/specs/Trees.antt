-- Bracketed expressions and the tokens that spell them.
use Rattle.std.specs.Prelude.{◌≡◌, ◌≤◌, ℕ, suc, max, List, [], ◌∷◌, ◌++◌}
use Rattle.jd_syntax.specs.Sxs.{Bracketed, Atom, Brackets, BracketedList, NoneBracketed, BracketedThen}
use Rattle.jd_bracketed.specs.Tokens.{TokenKind, Open, Close, Word}

-- the tokens of an expression: an atom is a word, a list stands in round brackets
abbrev mutual
  pub spell : Bracketed → List TokenKind
  spell (Atom w) = Word w ∷ []
  spell (Brackets xs) = Open ∷ (spell_all xs ++ Close ∷ [])

  pub spell_all : BracketedList → List TokenKind
  spell_all NoneBracketed = []
  spell_all (BracketedThen x xs) = spell x ++ spell_all xs

-- how many levels its brackets have
abbrev mutual
  pub depth : Bracketed → ℕ
  depth (Atom w) = 0
  depth (Brackets xs) = suc (depth_all xs)

  pub depth_all : BracketedList → ℕ
  depth_all NoneBracketed = 0
  depth_all (BracketedThen x xs) = max (depth x) (depth_all xs)

-- an expression with at most that many levels begins with these tokens, or is these
abbrev pub IsFront : ℕ → List TokenKind → Type 0
IsFront limit ts = (more : List TokenKind) × (x : Bracketed) × (ts ++ more ≡ spell x) × (depth x ≤ limit)
