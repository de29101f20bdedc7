-- The tokens of the grammar as plain data.
use Rattle.std.specs.Prelude.{ℕ, List}

-- what a token says beside its kind: nothing, the text of a word, the value of a literal, or of a run of JML tokens the number of its
-- first and of the one behind its last
pub data PlainContent : Type 0 where
  NoContent : PlainContent
  WordContent : List ℕ → PlainContent
  NumberContent : ℕ → PlainContent
  SpecsContent : ℕ → ℕ → PlainContent

pub record PlainLexeme : Type 0 where
  pub kind : ℕ
  pub at : ℕ
  pub content : PlainContent
