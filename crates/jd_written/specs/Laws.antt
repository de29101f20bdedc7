-- The laws of writing.
use Rattle.std.specs.Prelude.{◌≡◌, ◌≤◌, ℤ, List, ◌++◌}
use Rattle.jd_syntax.specs.Sxs.{Bracketed}
use Rattle.jd_bracketed.specs.Tokens.{TokenKind, Word, kinds, tokens_of}
use Rattle.jd_bracketed.specs.Trees.{spell, depth}
use Rattle.jd_bracketed.specs.Answers.{Tree, AnswersText, most_levels}
use Rattle.jd_written.specs.Written.{text_from, text_of, IsWritable, AllWritable, Text, empty_text, write_all, tight_behind, integer_text}

-- the tokens of what is written are those that were written, so that no two lists of tokens have one text; an expression is read
-- from the text of its tokens
pub record TokensAreReadBack : Type 0 where
  pub tokens : (ts : List TokenKind) → AllWritable ts → kinds (tokens_of (text_of ts)) ≡ ts
  pub one_text : (ts us : List TokenKind) → AllWritable ts → AllWritable us → text_of ts ≡ text_of us → ts ≡ us
  pub expression : (x : Bracketed) → AllWritable (spell x) → depth x ≤ most_levels → AnswersText (text_of (spell x)) (Tree x)

-- what is written token by token is the text of the tokens, from any state and from the empty text; tokens in two parts are written
-- one part after the other
pub record TokensAreWritten : Type 0 where
  pub from : (text : Text) (ts : List TokenKind) → write_all text ts ≡ (text.0 ++ text_from text.1 ts, tight_behind text.1 ts)
  pub whole : (ts : List TokenKind) → (write_all empty_text ts).0 ≡ text_of ts
  pub in_parts : (text : Text) (ts us : List TokenKind) → write_all text (ts ++ us) ≡ write_all (write_all text ts) us

-- each integer's text is a word, and no two integers have one text
pub record IntegersAreWords : Type 0 where
  pub writable : (z : ℤ) → IsWritable (Word (integer_text z))
  pub one_integer : (y z : ℤ) → integer_text y ≡ integer_text z → y ≡ z
