-- The tokens of the grammar of JML, and what the first of some tell.
use Rattle.std.specs.Prelude.{ℕ, List, [], map, ℤ, pos}
use Rattle.std.specs.List.{slice_get}
use Rattle.std.specs.Option.{option_map_or}
use Rattle.jd_lex.specs.Parts as lexed
use Rattle.jd_lex.specs.View.{token_view}
use Rattle.jd_jml_tokens.specs.Words.{kind_of}
use Rattle.jd_jml_tokens.specs.declared.lexeme.Lexeme.{Lexeme}

-- a token with its kind
pub record PlainLexeme : Type 0 where
  pub kind : ℕ
  pub token : lexed.Token

abbrev pub lexeme_of : lexed.Token → PlainLexeme
lexeme_of t = record { kind = kind_of t.kind; token = t }

abbrev pub lexemes_of : List lexed.Token → List PlainLexeme
lexemes_of ts = map lexeme_of ts

abbrev pub kinds_of : List PlainLexeme → List ℕ
kinds_of ls = map (λ l. l.kind) ls

-- ---- what the first of some tell

-- the place of the token of that number, from 0
abbrev pub place_of : ℕ → List PlainLexeme → ℕ
place_of n ls = option_map_or (λ l. l.token.begins) (slice_get ls n) 0

abbrev pub word_in : lexed.Kind → List ℕ
word_in (lexed.Word text) = text
word_in _ = []

-- the text of the first, where it is a word
abbrev pub text_of : List PlainLexeme → List ℕ
text_of ls = option_map_or (λ l. word_in l.token.kind) (slice_get ls 0) []

abbrev pub number_in : lexed.Kind → ℤ
number_in (lexed.Number value) = value
number_in _ = pos 0

-- the value of the first, where it is a literal
abbrev pub number_of : List PlainLexeme → ℤ
number_of ls = option_map_or (λ l. number_in l.token.kind) (slice_get ls 0) (pos 0)

-- ---- the code's lexemes

abbrev pub lexeme_view : Lexeme → PlainLexeme
lexeme_view l = record { kind = l.kind; token = token_view l.token.now }
