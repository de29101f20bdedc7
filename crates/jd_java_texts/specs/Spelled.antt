-- The text of a token of the grammar is that of the token of the file.
use Rattle.std.specs.Prelude.{◌≡◌, ℕ, List, [], ◌∷◌, Bool, true, not, ◌||◌, ◌==◌}
use Rattle.std.specs.Fmt.{signed_decimal}
use Rattle.jd_lex.specs.Parts as lexed
use Rattle.jd_java_grammar.specs.declared.kinds.TheConstants.{UNUSED}
use Rattle.jd_java_tokens.specs.Words.{kind_of}
use Rattle.jd_java_tokens.specs.Lexemes.{plain_lexeme}
use Rattle.jd_java_texts.specs.Kept.{is_among, kinds_left_out}
use Rattle.jd_java_texts.specs.Tokens.{lexeme_texts}

-- a word and a sign as they stand, a number in decimal digits
abbrev pub spelling : lexed.Kind → List ℕ
spelling (lexed.Word text) = text
spelling (lexed.Number value) = signed_decimal value
spelling (lexed.Sign text) = text

-- neither left out nor one that no file has
abbrev pub is_kept : ℕ → Bool
is_kept kind = not (is_among kinds_left_out kind || (kind == UNUSED))

-- of a token outside JML
abbrev pub TextsAreSpelled : Type 0
TextsAreSpelled = (t : lexed.Token) → is_kept (kind_of t.kind) ≡ true → lexeme_texts (plain_lexeme t) ≡ spelling t.kind ∷ []
