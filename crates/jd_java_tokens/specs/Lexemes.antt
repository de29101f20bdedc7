-- The tokens of the grammar, each with its place: words, numbers and signs, and runs of JML.
use Rattle.std.specs.Prelude.{ℕ, ◌+◌, List, [], ◌∷◌, Bool, true, false, cond}
use Rattle.jd_lex.specs.Parts as lexed
use Rattle.jd_java_grammar.specs.declared.kinds.TheConstants as kinds
use Rattle.jd_java_tokens.specs.Contents.{PlainContent, NoContent, WordContent, NumberContent, SpecsContent, PlainLexeme}
use Rattle.jd_java_tokens.specs.Words.{kind_of, content_of}
use Rattle.jd_java_tokens.specs.declared.lexeme.Content.{Content}
use Rattle.jd_java_tokens.specs.declared.lexeme.Content.TheVariants as contents
use Rattle.jd_java_tokens.specs.declared.lexeme.Lexeme.{Lexeme}

-- how many JML tokens stand at the head
abbrev pub jml_length : List lexed.Token → ℕ
jml_length [] = 0
jml_length (t ∷ ts) = cond t.jml (1 + jml_length ts) 0

-- a run of JML from the token n up to the token m, which begins at this place
abbrev pub run_lexeme : ℕ → ℕ → ℕ → PlainLexeme
run_lexeme n m at = record { kind = kinds.SPECS; at = at; content = SpecsContent n m }

-- a token outside JML
abbrev pub plain_lexeme : lexed.Token → PlainLexeme
plain_lexeme t = record { kind = kind_of t.kind; at = t.begins; content = content_of t.kind }

-- The lexemes of the tokens from that number on; the flag says whether the token before them is one of JML.
-- A token outside JML gives its lexeme. The first token of a run of JML gives the whole run, the others nothing.
abbrev pub lexemes_behind : Bool → ℕ → List lexed.Token → List PlainLexeme
lexemes_behind in_jml number [] = []
lexemes_behind in_jml number (t ∷ ts) =
    cond t.jml
    (cond in_jml
    (lexemes_behind true (number + 1) ts)
    (run_lexeme number (number + (1 + jml_length ts)) t.begins ∷ lexemes_behind true (number + 1) ts))
    (plain_lexeme t ∷ lexemes_behind false (number + 1) ts)

-- the lexemes of the tokens, the first of which has that number
abbrev pub lexemes_of : ℕ → List lexed.Token → List PlainLexeme
lexemes_of number tokens = lexemes_behind false number tokens

-- ---- the code's lexemes

abbrev pub content_view : Content → PlainContent
content_view contents.Nothing = NoContent
content_view (contents.Word text) = WordContent text.now
content_view (contents.Number n) = NumberContent n
content_view (contents.Specs n m) = SpecsContent n m

abbrev pub lexeme_view : Lexeme → PlainLexeme
lexeme_view l = record { kind = l.kind; at = l.at; content = content_view l.content }
