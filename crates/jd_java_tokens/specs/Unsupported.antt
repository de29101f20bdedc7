-- The tokens of Java that no file may have outside JML.
use Rattle.std.specs.Prelude.{ℕ, List, [], ◌∷◌, Bool, false, cond, codes}
use Rattle.std.specs.List.{list_any}
use Rattle.std.specs.Str.{bytes_eq}
use Rattle.jd_lex.specs.Parts.{Kind, Token}
use Rattle.jd_lex.specs.Parts as lexed

abbrev pub is_listed : List (List ℕ) → List ℕ → Bool
is_listed table text = list_any (λ row. bytes_eq row text) table

-- keywords (JLS 3.9)
abbrev pub unsupported_words : List (List ℕ)
unsupported_words =
    codes "abstract" ∷ codes "assert" ∷ codes "byte" ∷ codes "char" ∷ codes "default" ∷ codes "do" ∷ codes "double"
    ∷ codes "enum" ∷ codes "float" ∷ codes "import" ∷ codes "interface" ∷ codes "long" ∷ codes "native"
    ∷ codes "short" ∷ codes "switch" ∷ codes "synchronized" ∷ []

-- operators on bits, arrows and method references (JLS 3.11, 3.12)
abbrev pub unsupported_signs : List (List ℕ)
unsupported_signs =
    codes "&" ∷ codes "|" ∷ codes "^" ∷ codes "~" ∷ codes "<<" ∷ codes ">>" ∷ codes ">>>" ∷ codes "->" ∷ codes "::"
    ∷ codes "&=" ∷ codes "|=" ∷ codes "^=" ∷ codes "<<=" ∷ codes ">>=" ∷ codes ">>>=" ∷ []

abbrev pub is_unsupported_kind : Kind → Bool
is_unsupported_kind (lexed.Word text) = is_listed unsupported_words text
is_unsupported_kind (lexed.Number value) = false
is_unsupported_kind (lexed.Sign text) = is_listed unsupported_signs text

-- inside JML no token is unsupported
abbrev pub is_unsupported : Token → Bool
is_unsupported token = cond token.jml false (is_unsupported_kind token.kind)
