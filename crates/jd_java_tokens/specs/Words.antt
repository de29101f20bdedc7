-- The kinds of words, numbers and signs outside JML (JLS 3.8 to 3.12).
use Rattle.std.specs.Prelude.{◌≡◌, true, length, nat_eq, nat_lt, ℕ, map, List, [], ◌∷◌, Option, Some, None, cond, nat_le, codes, if◌then◌else◌, ℤ, pos, negsuc}
use Rattle.std.specs.List.{filter, list_all, range_with_len}
use Rattle.std.specs.Option.{unwrap_or}
use Rattle.std.specs.Str.{bytes_eq}
use Rattle.std.specs.Borrow.{Bor}
use Rattle.jd_lex.specs.Parts.{Kind}
use Rattle.jd_lex.specs.Parts as lexed
use Rattle.jd_java_grammar.specs.declared.kinds.TheConstants as kinds
use Rattle.jd_java_tokens.specs.Contents.{PlainContent, NoContent, WordContent, NumberContent}

-- rows of a spelling and its kind
abbrev pub Table : Type 0
Table = List (List ℕ × ℕ)

-- the kind of the first row of that spelling
abbrev pub spelled : Table → List ℕ → Option ℕ
spelled [] text = None
spelled (row ∷ rows) text = if bytes_eq row.0 text then Some row.1 else spelled rows text

-- the literals that are words, and the keywords (JLS 3.9, 3.10.3, 3.10.8); those that no file has are unused
abbrev pub reserved_words : Table
reserved_words =
    (codes "true", kinds.TRUE)
    ∷ (codes "false", kinds.FALSE)
    ∷ (codes "null", kinds.NULL)
    ∷ (codes "this", kinds.THIS)
    ∷ (codes "new", kinds.NEW)
    ∷ (codes "int", kinds.INT)
    ∷ (codes "boolean", kinds.BOOLEAN)
    ∷ (codes "instanceof", kinds.INSTANCEOF)
    ∷ (codes "if", kinds.IF)
    ∷ (codes "else", kinds.ELSE)
    ∷ (codes "while", kinds.WHILE)
    ∷ (codes "for", kinds.FOR)
    ∷ (codes "break", kinds.BREAK)
    ∷ (codes "continue", kinds.CONTINUE)
    ∷ (codes "return", kinds.RETURN)
    ∷ (codes "throw", kinds.THROW)
    ∷ (codes "try", kinds.TRY)
    ∷ (codes "catch", kinds.CATCH)
    ∷ (codes "finally", kinds.FINALLY)
    ∷ (codes "super", kinds.SUPER)
    ∷ (codes "class", kinds.CLASS)
    ∷ (codes "extends", kinds.EXTENDS)
    ∷ (codes "throws", kinds.THROWS)
    ∷ (codes "package", kinds.PACKAGE)
    ∷ (codes "void", kinds.VOID)
    ∷ (codes "static", kinds.STATIC)
    ∷ (codes "final", kinds.FINAL)
    ∷ (codes "public", kinds.IGNORED_MODIFIER)
    ∷ (codes "private", kinds.IGNORED_MODIFIER)
    ∷ (codes "protected", kinds.IGNORED_MODIFIER)
    ∷ (codes "strictfp", kinds.IGNORED_MODIFIER)
    ∷ (codes "transient", kinds.IGNORED_MODIFIER)
    ∷ (codes "volatile", kinds.IGNORED_MODIFIER)
    ∷ (codes "abstract", kinds.UNUSED)
    ∷ (codes "assert", kinds.UNUSED)
    ∷ (codes "byte", kinds.UNUSED)
    ∷ (codes "case", kinds.UNUSED)
    ∷ (codes "char", kinds.UNUSED)
    ∷ (codes "const", kinds.UNUSED)
    ∷ (codes "default", kinds.UNUSED)
    ∷ (codes "do", kinds.UNUSED)
    ∷ (codes "double", kinds.UNUSED)
    ∷ (codes "enum", kinds.UNUSED)
    ∷ (codes "float", kinds.UNUSED)
    ∷ (codes "goto", kinds.UNUSED)
    ∷ (codes "implements", kinds.UNUSED)
    ∷ (codes "import", kinds.UNUSED)
    ∷ (codes "interface", kinds.UNUSED)
    ∷ (codes "long", kinds.UNUSED)
    ∷ (codes "native", kinds.UNUSED)
    ∷ (codes "short", kinds.UNUSED)
    ∷ (codes "switch", kinds.UNUSED)
    ∷ (codes "synchronized", kinds.UNUSED)
    ∷ []

-- the separators and operators that stand in a file (JLS 3.11, 3.12)
abbrev pub used_signs : Table
used_signs =
    (codes "(", kinds.OPEN_PAREN)
    ∷ (codes ")", kinds.CLOSE_PAREN)
    ∷ (codes "[", kinds.OPEN_BRACKET)
    ∷ (codes "]", kinds.CLOSE_BRACKET)
    ∷ (codes ".", kinds.DOT)
    ∷ (codes ",", kinds.COMMA)
    ∷ (codes ";", kinds.SEMICOLON)
    ∷ (codes "{", kinds.OPEN_BRACE)
    ∷ (codes "}", kinds.CLOSE_BRACE)
    ∷ (codes "@", kinds.AT_SIGN)
    ∷ (codes "=", kinds.ASSIGN)
    ∷ (codes "?", kinds.QUESTION)
    ∷ (codes ":", kinds.COLON)
    ∷ (codes "||", kinds.OR_ELSE)
    ∷ (codes "&&", kinds.AND_ALSO)
    ∷ (codes "==", kinds.EQUAL)
    ∷ (codes "!=", kinds.NOT_EQUAL)
    ∷ (codes "<", kinds.LESS)
    ∷ (codes "<=", kinds.LESS_OR_EQUAL)
    ∷ (codes ">", kinds.GREATER)
    ∷ (codes ">=", kinds.GREATER_OR_EQUAL)
    ∷ (codes "+", kinds.PLUS)
    ∷ (codes "-", kinds.MINUS)
    ∷ (codes "*", kinds.STAR)
    ∷ (codes "/", kinds.SLASH)
    ∷ (codes "%", kinds.PERCENT)
    ∷ (codes "!", kinds.NOT)
    ∷ (codes "++", kinds.INCREMENT)
    ∷ (codes "--", kinds.DECREMENT)
    ∷ (codes "+=", kinds.ADD_ASSIGN)
    ∷ (codes "-=", kinds.SUBTRACT_ASSIGN)
    ∷ (codes "*=", kinds.MULTIPLY_ASSIGN)
    ∷ (codes "/=", kinds.DIVIDE_ASSIGN)
    ∷ (codes "%=", kinds.REMAINDER_ASSIGN)
    ∷ []

-- a decimal literal goes up to 2147483648, which stands behind a minus sign alone (JLS 3.10.1)
abbrev pub number_kind : ℤ → ℕ
number_kind (pos n) = cond (nat_lt n 2147483648) kinds.NUMBER (cond (nat_eq n 2147483648) kinds.LEAST_NUMBER kinds.UNUSED)
number_kind (negsuc n) = kinds.UNUSED

abbrev pub number_of : ℤ → ℕ
number_of (pos n) = cond (nat_le n 2147483648) n 0
number_of (negsuc n) = 0

-- a word that is not reserved is an identifier
abbrev pub word_kind : List ℕ → ℕ
word_kind text = unwrap_or (spelled reserved_words text) kinds.IDENTIFIER

abbrev pub sign_kind : List ℕ → ℕ
sign_kind text = unwrap_or (spelled used_signs text) kinds.UNUSED

-- the kind of a token outside JML
abbrev pub kind_of : Kind → ℕ
kind_of (lexed.Word text) = word_kind text
kind_of (lexed.Number value) = number_kind value
kind_of (lexed.Sign text) = sign_kind text

abbrev pub content_of : Kind → PlainContent
content_of (lexed.Word text) = WordContent text
content_of (lexed.Number value) = NumberContent (number_of value)
content_of (lexed.Sign text) = NoContent

-- ---- the code's rows

abbrev pub row_view : Bor (List ℕ) × ℕ → List ℕ × ℕ
row_view row = (row.0.now, row.1)

abbrev pub table_view : List (Bor (List ℕ) × ℕ) → Table
table_view rows = map row_view rows

abbrev pub tables_view : List (Bor (List (Bor (List ℕ) × ℕ))) → List Table
tables_view tables = map (λ rows. table_view rows.now) tables

-- the rows of that length
abbrev pub of_length : ℕ → Table → Table
of_length n rows = filter (λ row. nat_eq (length row.0) n) rows

-- the tables are the rows of each length from 0 on, and no row is longer
pub record IsByLength (rows : Table) (tables : List Table) : Type 0 where
  pub each : map (λ n. of_length n rows) (range_with_len 0 (length tables)) ≡ tables
  pub none_longer : list_all (λ row. nat_lt (length row.0) (length tables)) rows ≡ true
