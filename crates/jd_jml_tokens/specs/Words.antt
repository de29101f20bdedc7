-- The kinds of words, numbers and signs in JML (JML Reference Manual, 4.6; JLS 3.8 to 3.12).
use Rattle.std.specs.Prelude.{ℕ, List, [], ◌∷◌, cond, nat_eq, codes, ℤ, pos, negsuc, get_or}
use Rattle.std.specs.Option.{unwrap_or}
use Rattle.jd_lex.specs.Parts.{Kind}
use Rattle.jd_lex.specs.Parts as lexed
use Rattle.jd_java_tokens.specs.Words.{Table, spelled}
use Rattle.jd_jml_grammar.specs.declared.kinds.TheConstants as kinds

-- the words that are no identifiers, or not everywhere: Java's reserved words, those that begin clauses, and those with a backslash;
-- those that JML has nowhere are unused
abbrev pub words : Table
words =
    (codes "true", kinds.TRUE)
    ∷ (codes "false", kinds.FALSE)
    ∷ (codes "null", kinds.NULL)
    ∷ (codes "this", kinds.THIS)
    ∷ (codes "new", kinds.UNUSED)
    ∷ (codes "int", kinds.INT)
    ∷ (codes "boolean", kinds.BOOLEAN)
    ∷ (codes "instanceof", kinds.INSTANCEOF)
    ∷ (codes "if", kinds.UNUSED)
    ∷ (codes "else", kinds.UNUSED)
    ∷ (codes "while", kinds.UNUSED)
    ∷ (codes "for", kinds.UNUSED)
    ∷ (codes "break", kinds.UNUSED)
    ∷ (codes "continue", kinds.UNUSED)
    ∷ (codes "return", kinds.UNUSED)
    ∷ (codes "throw", kinds.UNUSED)
    ∷ (codes "try", kinds.UNUSED)
    ∷ (codes "catch", kinds.UNUSED)
    ∷ (codes "finally", kinds.UNUSED)
    ∷ (codes "super", kinds.UNUSED)
    ∷ (codes "class", kinds.UNUSED)
    ∷ (codes "extends", kinds.UNUSED)
    ∷ (codes "throws", kinds.UNUSED)
    ∷ (codes "package", kinds.UNUSED)
    ∷ (codes "void", kinds.UNUSED)
    ∷ (codes "static", kinds.UNUSED)
    ∷ (codes "final", kinds.UNUSED)
    ∷ (codes "public", kinds.VISIBILITY)
    ∷ (codes "private", kinds.VISIBILITY)
    ∷ (codes "protected", kinds.VISIBILITY)
    ∷ (codes "strictfp", kinds.UNUSED)
    ∷ (codes "transient", kinds.UNUSED)
    ∷ (codes "volatile", kinds.UNUSED)
    ∷ (codes "abstract", kinds.UNUSED)
    ∷ (codes "assert", kinds.UNUSED)
    ∷ (codes "byte", kinds.UNUSED)
    ∷ (codes "case", kinds.UNUSED)
    ∷ (codes "char", kinds.UNUSED)
    ∷ (codes "const", kinds.UNUSED)
    ∷ (codes "default", kinds.UNUSED)
    ∷ (codes "do", kinds.UNUSED)
    ∷ (codes "double", kinds.UNUSED)
    ∷ (codes "enum", kinds.UNUSED)
    ∷ (codes "float", kinds.UNUSED)
    ∷ (codes "goto", kinds.UNUSED)
    ∷ (codes "implements", kinds.UNUSED)
    ∷ (codes "import", kinds.UNUSED)
    ∷ (codes "interface", kinds.UNUSED)
    ∷ (codes "long", kinds.UNUSED)
    ∷ (codes "native", kinds.UNUSED)
    ∷ (codes "short", kinds.UNUSED)
    ∷ (codes "switch", kinds.UNUSED)
    ∷ (codes "synchronized", kinds.UNUSED)
    ∷ (codes "requires", kinds.REQUIRES)
    ∷ (codes "ensures", kinds.ENSURES)
    ∷ (codes "signals", kinds.SIGNALS)
    ∷ (codes "signals_only", kinds.SIGNALS_ONLY)
    ∷ (codes "assignable", kinds.ASSIGNABLE)
    ∷ (codes "modifies", kinds.ASSIGNABLE)
    ∷ (codes "modifiable", kinds.ASSIGNABLE)
    ∷ (codes "measured_by", kinds.MEASURED_BY)
    ∷ (codes "diverges", kinds.DIVERGES)
    ∷ (codes "loop_invariant", kinds.LOOP_INVARIANT)
    ∷ (codes "maintaining", kinds.LOOP_INVARIANT)
    ∷ (codes "decreases", kinds.DECREASES)
    ∷ (codes "decreasing", kinds.DECREASES)
    ∷ (codes "invariant", kinds.INVARIANT)
    ∷ (codes "also", kinds.ALSO)
    ∷ (codes "normal_behavior", kinds.NORMAL_BEHAVIOR)
    ∷ (codes "normal_behaviour", kinds.NORMAL_BEHAVIOR)
    ∷ (codes "exceptional_behavior", kinds.EXCEPTIONAL_BEHAVIOR)
    ∷ (codes "exceptional_behaviour", kinds.EXCEPTIONAL_BEHAVIOR)
    ∷ (codes "behavior", kinds.BEHAVIOR)
    ∷ (codes "behaviour", kinds.BEHAVIOR)
    ∷ (codes "pure", kinds.PURE)
    ∷ (codes "helper", kinds.HELPER)
    ∷ (codes "nullable", kinds.NULLABLE)
    ∷ (codes "non_null", kinds.NON_NULL)
    ∷ (codes "spec_public", kinds.SPEC_PUBLIC)
    ∷ (codes "spec_protected", kinds.SPEC_PROTECTED)
    ∷ (codes "\\result", kinds.RESULT)
    ∷ (codes "\\old", kinds.OLD)
    ∷ (codes "\\fresh", kinds.FRESH)
    ∷ (codes "\\invariant_for", kinds.INVARIANT_FOR)
    ∷ (codes "\\forall", kinds.FORALL)
    ∷ (codes "\\exists", kinds.EXISTS)
    ∷ (codes "\\sum", kinds.SUM)
    ∷ (codes "\\bigint", kinds.BIGINT)
    ∷ (codes "\\nothing", kinds.NOTHING)
    ∷ (codes "\\everything", kinds.EVERYTHING)
    ∷ []

-- the separators and operators
abbrev pub used_signs : Table
used_signs =
    (codes "(", kinds.OPEN_PAREN)
    ∷ (codes ")", kinds.CLOSE_PAREN)
    ∷ (codes "[", kinds.OPEN_BRACKET)
    ∷ (codes "]", kinds.CLOSE_BRACKET)
    ∷ (codes ".", kinds.DOT)
    ∷ (codes ",", kinds.COMMA)
    ∷ (codes ";", kinds.SEMICOLON)
    ∷ (codes "?", kinds.QUESTION)
    ∷ (codes ":", kinds.COLON)
    ∷ (codes "||", kinds.OR_ELSE)
    ∷ (codes "&&", kinds.AND_ALSO)
    ∷ (codes "==", kinds.EQUAL)
    ∷ (codes "!=", kinds.NOT_EQUAL)
    ∷ (codes "<", kinds.LESS)
    ∷ (codes "<=", kinds.LESS_OR_EQUAL)
    ∷ (codes ">", kinds.GREATER)
    ∷ (codes ">=", kinds.GREATER_OR_EQUAL)
    ∷ (codes "+", kinds.PLUS)
    ∷ (codes "-", kinds.MINUS)
    ∷ (codes "*", kinds.STAR)
    ∷ (codes "/", kinds.SLASH)
    ∷ (codes "%", kinds.PERCENT)
    ∷ (codes "!", kinds.NOT)
    ∷ (codes "==>", kinds.IMPLIES)
    ∷ (codes "<==>", kinds.EQUIVALENT)
    ∷ (codes "..", kinds.RANGE)
    ∷ []

-- another word is an identifier, but for one with a backslash
abbrev pub other_word_kind : List ℕ → ℕ
other_word_kind text = cond (nat_eq (get_or text 0 0) 92) kinds.UNUSED kinds.IDENTIFIER

abbrev pub word_kind : List ℕ → ℕ
word_kind text = unwrap_or (spelled words text) (other_word_kind text)

abbrev pub sign_kind : List ℕ → ℕ
sign_kind text = unwrap_or (spelled used_signs text) kinds.UNUSED

abbrev pub number_kind : ℤ → ℕ
number_kind (pos n) = kinds.NUMBER
number_kind (negsuc n) = kinds.UNUSED

abbrev pub kind_of : Kind → ℕ
kind_of (lexed.Word text) = word_kind text
kind_of (lexed.Number value) = number_kind value
kind_of (lexed.Sign text) = sign_kind text
