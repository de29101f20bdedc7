-- Names and types that begin with the first of some tokens.
use Rattle.std.specs.Prelude.{List, Bool, cond}
use Rattle.jd_jml_tokens.specs.Lexemes.{PlainLexeme, place_of, text_of}
use Rattle.jd_syntax.specs.JavaTypes.{PlainIdentifier, PlainType, IntType, IntArrayType, PlainWritten}

-- the name that the first token is
abbrev pub identifier_at : List PlainLexeme → PlainIdentifier
identifier_at ts = record { at = place_of 0 ts; name = text_of ts }

-- a type that begins with the first token
abbrev pub type_at : List PlainLexeme → PlainType → PlainWritten
type_at ts t = record { at = place_of 0 ts; written = t }

-- `int`, or `int[]` where `[]` stands behind it
abbrev pub int_type : Bool → PlainType
int_type array = cond array IntArrayType IntType
