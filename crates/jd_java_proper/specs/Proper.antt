-- What the attributes of a derivation tell of its casts, and of where `static` stands.
use Rattle.std.specs.Prelude.{◌≡◌, List, [], ◌∷◌, None}
use Rattle.jd_grammar.specs.Grammars.{Forest, IsForest}
use Rattle.jd_grammar.specs.declared.table.Symbol.TheVariants.{Name}
use Rattle.jd_java_grammar.specs.Productions.{java_productions}
use Rattle.jd_java_grammar.specs.declared.names.TheConstants.{COMPILATION_UNIT}
use Rattle.jd_java_tokens.specs.Contents.{PlainLexeme}
use Rattle.jd_java_attributes.specs.Judging.{attributes_of, fault_of}
use Rattle.jd_java_texts.specs.Kept.{IsProper}

-- a derivation of a file
abbrev pub FaultlessIsProper : Type 0
FaultlessIsProper =
    (f : Forest) (ts : List PlainLexeme) → IsForest java_productions f (Name COMPILATION_UNIT ∷ []) [] → fault_of (attributes_of f ts) ≡ None → IsProper f ts
