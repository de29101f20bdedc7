-- The texts of the tree of a file that is read.
use Rattle.std.specs.Prelude.{◌≡◌, List}
use Rattle.jd_grammar.specs.Grammars.{Forest}
use Rattle.jd_lex.specs.Parts as lexed
use Rattle.jd_syntax.specs.JavaTrees.{JavaUnit}
use Rattle.jd_java_texts.specs.Texts.{unit_texts}
use Rattle.jd_java_texts.specs.Kept.{texts_of_tree}
use Rattle.jd_jparse.specs.Parses.{seen, Derives, Reads}

-- they are those of a derivation of its tokens, the only one (`one_derivation`, `jd_java_grammar`)
abbrev pub ReadTextsAreKept : Type 0
ReadTextsAreKept = (ts : List lexed.Token) (tree : JavaUnit) → Reads ts tree → (file : Forest) × Derives ts file × (texts_of_tree file (seen ts) ≡ unit_texts tree)
