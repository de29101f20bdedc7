-- What is read is proper.
use Rattle.std.proofs.Common.{◌≡◌, List, ap, ◌∙◌}
use Rattle.jd_grammar.specs.Grammars.{Forest}
use Rattle.jd_lex.specs.Parts as lexed
use Rattle.jd_syntax.specs.JavaTrees.{JavaUnit}
use Rattle.jd_java_texts.specs.Texts.{unit_texts}
use Rattle.jd_java_texts.specs.Kept.{texts_of_tree, TextsAreKept}
use Rattle.jd_java_proper.specs.Proper.{FaultlessIsProper}
use Rattle.jd_jparse.specs.Parses.{seen, Derives, Reads}

pub texts_read : TextsAreKept → FaultlessIsProper → (ts : List lexed.Token) (tree : JavaUnit) → Reads ts tree → (file : Forest) × Derives ts file × (texts_of_tree file (seen ts) ≡ unit_texts tree)
texts_read kept proper ts tree h =
    let d = h.spelled.derived in
    (h.file, d, kept h.file (seen ts) d.tree (proper h.file (seen ts) d.tree h.spelled.faultless) ∙ ap unit_texts h.is)
