-- The text of a sequent: a line for each formula, with its side, its number and its text; the left ones first.
use Rattle.std.specs.Prelude.{ℕ, ◌+◌, List, [], ◌∷◌, ◌++◌, codes}
use Rattle.jd_bracketed.specs.Trees.{spell}
use Rattle.jd_term.specs.Formulas.{PlainFormula}
use Rattle.jd_model.specs.Sequents.{PlainSequent}
use Rattle.jd_written.specs.Written.{number_text, text_of}
use Rattle.jd_tgrammar.specs.NameTables.{NameTable}
use Rattle.jd_tgrammar.specs.Spelling.{formula_text}

-- `L1 F` and a line feed
abbrev pub line : NameTable → ℕ → ℕ → PlainFormula → List ℕ
line n letter i f = letter ∷ (number_text i ++ (codes " " ++ (text_of (spell (formula_text n f)) ++ 10 ∷ [])))

-- one line after the other, numbered from i on
abbrev pub lines : NameTable → ℕ → ℕ → List PlainFormula → List ℕ
lines n letter i [] = []
lines n letter i (f ∷ fs) = line n letter i f ++ lines n letter (i + 1) fs

abbrev pub sequent_text : NameTable → PlainSequent → List ℕ
sequent_text n s = lines n 76 1 s.left ++ lines n 82 1 s.right
