-- What status 0 means: each case of the program is kept.
use Rattle.std.specs.Prelude.{◌≡◌, ℕ, List, map, Option, Some}
use Rattle.jd_syntax.specs.JavaTrees.{JavaUnit}
use Rattle.jd_files.specs.Files.{AreTrees}
use Rattle.jd_jml_meaning.specs.JmlCases.{JmlCase, JmlKept, JmlProgram}
use Rattle.jd_programs.specs.Programs.{IsProgram}
use Rattle.jd_answer.specs.Words.{command_words}

-- the words name Java files, and what their bytes are read as means the program
pub record FilesMean (words : List (List ℕ)) (contents : List ℕ → Option (List ℕ)) (j : JmlProgram) : Type 0 where
  pub proof : List ℕ
  pub names : List (List ℕ)
  pub words_ : command_words words ≡ Some (proof, names)
  pub files : List (List ℕ)
  pub told : map contents names ≡ map Some files
  pub units : List JavaUnit
  pub trees : AreTrees files units
  pub means : IsProgram units j

-- each case of each program that the files mean is kept as JML says it: from each state that meets the entry each run that ends meets
-- the exit, and where the contract asks for it the run ends
abbrev pub EachCaseIsKept : List (List ℕ) → (List ℕ → Option (List ℕ)) → Type 0
EachCaseIsKept words contents = (j : JmlProgram) → FilesMean words contents j → (κ : ℕ) (c : JmlCase) → j.case κ ≡ Some c → JmlKept j c
