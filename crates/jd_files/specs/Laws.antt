-- That files are refused for one reason, those of a program for none, and that their trees are one list.
use Rattle.std.specs.Prelude.{◌≡◌, ℕ, List}
use Rattle.jd_syntax.specs.JavaTrees.{JavaUnit}
use Rattle.jd_files.specs.Files.{AreProgramClasses, AreTrees}
use Rattle.jd_files.specs.Refusals.{AreRefused, PlainRefusal, SameRefusal}

pub record OneFilesRefusal : Type 0 where
  pub one : (files : List (List ℕ)) (r s : PlainRefusal) → AreRefused files r → AreRefused files s → SameRefusal r s
  pub not_refused : (files : List (List ℕ)) (r : PlainRefusal) → AreProgramClasses files → AreRefused files r → ⊥
  pub one_list : (files : List (List ℕ)) (us vs : List JavaUnit) → AreTrees files us → AreTrees files vs → us ≡ vs
