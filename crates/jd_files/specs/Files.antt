-- The files of a program, by their bytes.
use Rattle.std.specs.Prelude.{◌≡◌, ℕ, ◌<◌, List, [], ◌∷◌, Some}
use Rattle.std.specs.List.{All, slice_get}
use Rattle.jd_lex.specs.Parts.{Token, Fault}
use Rattle.jd_lex.specs.Lexing.{Spells}
use Rattle.jd_syntax.specs.JavaTrees.{JavaUnit}
use Rattle.jd_source.specs.Sources.{IsSource, Reason, Faulty, IsReason}
use Rattle.jd_jclasses.specs.Refusals.{AreClasses}
use Rattle.jd_classes.specs.Tables.{AreTables}
use Rattle.jd_classes.specs.declared.classes.Classes.{Classes}

-- how many files there may be, and how many bytes a file may have
abbrev pub files_limit : ℕ
files_limit = 64

abbrev pub file_limit : ℕ
file_limit = 1048576

-- ---- one file

-- the bytes have tokens
pub record HasTokens (bytes : List ℕ) : Type 0 where
  pub tokens : List Token
  pub spelled : Spells bytes tokens

-- the bytes are a Java file
pub record IsFile (bytes : List ℕ) : Type 0 where
  pub tree : JavaUnit
  pub source : IsSource bytes tree

-- ---- all files

-- these are their trees
abbrev pub AreTrees : List (List ℕ) → List JavaUnit → Type 0
AreTrees [] [] = Unit {0}
AreTrees [] (t ∷ ts) = ⊥
AreTrees (b ∷ bs) [] = ⊥
AreTrees (b ∷ bs) (t ∷ ts) = IsSource b t × AreTrees bs ts

-- they have trees, and these are a program's classes
pub record AreProgramClasses (files : List (List ℕ)) : Type 0 where
  pub units : List JavaUnit
  pub trees : AreTrees files units
  pub stand : AreClasses units

-- these are the tables of their classes
pub record HaveTables (files : List (List ℕ)) (c : Classes) : Type 0 where
  pub units : List JavaUnit
  pub trees : AreTrees files units
  pub tables : AreTables units c

-- ---- the first that is none

-- the first that is not as all must be: its number, and why it is no file
pub record IsFirstRefused (Passes : List ℕ → Type 0) (files : List (List ℕ)) (number : ℕ) (r : Reason) : Type 0 where
  pub bytes : List ℕ
  pub there : slice_get files number ≡ Some bytes
  pub reason : IsReason bytes r
  pub before : (j : ℕ) (other : List ℕ) → j < number → slice_get files j ≡ Some other → Passes other

-- a fault of the text of any file comes before what the grammar says of any
pub data IsRefusedFile (files : List (List ℕ)) (number : ℕ) : Reason → Type 0 where
  for_text : (fault : Fault) → IsFirstRefused HasTokens files number (Faulty fault) → IsRefusedFile files number (Faulty fault)
  for_grammar : (r : Reason) → All HasTokens files → IsFirstRefused IsFile files number r → IsRefusedFile files number r
