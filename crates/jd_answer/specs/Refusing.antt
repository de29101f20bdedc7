-- What is told of the code's refusals of files.
use Rattle.std.specs.Prelude.{◌≡◌, ◌<◌, ⊤, ℕ, List, Option, Some, None, option_map}
use Rattle.std.specs.List.{slice_get}
use Rattle.jd_source.specs.Sources.{reason_of}
use Rattle.jd_files.specs.Refusals.{IsInFiles, PlainRefusal, OfFile, OfClasses, class_refusal_of}
use Rattle.jd_files.specs.declared.refusal.FilesRefusal.{FilesRefusal}
use Rattle.jd_files.specs.declared.refusal.FilesRefusal.TheVariants as code
use Rattle.jd_syntax.specs.JavaTrees.{JavaUnit}
use Rattle.jd_refusals.specs.Refusals.{IsFirst, PlainRefused}
use Rattle.jd_answer.specs.FileAnswers.{Tells}
use Rattle.jd_answer.specs.Reports.{placed_refusal_text, token_kind}
use Rattle.jd_answer.specs.declared.status.Status.{Status}
use Rattle.jd_answer.specs.declared.status.Status.TheVariants.{RefusedSource}

-- the refusal; want of memory is none
abbrev pub plain_refusal : FilesRefusal → Option PlainRefusal
plain_refusal (code.File number e) = option_map (OfFile number) (reason_of e)
plain_refusal (code.Classes e) = option_map OfClasses (class_refusal_of e)
plain_refusal code.NoMemory = None

-- the file that it names is one of so many
abbrev pub NamesOneOf : FilesRefusal → ℕ → Type 0
NamesOneOf (code.File number e) n = number < n
NamesOneOf (code.Classes e) n = IsInFiles e n
NamesOneOf code.NoMemory n = ⊤

-- the status and the text tell of it
pub record TellsOf (names : List (List ℕ)) (why : Option PlainRefusal) (status : Status) (text : List ℕ) : Type 0 where
  pub refusal : PlainRefusal
  pub is : why ≡ Some refusal
  pub tells : Tells names refusal status text

-- they tell of a refusal of classes of this kind at this place
pub record TellsPlace (names : List (List ℕ)) (kind : List ℕ) (number at : ℕ) (status : Status) (text : List ℕ) : Type 0 where
  pub name : List ℕ
  pub named : slice_get names number ≡ Some name
  pub status_ : status ≡ RefusedSource
  pub text_ : text ≡ placed_refusal_text name kind at

-- they tell of the first refused token
pub record TellsToken (names : List (List ℕ)) (units : List JavaUnit) (status : Status) (text : List ℕ) : Type 0 where
  pub refused : PlainRefused
  pub first : IsFirst units (Some refused)
  pub tells : TellsPlace names (token_kind refused.why) refused.file refused.at status text
