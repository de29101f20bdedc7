-- Why files are no program's.
use Rattle.std.specs.Prelude.{◌≡◌, ℕ, ◌<◌, ⊤, List, length, Option, Some, None}
use Rattle.jd_syntax.specs.JavaTrees.{JavaUnit}
use Rattle.jd_source.specs.Sources.{Reason, SameReason, reason_of}
use Rattle.jd_jclasses.specs.Refusals as classes
use Rattle.jd_classes.specs.declared.refusal.ClassRefusal.{ClassRefusal}
use Rattle.jd_classes.specs.declared.refusal.ClassRefusal.TheVariants as code
use Rattle.jd_files.specs.Files.{AreTrees, IsRefusedFile}
use Rattle.jd_files.specs.declared.refusal.FilesRefusal.{FilesRefusal}
use Rattle.jd_files.specs.declared.refusal.FilesRefusal.TheVariants as refusals

-- the file of this number is none, or the classes of all files are no program's
pub data PlainRefusal : Type 0 where
  OfFile : ℕ → Reason → PlainRefusal
  OfClasses : classes.Refusal → PlainRefusal

pub data AreRefused (files : List (List ℕ)) : PlainRefusal → Type 0 where
  of_file : (number : ℕ) (r : Reason) → IsRefusedFile files number r → AreRefused files (OfFile number r)
  of_classes : (units : List JavaUnit) (r : classes.Refusal) → AreTrees files units → classes.IsRefused units r → AreRefused files (OfClasses r)

-- the same refusal; of a file that has the tokens of none, or that nests too deep, at any place
pub data SameRefusal : PlainRefusal → PlainRefusal → Type 0 where
  of_one_file : (number : ℕ) (r s : Reason) → SameReason r s → SameRefusal (OfFile number r) (OfFile number s)
  same : (r : PlainRefusal) → SameRefusal r r

-- ---- the code's refusals

-- the refusal of classes; want of memory is none
abbrev pub class_refusal_of : ClassRefusal → Option classes.Refusal
class_refusal_of (code.DuplicateClass file at) = Some (classes.DuplicateClass file at)
class_refusal_of (code.UnknownSuper file at) = Some (classes.UnknownSuper file at)
class_refusal_of (code.CyclicExtends file at) = Some (classes.CyclicExtends file at)
class_refusal_of (code.DuplicateMember file at) = Some (classes.DuplicateMember file at)
class_refusal_of (code.Hiding file at) = Some (classes.Hiding file at)
class_refusal_of (code.Overload file at) = Some (classes.Overload file at)
class_refusal_of (code.BadOverride file at) = Some (classes.BadOverride file at)
class_refusal_of code.TooManyClasses = Some classes.ManyClasses
class_refusal_of code.TooManyMethods = Some classes.ManyMethods
class_refusal_of code.NoMemory = None

-- the file that a refusal of classes names is one of so many
abbrev pub IsInFiles : ClassRefusal → ℕ → Type 0
IsInFiles (code.DuplicateClass file at) n = file < n
IsInFiles (code.UnknownSuper file at) n = file < n
IsInFiles (code.CyclicExtends file at) n = file < n
IsInFiles (code.DuplicateMember file at) n = file < n
IsInFiles (code.Hiding file at) n = file < n
IsInFiles (code.Overload file at) n = file < n
IsInFiles (code.BadOverride file at) n = file < n
IsInFiles code.TooManyClasses n = ⊤
IsInFiles code.TooManyMethods n = ⊤
IsInFiles code.NoMemory n = ⊤

-- the classes are refused so, and the file is one of them
pub record RefusesClasses (files : List (List ℕ)) (e : ClassRefusal) : Type 0 where
  pub in_files : IsInFiles e (length files)
  pub refused : (r : classes.Refusal) → class_refusal_of e ≡ Some r → AreRefused files (OfClasses r)

-- a file is refused so, and it is one of them
pub record RefusesFile (files : List (List ℕ)) (number : ℕ) (why : Option Reason) : Type 0 where
  pub in_files : number < length files
  pub reason : Reason
  pub is : why ≡ Some reason
  pub refused : AreRefused files (OfFile number reason)

-- want of memory says nothing of them
abbrev pub RefusesFiles : List (List ℕ) → FilesRefusal → Type 0
RefusesFiles files (refusals.File number e) = RefusesFile files number (reason_of e)
RefusesFiles files (refusals.Classes e) = RefusesClasses files e
RefusesFiles files refusals.NoMemory = ⊤
