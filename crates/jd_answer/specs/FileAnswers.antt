-- Why Java files are no program that has an obligation, and what is answered then.
use Rattle.std.specs.Prelude.{◌≡◌, ℕ, List, ◌∷◌, Some}
use Rattle.std.specs.List.{slice_get}
use Rattle.jd_syntax.specs.JavaTrees.{JavaUnit}
use Rattle.jd_source.specs.Sources.{Reason}
use Rattle.jd_jclasses.specs.Refusals as classes
use Rattle.jd_jclasses.specs.Refusals.{AreClasses}
use Rattle.jd_files.specs.Files.{AreTrees}
use Rattle.jd_files.specs.Refusals.{AreRefused, PlainRefusal, OfFile, OfClasses}
use Rattle.jd_refusals.specs.Refusals.{IsFirst, PlainRefused}
use Rattle.jd_sequent.specs.Limits.{IsWithinLimits}
use Rattle.jd_sequent.specs.Obligations.{PlainTask}
use Rattle.jd_first_tasks.specs.Tasks.{IsFirstTask}
use Rattle.jd_answer.specs.Reports.{class_kind, class_limit_text, formula_limit_text, method_limit_text, placed_refusal_text, refusal_text, token_kind, unbuilt_text}
use Rattle.jd_answer.specs.Sources.{AreProgramFiles}
use Rattle.jd_answer.specs.declared.status.Status.{Status}
use Rattle.jd_answer.specs.declared.status.Status.TheVariants.{RefusedSource, Limit}

-- the status and the text that tell of a refusal of files of these names
pub data Tells (names : List (List ℕ)) : PlainRefusal → Status → List ℕ → Type 0 where
  of_file : (number : ℕ) (name : List ℕ) (r : Reason) → slice_get names number ≡ Some name → Tells names (OfFile number r) RefusedSource (refusal_text name r)
  of_class : (r : classes.Refusal) (name kind : List ℕ) (number at : ℕ) → class_kind r ≡ Some (kind, (number, at)) → slice_get names number ≡ Some name → Tells names (OfClasses r) RefusedSource (placed_refusal_text name kind at)
  of_many_classes : Tells names (OfClasses classes.ManyClasses) Limit class_limit_text
  of_many_methods : Tells names (OfClasses classes.ManyMethods) Limit method_limit_text

-- the status and the text for files of these names: they are no program's, or a token of a body or of JML is refused, or
-- they are of a form that has no obligation yet, and then the first is named, or the obligation's sequent is past a limit
pub data IsRefusal (names files : List (List ℕ)) : Status → List ℕ → Type 0 where
  of_files : (r : PlainRefusal) (status : Status) (text : List ℕ) → AreRefused files r → Tells names r status text → IsRefusal names files status text
  of_token : (units : List JavaUnit) (r : PlainRefused) (name : List ℕ) → AreTrees files units → AreClasses units → IsFirst units (Some r) → slice_get names r.file ≡ Some name → IsRefusal names files RefusedSource (placed_refusal_text name (token_kind r.why) r.at)
  of_form : (name : List ℕ) (others : List (List ℕ)) → names ≡ name ∷ others → (p : AreProgramFiles files) → ((q : PlainTask) → IsFirstTask p.units q → ⊥) → IsRefusal names files RefusedSource (unbuilt_text name)
  of_size : (p : AreProgramFiles files) (q : PlainTask) → IsFirstTask p.units q → (IsWithinLimits q.obligation.sequent → ⊥) → IsRefusal names files Limit formula_limit_text
