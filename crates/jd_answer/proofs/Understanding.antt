-- What the Java files are found to be.
use Rattle.std.proofs.Common.{◌≡◌, ℕ, List, [], ◌∷◌, length, ap, sym, ◌∙◌}
use Rattle.std.specs.Prelude.{Some}
use Rattle.std.specs.List.{slice_get}
use Rattle.std.proofs.lemmas.Option.{none-some, same_Some}
use Rattle.jd_classes.specs.declared.classes.Classes.{Classes}
use Rattle.jd_files.specs.Files.{HaveTables}
use Rattle.jd_files.proofs.Trees.{as_many_trees}
use Rattle.jd_refusals.specs.Resolving.{AreResolved}
use Rattle.jd_refusals.specs.declared.resolving.Resolved.{Resolved}
use Rattle.jd_made_tasks.specs.Answers.{HasLargeTask, IsFirstAnswer, made_view}
use Rattle.jd_made_tasks.specs.declared.tasks.FirstTask.{FirstTask}
use Rattle.jd_made_tasks.specs.declared.tasks.FirstTask.TheVariants as answers
use Rattle.jd_made_tasks.specs.declared.tasks.Made.{Made}
use Rattle.jd_answer.specs.FileAnswers.{IsRefusal, of_form, of_size, of_token}
use Rattle.jd_answer.specs.Reports.{formula_limit_text, unbuilt_text}
use Rattle.jd_answer.specs.Refusing.{TellsToken}
use Rattle.jd_answer.specs.Sources.{AreProgram, AreProgramFiles}
use Rattle.jd_answer.specs.declared.status.Status.{Status}
use Rattle.jd_answer.specs.declared.status.Status.TheVariants.{Limit, RefusedSource}

-- files with tables have as many trees as there are files
pub trees_for_names : (files names : List (List ℕ)) (n : ℕ) (c : Classes) (t : HaveTables files c) → length files ≡ n → n ≡ length t.units
trees_for_names files names n c t many = sym many ∙ as_many_trees files t.units t.trees

module _ (names files : List (List ℕ)) (c : Classes) (t : HaveTables files c) where
  -- a refused token
  pub has_refused_token : (status : Status) (text : List ℕ) → TellsToken names t.units status text → IsRefusal names files status text
  has_refused_token status text told =
      rw (told.tells.status_, told.tells.text_) (of_token t.units told.refused told.tells.name t.trees t.tables.stand told.first told.tells.named)

  module _ (r : Resolved) (resolved : AreResolved t.units r) where
    abbrev are_program_files : AreProgramFiles files
    are_program_files = record { units = t.units; trees = t.trees; stand = t.tables.stand; none = resolved.none }

    pub has_task : (m : Made) (a : FirstTask) → a ≡ answers.Task m → IsFirstAnswer t.units c a → AreProgram files (made_view c m)
    has_task m a is answer =
        let task = rw is at answer in
        record { resolved = are_program_files; task = task.0; within = task.1 }

    pub has_other_form : (a : FirstTask) (name text : List ℕ) → a ≡ answers.OtherForm → IsFirstAnswer t.units c a → slice_get names 0 ≡ Some name → text ≡ unbuilt_text name → IsRefusal names files RefusedSource text
    has_other_form a name text is answer first text_is = by names first
      where
        by : (ns : List (List ℕ)) → slice_get ns 0 ≡ Some name → IsRefusal ns files RefusedSource text
        by [] first = absurd (none-some name first)
        by (n ∷ others) first = rw text_is (of_form name others (ap (λ m. m ∷ others) (same_Some n name first)) are_program_files (rw is at answer))

    pub has_large_task : (a : FirstTask) (text : List ℕ) → a ≡ answers.TooLarge → IsFirstAnswer t.units c a → text ≡ formula_limit_text → IsRefusal names files Limit text
    has_large_task a text is answer text_is =
        let large : HasLargeTask t.units = rw is at answer in
        rw text_is (of_size are_program_files large.task large.is_task large.past)
