-- What the reading of all files tells.
use Rattle.std.proofs.Common.{◌≡◌, ◌<◌, ◌≤◌, ℕ, List, [], ◌∷◌, length, Option, Some, ap, sym, subst, ◌∙◌}
use Rattle.std.specs.Option.{ForSome}
use Rattle.std.proofs.lemmas.List.Elements.{Contains-append_left, Contains-append_right, Contains-push}
use Rattle.jd_base.specs.Faults.{Rose, SameContents, SameCounts, StaySteady}
use Rattle.jd_model.specs.Sequents.{PlainSequent}
use Rattle.jd_sequent.specs.Trees.{PlainStep}
use Rattle.jd_files.specs.Files.{files_limit}
use Rattle.jd_sequent.specs.Obligations.{PlainTask}
use Rattle.jd_answer.specs.Words.{command_words}
use Rattle.jd_answer.specs.Reports.{proof_limit_text, file_limit_text, files_limit_text}
use Rattle.jd_answer.specs.Answers.{proof_limit, IsProofRead, AreRead, AreTold, HaveBytes, HaveLongFile, long, behind, IsAnswer, many_files, long_proof, long_file, IsTold}
use Rattle.jd_answer.specs.ReadFaults.{AreSteady, HasRisen, IsReadFault, NamesSteady}
use Rattle.jd_answer.specs.declared.status.Status.TheVariants.{Limit}

-- ---- the same contents

module _ (contents later : List ℕ → Option (List ℕ)) (same : SameContents contents later) where
  still_told : (ns : List (List ℕ)) → AreTold contents ns → AreTold later ns
  still_told [] told = told
  still_told (n ∷ ns) told = (told.0, same n ∙ told.1, λ within. still_told ns (told.2 within))

  was_long : (ns : List (List ℕ)) → HaveLongFile later ns → HaveLongFile contents ns
  was_long [] past = elim past [ ]
  was_long (n ∷ ns) (long _ b _ told past) = long n b ns (sym (same n) ∙ told) past
  was_long (n ∷ ns) (behind _ b _ told within more) = behind n b ns (sym (same n) ∙ told) within (was_long ns more)

  were_bytes : (ns bs : List (List ℕ)) → HaveBytes later ns bs → HaveBytes contents ns bs
  were_bytes [] [] have = have
  were_bytes [] (b ∷ bs) have = absurd have
  were_bytes (n ∷ ns) [] have = absurd have
  were_bytes (n ∷ ns) (b ∷ bs) have = (sym (same n) ∙ have.0, have.1, were_bytes ns bs have.2)

-- ---- the files that the words name

module _ (leads : PlainTask → PlainSequent → PlainStep → List PlainSequent → Type 0) (causes : PlainTask → PlainSequent → PlainStep → ℕ → Type 0) (words : List (List ℕ)) (contents : List ℕ → Option (List ℕ)) (proof : List ℕ) (names : List (List ℕ)) (are : command_words words ≡ Some (proof, names)) where
  -- there are too many
  pub many_named : (text : List ℕ) → files_limit < length names → text ≡ files_limit_text → IsAnswer leads causes words contents Limit text
  many_named text many is = rw is (many_files proof names are many)

  module _ (few : length names ≤ files_limit) where
    -- the proof file is too long
    pub proof_past : (text : List ℕ) → ForSome (contents proof) (λ told. proof_limit < length told) → text ≡ proof_limit_text → IsTold words contents → IsAnswer leads causes words contents Limit text
    proof_past text past is told =
        let here = told proof names are few in
        rw is (long_proof proof here.0 names are few here.1 (past here.0 here.1))

    module _ (bytes : List ℕ) (read : ForSome (contents proof) (λ told. (bytes ≡ told) × (length told ≤ proof_limit))) (told : IsTold words contents) where
      proof_read : IsProofRead words contents proof names bytes
      proof_read =
          let here = told proof names are few in
          let found = read here.0 here.1 in
          record { words_ = are; few = few; told = here.1 ∙ ap Some (sym found.0); within = rw found.0 found.1 }

      files_told : AreTold contents names
      files_told =
          let here = told proof names are few in
          here.2 (read here.0 here.1).1

      -- a Java file is too long
      pub files_past : (later : List ℕ → Option (List ℕ)) (text : List ℕ) → SameContents contents later → (AreTold later names → HaveLongFile later names) → text ≡ file_limit_text → IsAnswer leads causes words contents Limit text
      files_past later text same past is =
          rw is (long_file proof bytes names proof_read (was_long contents later same names (past (still_told contents later same names files_told))))

      -- all are read
      pub are_read : (later : List ℕ → Option (List ℕ)) (files : List (List ℕ)) → SameContents contents later → (AreTold later names → HaveBytes later names files) → AreRead words contents proof names bytes files
      are_read later files same have = record { proof_read = proof_read; files_told = were_bytes contents later same names files (have (still_told contents later same names files_told)) }

-- ---- faults of reading

pub a_file_failed : (words : List (List ℕ)) (proof : List ℕ) (names : List (List ℕ)) (before later after : List ℕ → ℕ) → command_words words ≡ Some (proof, names) → SameCounts before later → HasRisen names later after → IsReadFault words before after
a_file_failed words proof names before later after are same risen = record {
  name = risen.name;
  named = record { proof = proof; names = names; words_ = are; among = Contains-append_right (proof ∷ []) names risen.name risen.among };
  rose = subst (λ k. Rose k (after risen.name)) (same risen.name) risen.rose;
}

-- ---- where reading does not fail

pub proof_is_steady : (words : List (List ℕ)) (proof : List ℕ) (names : List (List ℕ)) (steady : List ℕ → Type 0) → command_words words ≡ Some (proof, names) → NamesSteady words steady → steady proof
proof_is_steady words proof names steady are all =
    all proof (record { proof = proof; names = names; words_ = are; among = Contains-append_left (proof ∷ []) names proof (Contains-push [] proof) })

pub files_are_steady : (words : List (List ℕ)) (proof : List ℕ) (names : List (List ℕ)) (steady still : List ℕ → Type 0) → command_words words ≡ Some (proof, names) → NamesSteady words steady → StaySteady steady still → AreSteady names still
files_are_steady words proof names steady still are all stay name among =
    stay name (all name (record { proof = proof; names = names; words_ = are; among = Contains-append_right (proof ∷ []) names name among }))
