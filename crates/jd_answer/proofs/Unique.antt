-- The answer is determined: its status and its text, up to the place of a Java file that is none, or that nests too deep.
use Rattle.std.proofs.Common.{◌≡◌, ◌<◌, ◌≤◌, ℕ, List, [], ◌∷◌, length, Option, Some, None, ap, sym, refl, subst, ◌∙◌, arith}
use Rattle.std.proofs.lemmas.Option.{none-some, same_Some}
use Rattle.jd_model.specs.Sequents.{PlainSequent}
use Rattle.jd_sequent.specs.Trees.{PlainStep, ProofTree, steps_in}
use Rattle.jd_sequent.specs.Derives.{Derives}
use Rattle.jd_replay.specs.FirstBad.{FirstBad}
use Rattle.jd_replay.proofs.OneFirstBad.{bad_derives_nothing, one_first_bad}
use Rattle.jd_sequent.specs.Obligations.{PlainTask}
use Rattle.jd_first_tasks.specs.Laws.{OneFirstTask}
use Rattle.jd_scripts.specs.Answers as script
use Rattle.jd_proofs.specs.Outcomes.{Outcome}
use Rattle.jd_answer.specs.Sources.{obligation_name, obligation_sequent}
use Rattle.jd_answer.specs.Words.{command_words}
use Rattle.jd_files.specs.Files.{files_limit}
use Rattle.jd_files.specs.Laws.{OneFilesRefusal}
use Rattle.jd_refusals.specs.Laws.{OneTokenRefusal}
use Rattle.jd_answer.specs.FileAnswers.{IsRefusal}
use Rattle.jd_answer.specs.Sources.{AreProgram}
use Rattle.jd_answer.specs.Reports.{IsReport, missing, closed, opened, broken, closed_text, open_text, bad_text, usage_text, script_kind, unknown_kind, script_refusal_text, files_limit_text, proof_limit_text, file_limit_text}
use Rattle.jd_answer.specs.Answers.{said_of, proof_limit, report_limit, HaveBytes, HaveLongFile, IsProofRead, AreRead, IsNoFileAnswer, refused_file, many_steps, IsOutcomeAnswer, no_file, unknown, long_report, replayed, IsProofAnswer, IsAnswer, usage, many_files, long_proof, long_file, refused, judged, SameAnswer, equal}
use Rattle.jd_answer.specs.declared.status.Status.{Status}
use Rattle.jd_answer.specs.declared.status.Status.TheVariants.{Usage, Limit}
use Rattle.jd_answer.proofs.Derivations.{OneWay, HasNoCause, one_derivation}
use Rattle.jd_answer.proofs.Files.{none_long, one_list}
use Rattle.jd_answer.proofs.FileAnswers.{no_program, one_refusal, one_task}
use Rattle.jd_answer.proofs.ProofAnswers.{one_outcome}

-- ---- one report

pub one_report : (leads : PlainSequent → PlainStep → List PlainSequent → Type 0) (causes : PlainSequent → PlainStep → ℕ → Type 0) (said : List PlainSequent → List ℕ) → OneWay leads → HasNoCause leads causes → (name : List ℕ) (goal : PlainSequent) (s : Option ProofTree) (status other : Status) (text another : List ℕ) → IsReport leads causes said name goal s status text → IsReport leads causes said name goal s other another → (status ≡ other) × (text ≡ another)
one_report leads causes said way free name goal s status other text another (missing none) (missing none') = (refl, refl)
one_report leads causes said way free name goal s status other text another (missing none) (closed tree one derived) = absurd cc
one_report leads causes said way free name goal s status other text another (missing none) (opened tree goals one derived some) = absurd cc
one_report leads causes said way free name goal s status other text another (missing none) (broken tree node cause one first) = absurd cc
one_report leads causes said way free name goal s status other text another (closed tree one derived) (missing none) = absurd cc
one_report leads causes said way free name goal s status other text another (closed tree one derived) (closed tree' one' derived') =
    let trees : tree ≡ tree' = cc in
    (refl, ap (λ t. closed_text name (steps_in t)) trees)
one_report leads causes said way free name goal s status other text another (closed tree one derived) (opened tree' goals one' derived' some) =
    let trees : tree ≡ tree' = cc in
    let empty = one_derivation leads way tree' goal goals [] derived' (subst (λ t. Derives leads t goal []) trees derived) in
    absurd (omega (arith, ap length empty, some))
one_report leads causes said way free name goal s status other text another (closed tree one derived) (broken tree' node cause one' first) =
    let trees : tree ≡ tree' = cc in
    absurd (bad_derives_nothing leads causes way free tree' goal node cause [] first (subst (λ t. Derives leads t goal []) trees derived))
one_report leads causes said way free name goal s status other text another (opened tree goals one derived some) (missing none) = absurd cc
one_report leads causes said way free name goal s status other text another (opened tree goals one derived some) (closed tree' one' derived') =
    let trees : tree' ≡ tree = cc in
    let empty = one_derivation leads way tree goal goals [] derived (subst (λ t. Derives leads t goal []) trees derived') in
    absurd (omega (arith, ap length empty, some))
one_report leads causes said way free name goal s status other text another (opened tree goals one derived some) (opened tree' goals' one' derived' some') =
    let trees : tree ≡ tree' = cc in
    let same = one_derivation leads way tree' goal goals goals' (subst (λ t. Derives leads t goal goals) trees derived) derived' in
    (refl, ap (λ l. open_text name (said l) (length l)) same)
one_report leads causes said way free name goal s status other text another (opened tree goals one derived some) (broken tree' node cause one' first) =
    let trees : tree ≡ tree' = cc in
    absurd (bad_derives_nothing leads causes way free tree' goal node cause goals first (subst (λ t. Derives leads t goal goals) trees derived))
one_report leads causes said way free name goal s status other text another (broken tree node cause one first) (missing none) = absurd cc
one_report leads causes said way free name goal s status other text another (broken tree node cause one first) (closed tree' one' derived) =
    let trees : tree' ≡ tree = cc in
    absurd (bad_derives_nothing leads causes way free tree goal node cause [] first (subst (λ t. Derives leads t goal []) trees derived))
one_report leads causes said way free name goal s status other text another (broken tree node cause one first) (opened tree' goals one' derived some) =
    let trees : tree' ≡ tree = cc in
    absurd (bad_derives_nothing leads causes way free tree goal node cause goals first (subst (λ t. Derives leads t goal goals) trees derived))
one_report leads causes said way free name goal s status other text another (broken tree node cause one first) (broken tree' node' cause' one' first') =
    let trees : tree ≡ tree' = cc in
    let same = one_first_bad leads causes way free tree' goal node node' cause cause' (subst (λ t. FirstBad leads causes t goal node cause) trees first) first' in
    (refl, ap (λ n. bad_text name n cause) same.0 ∙ ap (bad_text name node') same.1)

-- ---- one answer for a program and a proof file

pub same_by : (status other : Status) (text another : List ℕ) → (status ≡ other) × (text ≡ another) → SameAnswer status text other another
same_by status other text another both = rw (both.0, both.1) (equal other another)

module _ (leads : PlainSequent → PlainStep → List PlainSequent → Type 0) (causes : PlainSequent → PlainStep → ℕ → Type 0) (said : List PlainSequent → List ℕ) (way : OneWay leads) (free : HasNoCause leads causes) (q : PlainTask) (proof bytes : List ℕ) where
  one_no_file : (a : script.Answer) (status other : Status) (text another : List ℕ) → IsNoFileAnswer proof a status text → IsNoFileAnswer proof a other another → (status ≡ other) × (text ≡ another)
  one_no_file a status other text another (refused_file kind is) (refused_file kind' is') =
      (refl, ap (script_refusal_text proof) (same_Some kind kind' (sym is ∙ is')))
  one_no_file a status other text another (refused_file kind is) (many_steps many) = absurd (none-some kind (sym (ap script_kind many) ∙ is))
  one_no_file a status other text another (many_steps many) (refused_file kind is) = absurd (none-some kind (sym (ap script_kind many) ∙ is))
  one_no_file a status other text another (many_steps many) (many_steps many') = (refl, refl)

  -- a report is too long, or within the limit
  not_long : (s : Option ProofTree) (text another : List ℕ) (status other : Status) → IsReport leads causes said (obligation_name q) (obligation_sequent q) s status text → report_limit < length text → IsReport leads causes said (obligation_name q) (obligation_sequent q) s other another → length another ≤ report_limit → ⊥
  not_long s text another status other report past report' within =
      omega (arith, ap length (one_report leads causes said way free (obligation_name q) (obligation_sequent q) s status other text another report report').1, past, within)

  one_outcome_answer : (o : Outcome) (status other : Status) (text another : List ℕ) → IsOutcomeAnswer leads causes said q proof o status text → IsOutcomeAnswer leads causes said q proof o other another → (status ≡ other) × (text ≡ another)
  one_outcome_answer o status other text another (no_file a _ _ of it) (no_file a' _ _ of' it') =
      let same : a' ≡ a = cc in
      one_no_file a status other text another it (subst (λ x. IsNoFileAnswer proof x other another) same it')
  one_outcome_answer o status other text another (no_file a _ _ of it) (unknown name of') = absurd cc
  one_outcome_answer o status other text another (no_file a _ _ of it) (long_report s status' text' of' report past) = absurd cc
  one_outcome_answer o status other text another (no_file a _ _ of it) (replayed s _ _ of' report within) = absurd cc
  one_outcome_answer o status other text another (unknown name of) (no_file a _ _ of' it) = absurd cc
  one_outcome_answer o status other text another (unknown name of) (unknown name' of') =
      let same : name ≡ name' = cc in
      (refl, ap (λ n. script_refusal_text proof (unknown_kind n)) same)
  one_outcome_answer o status other text another (unknown name of) (long_report s status' text' of' report past) = absurd cc
  one_outcome_answer o status other text another (unknown name of) (replayed s _ _ of' report within) = absurd cc
  one_outcome_answer o status other text another (long_report s status' text' of report past) (no_file a _ _ of' it) = absurd cc
  one_outcome_answer o status other text another (long_report s status' text' of report past) (unknown name of') = absurd cc
  one_outcome_answer o status other text another (long_report s status' text' of report past) (long_report s' status'' text'' of' report' past') = (refl, refl)
  one_outcome_answer o status other text another (long_report s status' text' of report past) (replayed s' _ _ of' report' within) =
      let same : s' ≡ s = cc in
      absurd (not_long s text' another status' other report past (subst (λ t. IsReport leads causes said (obligation_name q) (obligation_sequent q) t other another) same report') within)
  one_outcome_answer o status other text another (replayed s _ _ of report within) (no_file a _ _ of' it) = absurd cc
  one_outcome_answer o status other text another (replayed s _ _ of report within) (unknown name of') = absurd cc
  one_outcome_answer o status other text another (replayed s _ _ of report within) (long_report s' status' text' of' report' past) =
      let same : s ≡ s' = cc in
      absurd (not_long s' text' text status' status report' past (subst (λ t. IsReport leads causes said (obligation_name q) (obligation_sequent q) t status text) same report) within)
  one_outcome_answer o status other text another (replayed s _ _ of report within) (replayed s' _ _ of' report' within') =
      let same : s' ≡ s = cc in
      one_report leads causes said way free (obligation_name q) (obligation_sequent q) s status other text another report (subst (λ t. IsReport leads causes said (obligation_name q) (obligation_sequent q) t other another) same report')

  one_proof_answer : (status other : Status) (text another : List ℕ) → IsProofAnswer leads causes said q proof bytes status text → IsProofAnswer leads causes said q proof bytes other another → SameAnswer status text other another
  one_proof_answer status other text another a b =
      let outcomes = one_outcome (obligation_name q ∷ []) bytes b.outcome a.outcome b.read a.read in
      same_by status other text another (one_outcome_answer a.outcome status other text another a.answer (subst (λ o. IsOutcomeAnswer leads causes said q proof o other another) outcomes b.answer))

-- ---- one answer for words that name files

abbrev OneProgramAnswer : (PlainTask → PlainSequent → PlainStep → List PlainSequent → Type 0) → (PlainTask → PlainSequent → PlainStep → ℕ → Type 0) → Type 0
OneProgramAnswer leads causes = ((q : PlainTask) → OneWay (leads q)) × ((q : PlainTask) → HasNoCause (leads q) (causes q))

same_words : (words : List (List ℕ)) (p p' : List ℕ) (ns ns' : List (List ℕ)) → command_words words ≡ Some (p, ns) → command_words words ≡ Some (p', ns') → (p ≡ p') × (ns ≡ ns')
same_words words p p' ns ns' one other =
    let pair : ◌≡◌ {A = List ℕ × List (List ℕ)} (p, ns) (p', ns') = same_Some (p, ns) (p', ns') (sym one ∙ other) in
    (ap (λ x. x.0) pair, ap (λ x. x.1) pair)

same_bytes : (contents : List ℕ → Option (List ℕ)) (name name' bytes bytes' : List ℕ) → name ≡ name' → contents name ≡ Some bytes → contents name' ≡ Some bytes' → bytes ≡ bytes'
same_bytes contents name name' bytes bytes' same one other = same_Some bytes bytes' (sym one ∙ ap contents same ∙ other)

-- what is said of files that are read
pub data IsJudgedAs (leads : PlainTask → PlainSequent → PlainStep → List PlainSequent → Type 0) (causes : PlainTask → PlainSequent → PlainStep → ℕ → Type 0) (said : PlainTask → List PlainSequent → List ℕ) (proof bytes : List ℕ) (names files : List (List ℕ)) : Status → List ℕ → Type 0 where
  not_understood : (status : Status) (text : List ℕ) → IsRefusal names files status text → IsJudgedAs leads causes said proof bytes names files status text
  answered : (q : PlainTask) (status : Status) (text : List ℕ) → AreProgram files q → IsProofAnswer (leads q) (causes q) (said q) q proof bytes status text → IsJudgedAs leads causes said proof bytes names files status text

module _ (leads : PlainTask → PlainSequent → PlainStep → List PlainSequent → Type 0) (causes : PlainTask → PlainSequent → PlainStep → ℕ → Type 0) (one : OneProgramAnswer leads causes) (laws : OneFilesRefusal) (tokens : OneTokenRefusal) (tasks : OneFirstTask) where
  one_judgement : (said : PlainTask → List PlainSequent → List ℕ) (proof bytes : List ℕ) (names files : List (List ℕ)) (status other : Status) (text another : List ℕ) → IsJudgedAs leads causes said proof bytes names files status text → IsJudgedAs leads causes said proof bytes names files other another → SameAnswer status text other another
  one_judgement said proof bytes names files status other text another (not_understood _ _ refusal) (not_understood _ _ refusal') = one_refusal laws tokens tasks names files status other text another refusal refusal'
  one_judgement said proof bytes names files status other text another (not_understood _ _ refusal) (answered q _ _ program answer) = absurd (no_program laws tokens tasks names files status text q refusal program)
  one_judgement said proof bytes names files status other text another (answered q _ _ program answer) (not_understood _ _ refusal) = absurd (no_program laws tokens tasks names files other another q refusal program)
  one_judgement said proof bytes names files status other text another (answered q _ _ program answer) (answered q' _ _ program' answer') =
      let programs : q' ≡ q = one_task laws tasks files program'.resolved program.resolved q' q program'.task program.task in
      one_proof_answer (leads q) (causes q) (said q) (one.0 q) (one.1 q) q proof bytes status other text another answer
      (subst (λ p. IsProofAnswer (leads p) (causes p) (said p) p proof bytes other another) programs answer')

  module _ (words : List (List ℕ)) (contents : List ℕ → Option (List ℕ)) where
    -- files that are read have one list of contents
    judged_as : (p pb : List ℕ) (ns fs : List (List ℕ)) (status : Status) (text : List ℕ) → AreRead words contents p ns pb fs → IsAnswer leads causes words contents status text → IsJudgedAs leads causes (said_of words) p pb ns fs status text
    judged_as p pb ns fs status text read (usage none) = absurd (none-some (p, ns) (sym none ∙ read.proof_read.words_))
    judged_as p pb ns fs status text read (many_files p' ns' are many) =
        let same = same_words words p p' ns ns' read.proof_read.words_ are in
        absurd (omega (arith, ap length same.1, many, read.proof_read.few))
    judged_as p pb ns fs status text read (long_proof p' bytes ns' are few told past) =
        let same = same_words words p p' ns ns' read.proof_read.words_ are in
        absurd (omega (arith, ap length (same_bytes contents p p' pb bytes same.0 read.proof_read.told told), read.proof_read.within, past))
    judged_as p pb ns fs status text read (long_file p' bytes ns' read' past) =
        let same = same_words words p p' ns ns' read.proof_read.words_ read'.words_ in
        absurd (none_long contents ns fs read.files_told (subst (HaveLongFile contents) (sym same.1) past))
    judged_as p pb ns fs status text read (refused p' pb' ns' fs' _ _ read' refusal) =
        let same = same_words words p p' ns ns' read.proof_read.words_ read'.proof_read.words_ in
        let files = one_list contents ns fs' fs (subst (λ l. HaveBytes contents l fs') (sym same.1) read'.files_told) read.files_told in
        not_understood status text (subst (λ l. IsRefusal l fs status text) (sym same.1) (subst (λ l. IsRefusal ns' l status text) files refusal))
    judged_as p pb ns fs status text read (judged p' pb' ns' fs' q _ _ read' program answer) =
        let same = same_words words p p' ns ns' read.proof_read.words_ read'.proof_read.words_ in
        let files = one_list contents ns fs' fs (subst (λ l. HaveBytes contents l fs') (sym same.1) read'.files_told) read.files_told in
        let proofs = same_bytes contents p' p pb' pb (sym same.0) read'.proof_read.told read.proof_read.told in
        answered q status text (subst (λ l. AreProgram l q) files program) (subst (λ n. IsProofAnswer (leads q) (causes q) (said_of words q) q n pb status text) (sym same.0) (subst (λ b. IsProofAnswer (leads q) (causes q) (said_of words q) q p' b status text) proofs answer))

    one_answer_read : (p pb : List ℕ) (ns fs : List (List ℕ)) (status other : Status) (text another : List ℕ) → AreRead words contents p ns pb fs → IsAnswer leads causes words contents status text → IsAnswer leads causes words contents other another → SameAnswer status text other another
    one_answer_read p pb ns fs status other text another read answer again =
        one_judgement (said_of words) p pb ns fs status other text another (judged_as p pb ns fs status text read answer) (judged_as p pb ns fs other another read again)

    -- ---- words that are no command, too many files, and files that are too long

    no_command : (status : Status) (text : List ℕ) → command_words words ≡ None → IsAnswer leads causes words contents status text → (Usage ≡ status) × (usage_text ≡ text)
    no_command status text others (usage none) = (refl, refl)
    no_command status text others (many_files p ns are many) = absurd (none-some (p, ns) (sym others ∙ are))
    no_command status text others (long_proof p bytes ns are few told past) = absurd (none-some (p, ns) (sym others ∙ are))
    no_command status text others (long_file p bytes ns read past) = absurd (none-some (p, ns) (sym others ∙ read.words_))
    no_command status text others (refused p pb ns fs _ _ read refusal) = absurd (none-some (p, ns) (sym others ∙ read.proof_read.words_))
    no_command status text others (judged p pb ns fs q _ _ read program answer) = absurd (none-some (p, ns) (sym others ∙ read.proof_read.words_))

    too_many : (p : List ℕ) (ns : List (List ℕ)) (p' : List ℕ) (ns' : List (List ℕ)) → command_words words ≡ Some (p, ns) → files_limit < length ns → command_words words ≡ Some (p', ns') → length ns' ≤ files_limit → ⊥
    too_many p ns p' ns' are many are' few = omega (arith, ap length (same_words words p p' ns ns' are are').1, many, few)

    files_are_many : (p : List ℕ) (ns : List (List ℕ)) (status : Status) (text : List ℕ) → command_words words ≡ Some (p, ns) → files_limit < length ns → IsAnswer leads causes words contents status text → (Limit ≡ status) × (files_limit_text ≡ text)
    files_are_many p ns status text are many (usage none) = absurd (none-some (p, ns) (sym none ∙ are))
    files_are_many p ns status text are many (many_files p' ns' are' many') = (refl, refl)
    files_are_many p ns status text are many (long_proof p' bytes ns' are' few told past) = absurd (too_many p ns p' ns' are many are' few)
    files_are_many p ns status text are many (long_file p' bytes ns' read past) = absurd (too_many p ns p' ns' are many read.words_ read.few)
    files_are_many p ns status text are many (refused p' pb ns' fs _ _ read refusal) = absurd (too_many p ns p' ns' are many read.proof_read.words_ read.proof_read.few)
    files_are_many p ns status text are many (judged p' pb ns' fs q _ _ read program answer) = absurd (too_many p ns p' ns' are many read.proof_read.words_ read.proof_read.few)

    not_read : (p bytes : List ℕ) (ns : List (List ℕ)) (p' bytes' : List ℕ) (ns' : List (List ℕ)) → command_words words ≡ Some (p, ns) → contents p ≡ Some bytes → proof_limit < length bytes → IsProofRead words contents p' ns' bytes' → ⊥
    not_read p bytes ns p' bytes' ns' are told past read =
        let same = same_words words p p' ns ns' are read.words_ in
        omega (arith, ap length (same_bytes contents p p' bytes bytes' same.0 told read.told), read.within, past)

    proof_is_past : (p bytes : List ℕ) (ns : List (List ℕ)) (status : Status) (text : List ℕ) → command_words words ≡ Some (p, ns) → length ns ≤ files_limit → contents p ≡ Some bytes → proof_limit < length bytes → IsAnswer leads causes words contents status text → (Limit ≡ status) × (proof_limit_text ≡ text)
    proof_is_past p bytes ns status text are few told past (usage none) = absurd (none-some (p, ns) (sym none ∙ are))
    proof_is_past p bytes ns status text are few told past (many_files p' ns' are' many) = absurd (too_many p' ns' p ns are' many are few)
    proof_is_past p bytes ns status text are few told past (long_proof p' bytes' ns' are' few' told' past') = (refl, refl)
    proof_is_past p bytes ns status text are few told past (long_file p' bytes' ns' read past') = absurd (not_read p bytes ns p' bytes' ns' are told past read)
    proof_is_past p bytes ns status text are few told past (refused p' pb ns' fs _ _ read refusal) = absurd (not_read p bytes ns p' pb ns' are told past read.proof_read)
    proof_is_past p bytes ns status text are few told past (judged p' pb ns' fs q _ _ read program answer) = absurd (not_read p bytes ns p' pb ns' are told past read.proof_read)

    file_not_read : (p bytes : List ℕ) (ns : List (List ℕ)) (p' bytes' : List ℕ) (ns' fs : List (List ℕ)) → IsProofRead words contents p ns bytes → HaveLongFile contents ns → AreRead words contents p' ns' bytes' fs → ⊥
    file_not_read p bytes ns p' bytes' ns' fs read past all =
        let same = same_words words p p' ns ns' read.words_ all.proof_read.words_ in
        none_long contents ns' fs all.files_told (subst (HaveLongFile contents) same.1 past)

    file_is_past : (p bytes : List ℕ) (ns : List (List ℕ)) (status : Status) (text : List ℕ) → IsProofRead words contents p ns bytes → HaveLongFile contents ns → IsAnswer leads causes words contents status text → (Limit ≡ status) × (file_limit_text ≡ text)
    file_is_past p bytes ns status text read past (usage none) = absurd (none-some (p, ns) (sym none ∙ read.words_))
    file_is_past p bytes ns status text read past (many_files p' ns' are many) = absurd (too_many p' ns' p ns are many read.words_ read.few)
    file_is_past p bytes ns status text read past (long_proof p' bytes' ns' are few told long) = absurd (not_read p' bytes' ns' p bytes ns are told long read)
    file_is_past p bytes ns status text read past (long_file p' bytes' ns' read' past') = (refl, refl)
    file_is_past p bytes ns status text read past (refused p' pb ns' fs _ _ all refusal) = absurd (file_not_read p bytes ns p' pb ns' fs read past all)
    file_is_past p bytes ns status text read past (judged p' pb ns' fs q _ _ all program answer) = absurd (file_not_read p bytes ns p' pb ns' fs read past all)

    -- ---- one answer

    pub answer_unique : (status other : Status) (text another : List ℕ) → IsAnswer leads causes words contents status text → IsAnswer leads causes words contents other another → SameAnswer status text other another
    answer_unique status other text another (usage none) again = same_by status other text another (no_command other another none again)
    answer_unique status other text another (many_files p ns are many) again = same_by status other text another (files_are_many p ns other another are many again)
    answer_unique status other text another (long_proof p bytes ns are few told past) again = same_by status other text another (proof_is_past p bytes ns other another are few told past again)
    answer_unique status other text another (long_file p bytes ns read past) again = same_by status other text another (file_is_past p bytes ns other another read past again)
    answer_unique status other text another (refused p pb ns fs _ _ read refusal) again =
        one_answer_read p pb ns fs status other text another read (refused p pb ns fs status text read refusal) again
    answer_unique status other text another (judged p pb ns fs q _ _ read program answer) again =
        one_answer_read p pb ns fs status other text another read (judged p pb ns fs q status text read program answer) again
