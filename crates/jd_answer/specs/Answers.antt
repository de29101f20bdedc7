-- What the program answers, from the words and the contents of the files.
use Rattle.std.specs.Prelude.{◌≡◌, ℕ, ◌<◌, ◌≤◌, List, [], ◌∷◌, length, Option, Some, None}
use Rattle.jd_source.specs.Sources.{Reason, SameReason}
use Rattle.jd_model.specs.Sequents.{PlainSequent}
use Rattle.jd_bracketed.specs.Tokens.{tokens_of}
use Rattle.jd_sequent.specs.Trees.{PlainStep, ProofTree}
use Rattle.jd_sequent.specs.Obligations.{PlainTask, names_of}
use Rattle.jd_sequent.specs.Rules.{LeadsWithinLimits}
use Rattle.jd_files.specs.Files.{file_limit, files_limit}
use Rattle.jd_scripts.specs.Answers as script
use Rattle.jd_proofs.specs.Outcomes.{Outcome, Trees, NoFile, UnknownObligation, IsOutcome}
use Rattle.jd_answer.specs.Words.{asks_goals, command_words}
use Rattle.jd_answer.specs.FileAnswers.{IsRefusal}
use Rattle.jd_answer.specs.Sources.{AreProgram, IsTaskOfFiles, obligation_name, obligation_sequent}
use Rattle.jd_answer.specs.Reports.{goals_text, usage_text, refusal_text, script_kind, unknown_kind, script_refusal_text, files_limit_text, proof_limit_text, steps_limit_text, file_limit_text, report_limit_text, IsReport}
use Rattle.jd_answer.specs.declared.status.Status.{Status}
use Rattle.jd_answer.specs.declared.status.Status.TheVariants.{Usage, RefusedSource, RefusedScript, Limit}

-- limits in bytes: of a proof file, of a report
abbrev pub proof_limit : ℕ
proof_limit = 16777216

abbrev pub report_limit : ℕ
report_limit = 67108864

-- the rules take the sequent of each program's obligation
abbrev pub AcceptsObligations : (PlainTask → PlainSequent → Type 0) → Type 0
AcceptsObligations accepts =
    (q : PlainTask) → IsTaskOfFiles q → accepts q (obligation_sequent q)

-- a step of a program's obligation leads to premises where it is an instance of a rule and they are within the limits
abbrev pub leads_of : (PlainTask → PlainSequent → PlainStep → List PlainSequent → Type 0) → PlainTask → PlainSequent → PlainStep → List PlainSequent → Type 0
leads_of instance q = LeadsWithinLimits (instance q)

-- what is said of the goals that a proof leaves: by `goals` all of them
abbrev pub said_of : List (List ℕ) → PlainTask → List PlainSequent → List ℕ
said_of words q goals = goals_text (asks_goals words) (names_of q) goals

-- these are the bytes of the files, each within the limit
abbrev pub HaveBytes : (List ℕ → Option (List ℕ)) → List (List ℕ) → List (List ℕ) → Type 0
HaveBytes contents [] [] = Unit {0}
HaveBytes contents [] (b ∷ bs) = ⊥
HaveBytes contents (n ∷ ns) [] = ⊥
HaveBytes contents (n ∷ ns) (b ∷ bs) = (contents n ≡ Some b) × (length b ≤ file_limit) × HaveBytes contents ns bs

-- one of the files is longer than the limit, and those before it are not
pub data HaveLongFile (contents : List ℕ → Option (List ℕ)) : List (List ℕ) → Type 0 where
  long : (name bytes : List ℕ) (names : List (List ℕ)) → contents name ≡ Some bytes → file_limit < length bytes → HaveLongFile contents (name ∷ names)
  behind : (name bytes : List ℕ) (names : List (List ℕ)) → contents name ≡ Some bytes → length bytes ≤ file_limit → HaveLongFile contents names → HaveLongFile contents (name ∷ names)

-- the words name a proof file and Java files, not too many, and the proof file has these bytes, within the limit
pub record IsProofRead (words : List (List ℕ)) (contents : List ℕ → Option (List ℕ)) (proof : List ℕ) (names : List (List ℕ)) (proof_bytes : List ℕ) : Type 0 where
  pub words_ : command_words words ≡ Some (proof, names)
  pub few : length names ≤ files_limit
  pub told : contents proof ≡ Some proof_bytes
  pub within : length proof_bytes ≤ proof_limit

-- and the Java files have these bytes, within the limit
pub record AreRead (words : List (List ℕ)) (contents : List ℕ → Option (List ℕ)) (proof : List ℕ) (names : List (List ℕ)) (proof_bytes : List ℕ) (files : List (List ℕ)) : Type 0 where
  pub proof_read : IsProofRead words contents proof names proof_bytes
  pub files_told : HaveBytes contents names files

-- the proof file has this proof, or none, for the obligation of this name, and no other
abbrev pub HasProof : List ℕ → List ℕ → Option ProofTree → Type 0
HasProof name bytes p = IsOutcome (name ∷ []) (tokens_of bytes) (Trees (p ∷ []))

-- the status and the text for a proof file of this name that is no file of scripts
pub data IsNoFileAnswer (file : List ℕ) (a : script.Answer) : Status → List ℕ → Type 0 where
  refused_file : (kind : List ℕ) → script_kind a ≡ Some kind → IsNoFileAnswer file a RefusedScript (script_refusal_text file kind)
  many_steps : a ≡ script.TooManySteps → IsNoFileAnswer file a Limit steps_limit_text

-- the status and the text for what the proof file of this name is for a program's obligation; a step of that obligation leads
-- from a sequent to its premises, or has causes
pub data IsOutcomeAnswer (leads : PlainSequent → PlainStep → List PlainSequent → Type 0) (causes : PlainSequent → PlainStep → ℕ → Type 0) (said : List PlainSequent → List ℕ) (q : PlainTask) (file : List ℕ) (o : Outcome) : Status → List ℕ → Type 0 where
  no_file : (a : script.Answer) (status : Status) (text : List ℕ) → o ≡ NoFile a → IsNoFileAnswer file a status text → IsOutcomeAnswer leads causes said q file o status text
  unknown : (name : List ℕ) → o ≡ UnknownObligation name → IsOutcomeAnswer leads causes said q file o RefusedScript (script_refusal_text file (unknown_kind name))
  long_report : (p : Option ProofTree) (status : Status) (text : List ℕ) → o ≡ Trees (p ∷ []) → IsReport leads causes said (obligation_name q) (obligation_sequent q) p status text → report_limit < length text → IsOutcomeAnswer leads causes said q file o Limit report_limit_text
  replayed : (p : Option ProofTree) (status : Status) (text : List ℕ) → o ≡ Trees (p ∷ []) → IsReport leads causes said (obligation_name q) (obligation_sequent q) p status text → length text ≤ report_limit → IsOutcomeAnswer leads causes said q file o status text

-- the status and the text for a program and the bytes of the proof file of this name
pub record IsProofAnswer (leads : PlainSequent → PlainStep → List PlainSequent → Type 0) (causes : PlainSequent → PlainStep → ℕ → Type 0) (said : List PlainSequent → List ℕ) (q : PlainTask) (file bytes : List ℕ) (status : Status) (text : List ℕ) : Type 0 where
  pub outcome : Outcome
  pub read : IsOutcome (obligation_name q ∷ []) (tokens_of bytes) outcome
  pub answer : IsOutcomeAnswer leads causes said q file outcome status text

-- the status and the text that are answered
pub data IsAnswer (leads : PlainTask → PlainSequent → PlainStep → List PlainSequent → Type 0) (causes : PlainTask → PlainSequent → PlainStep → ℕ → Type 0) (words : List (List ℕ)) (contents : List ℕ → Option (List ℕ)) : Status → List ℕ → Type 0 where
  usage : command_words words ≡ None → IsAnswer leads causes words contents Usage usage_text
  many_files : (proof : List ℕ) (names : List (List ℕ)) → command_words words ≡ Some (proof, names) → files_limit < length names → IsAnswer leads causes words contents Limit files_limit_text
  long_proof : (proof bytes : List ℕ) (names : List (List ℕ)) → command_words words ≡ Some (proof, names) → length names ≤ files_limit → contents proof ≡ Some bytes → proof_limit < length bytes → IsAnswer leads causes words contents Limit proof_limit_text
  long_file : (proof bytes : List ℕ) (names : List (List ℕ)) → IsProofRead words contents proof names bytes → HaveLongFile contents names → IsAnswer leads causes words contents Limit file_limit_text
  refused : (proof bytes : List ℕ) (names files : List (List ℕ)) (status : Status) (text : List ℕ) → AreRead words contents proof names bytes files → IsRefusal names files status text → IsAnswer leads causes words contents status text
  judged : (proof bytes : List ℕ) (names files : List (List ℕ)) (q : PlainTask) (status : Status) (text : List ℕ) → AreRead words contents proof names bytes files → AreProgram files q → IsProofAnswer (leads q) (causes q) (said_of words q) q proof bytes status text → IsAnswer leads causes words contents status text

-- the library tells what is in the Java files, up to the first that is too long
abbrev pub AreTold : (List ℕ → Option (List ℕ)) → List (List ℕ) → Type 0
AreTold contents [] = Unit {0}
AreTold contents (n ∷ ns) = (bytes : List ℕ) × (contents n ≡ Some bytes) × (length bytes ≤ file_limit → AreTold contents ns)

-- it tells what is in the files that the words name, as far as they are read
abbrev pub IsTold : List (List ℕ) → (List ℕ → Option (List ℕ)) → Type 0
IsTold words contents =
    (proof : List ℕ) (names : List (List ℕ)) → command_words words ≡ Some (proof, names) → length names ≤ files_limit
    → (bytes : List ℕ) × (contents proof ≡ Some bytes) × (length bytes ≤ proof_limit → AreTold contents names)

-- the same answer; of a Java file that is none, or that nests too deep, at any place
pub data SameAnswer : Status → List ℕ → Status → List ℕ → Type 0 where
  equal : (status : Status) (text : List ℕ) → SameAnswer status text status text
  refused_alike : (name : List ℕ) (r s : Reason) → SameReason r s → SameAnswer RefusedSource (refusal_text name r) RefusedSource (refusal_text name s)
