-- What each status of a call tells.
use Rattle.std.specs.Prelude.{◌≡◌, ℕ, ◌<◌, ◌≤◌, List, [], ◌∷◌, ◌++◌, length, take, Option, Some}
use Rattle.std.specs.Option.{ForSome}
use Rattle.jd_model.specs.Sequents.{PlainSequent}
use Rattle.jd_sequent.specs.Trees.{PlainStep, ProofTree}
use Rattle.jd_sequent.specs.Derives.{Derives}
use Rattle.jd_sequent.specs.Obligations.{PlainTask}
use Rattle.jd_bracketed.specs.Tokens.{tokens_of}
use Rattle.jd_scripts.specs.Answers as script
use Rattle.jd_proofs.specs.Outcomes.{NoFile, IsOutcome}
use Rattle.jd_answer.specs.Sources.{obligation_name, obligation_sequent}
use Rattle.jd_answer.specs.Words.{command_words}
use Rattle.jd_files.specs.Files.{files_limit}
use Rattle.jd_answer.specs.FileAnswers.{IsRefusal}
use Rattle.jd_answer.specs.Sources.{AreProgram}
use Rattle.jd_answer.specs.Reports.{IsReport}
use Rattle.jd_answer.specs.Answers.{proof_limit, report_limit, HaveLongFile, IsProofRead, AreRead, HasProof, IsAnswer, said_of}
use Rattle.jd_answer.specs.declared.status.Status.{Status}
use Rattle.jd_answer.specs.declared.status.Status.TheVariants.{RefusedSource, Limit}

-- ---- what is written

-- the answer of this status was written behind the bytes that were there
pub record IsAnswered (leads : PlainTask → PlainSequent → PlainStep → List PlainSequent → Type 0) (causes : PlainTask → PlainSequent → PlainStep → ℕ → Type 0) (words : List (List ℕ)) (contents : List ℕ → Option (List ℕ)) (before after : Option (List ℕ)) (status : Status) : Type 0 where
  pub text : List ℕ
  pub answer : IsAnswer leads causes words contents status text
  pub written : ForSome before (λ told. after ≡ Some (told ++ text))

-- only a first part of the answer was written
pub record IsCutShort (leads : PlainTask → PlainSequent → PlainStep → List PlainSequent → Type 0) (causes : PlainTask → PlainSequent → PlainStep → ℕ → Type 0) (words : List (List ℕ)) (contents : List ℕ → Option (List ℕ)) (before after : Option (List ℕ)) : Type 0 where
  pub status : Status
  pub text : List ℕ
  pub answer : IsAnswer leads causes words contents status text
  pub written : ForSome before (λ told. (k : ℕ) × (k ≤ length text) × (after ≡ Some (told ++ take k text)))

-- ---- what is accepted and what is refused

-- the files are a program, and a file of scripts with this proof or none for its obligation, and no other
pub record AreUnderstood (words : List (List ℕ)) (contents : List ℕ → Option (List ℕ)) (program : PlainTask) (plain : Option ProofTree) : Type 0 where
  pub proof : List ℕ
  pub proof_bytes : List ℕ
  pub names : List (List ℕ)
  pub files : List (List ℕ)
  pub read : AreRead words contents proof names proof_bytes files
  pub java_ : AreProgram files program
  pub script_ : HasProof (obligation_name program) proof_bytes plain

-- the proof derives the obligation's sequent, and leaves nothing to be shown
pub record IsAccepted (leads : PlainTask → PlainSequent → PlainStep → List PlainSequent → Type 0) (words : List (List ℕ)) (contents : List ℕ → Option (List ℕ)) : Type 0 where
  pub program : PlainTask
  pub tree : ProofTree
  pub understood : AreUnderstood words contents program (Some tree)
  pub derived : Derives (leads program) tree (obligation_sequent program) []

-- the script has no proof that derives the obligation's sequent and leaves nothing to be shown
pub record IsNotAccepted (leads : PlainTask → PlainSequent → PlainStep → List PlainSequent → Type 0) (words : List (List ℕ)) (contents : List ℕ → Option (List ℕ)) : Type 0 where
  pub program : PlainTask
  pub plain : Option ProofTree
  pub understood : AreUnderstood words contents program plain
  pub not_derived : (tree : ProofTree) → plain ≡ Some tree → Derives (leads program) tree (obligation_sequent program) [] → ⊥

-- the Java files are not read, have no program's classes, or a form that has no obligation yet
pub record IsSourceRefused (words : List (List ℕ)) (contents : List ℕ → Option (List ℕ)) : Type 0 where
  pub proof : List ℕ
  pub proof_bytes : List ℕ
  pub names : List (List ℕ)
  pub files : List (List ℕ)
  pub read : AreRead words contents proof names proof_bytes files
  pub text : List ℕ
  pub refusal : IsRefusal names files RefusedSource text

-- the Java files are a program, and the proof file is no file of scripts, or one with a proof of no obligation
pub record IsScriptRefused (words : List (List ℕ)) (contents : List ℕ → Option (List ℕ)) : Type 0 where
  pub proof : List ℕ
  pub proof_bytes : List ℕ
  pub names : List (List ℕ)
  pub files : List (List ℕ)
  pub program : PlainTask
  pub read : AreRead words contents proof names proof_bytes files
  pub java_ : AreProgram files program
  pub no_script : (p : Option ProofTree) → HasProof (obligation_name program) proof_bytes p → ⊥

-- there are too many files, classes, methods or steps, or the proof file, a Java file or the report is too long
pub data IsPastLimit (leads : PlainTask → PlainSequent → PlainStep → List PlainSequent → Type 0) (causes : PlainTask → PlainSequent → PlainStep → ℕ → Type 0) (words : List (List ℕ)) (contents : List ℕ → Option (List ℕ)) : Type 0 where
  many_files : (proof : List ℕ) (names : List (List ℕ)) → command_words words ≡ Some (proof, names) → files_limit < length names → IsPastLimit leads causes words contents
  long_proof : (proof bytes : List ℕ) (names : List (List ℕ)) → command_words words ≡ Some (proof, names) → contents proof ≡ Some bytes → proof_limit < length bytes → IsPastLimit leads causes words contents
  long_file : (proof proof_bytes : List ℕ) (names : List (List ℕ)) → IsProofRead words contents proof names proof_bytes → HaveLongFile contents names → IsPastLimit leads causes words contents
  many_parts : (proof proof_bytes text : List ℕ) (names files : List (List ℕ)) → AreRead words contents proof names proof_bytes files → IsRefusal names files Limit text → IsPastLimit leads causes words contents
  many_steps : (proof proof_bytes : List ℕ) (names files : List (List ℕ)) (program : PlainTask) → AreRead words contents proof names proof_bytes files → AreProgram files program → IsOutcome (obligation_name program ∷ []) (tokens_of proof_bytes) (NoFile script.TooManySteps) → IsPastLimit leads causes words contents
  long_report : (program : PlainTask) (plain : Option ProofTree) (status : Status) (text : List ℕ) → AreUnderstood words contents program plain → IsReport (leads program) (causes program) (said_of words program) (obligation_name program) (obligation_sequent program) plain status text → report_limit < length text → IsPastLimit leads causes words contents
