-- What is told of the code's refusals of proof files.
use Rattle.std.specs.Prelude.{◌≡◌, ℕ, List, Option, Some, None}
use Rattle.jd_scripts.specs.Answers as plain
use Rattle.jd_scripts.specs.Answers.{Answer}
use Rattle.jd_script.specs.declared.refusal.ScriptRefusal.{ScriptRefusal}
use Rattle.jd_script.specs.declared.refusal.ScriptRefusal.TheVariants as refusals
use Rattle.jd_proofs.specs.declared.refusal.ProofsRefusal.{ProofsRefusal}
use Rattle.jd_proofs.specs.declared.refusal.ProofsRefusal.TheVariants as code
use Rattle.jd_answer.specs.Answers.{IsNoFileAnswer}
use Rattle.jd_answer.specs.Reports.{script_kind, script_refusal_text, unknown_kind}
use Rattle.jd_answer.specs.declared.status.Status.{Status}
use Rattle.jd_answer.specs.declared.status.Status.TheVariants.{RefusedScript}

-- the answer that a refusal gives; want of memory is none
abbrev pub plain_answer : ScriptRefusal → Option Answer
plain_answer refusals.Version = Some plain.OtherVersion
plain_answer (refusals.Syntax file at) = Some (plain.Syntax at)
plain_answer (refusals.DuplicateProof name) = Some (plain.DuplicateProof name.items)
plain_answer refusals.Truncated = Some plain.Truncated
plain_answer refusals.TooManyNodes = Some plain.TooManySteps
plain_answer (refusals.TooDeep file at) = Some (plain.TooDeep at)
plain_answer refusals.NoMemory = None

-- its kind, or none of too many steps
pub record TellsKind (e : ScriptRefusal) (kind : Option (List ℕ)) : Type 0 where
  pub answer : Answer
  pub is : plain_answer e ≡ Some answer
  pub kind_is : kind ≡ script_kind answer
  pub limit : kind ≡ None → answer ≡ plain.TooManySteps

-- the status and the text tell of it
pub record TellsFile (file : List ℕ) (e : ScriptRefusal) (status : Status) (text : List ℕ) : Type 0 where
  pub answer : Answer
  pub is : plain_answer e ≡ Some answer
  pub tells : IsNoFileAnswer file answer status text

-- they tell of a refusal of proofs
abbrev pub IsUnreadAnswer : List ℕ → ProofsRefusal → Status → List ℕ → Type 0
IsUnreadAnswer file (code.File e) status text = TellsFile file e status text
IsUnreadAnswer file (code.UnknownObligation name) status text = (status ≡ RefusedScript) × (text ≡ script_refusal_text file (unknown_kind name.items))
