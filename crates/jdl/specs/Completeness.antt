-- When a call ends with its report, and where reading and writing do not fail.
use Rattle.std.specs.Prelude.{◌≡◌, ℕ, ◌≤◌, List, Option, None, IsSome, length}
use Rattle.jd_base.specs.Faults.{Rose}
use Rattle.jd_base.specs.InMemory.{contents_of}
use Rattle.jd_model.specs.Sequents.{PlainSequent}
use Rattle.jd_sequent.specs.Trees.{PlainStep}
use Rattle.jd_sequent.specs.Obligations.{PlainTask}
use Rattle.jd_answer.specs.Words.{command_words}
use Rattle.jd_answer.specs.Answers.{IsAnswer}
use Rattle.jd_answer.specs.ReadFaults.{IsNamed, IsReadFault}
use Rattle.jd_answer.specs.declared.status.Status.{Status}
use Rattle.jd_answer.specs.declared.status.Status.TheVariants.{Done, NotAccepted, Usage, ReadFault, WriteFault, RefusedSource, RefusedScript, Limit, NoMemory}
use Rattle.jdl.specs.Outcomes.{IsSourceRefused, IsScriptRefused, IsPastLimit}

-- the words are a command, none of the files is refused, and no limit is passed
pub record IsInOrder (leads : PlainTask → PlainSequent → PlainStep → List PlainSequent → Type 0) (causes : PlainTask → PlainSequent → PlainStep → ℕ → Type 0) (words : List (List ℕ)) (contents : List ℕ → Option (List ℕ)) : Type 0 where
  pub command : command_words words ≡ None → ⊥
  pub source : IsSourceRefused words contents → ⊥
  pub script_ : IsScriptRefused words contents → ⊥
  pub limits : IsPastLimit leads causes words contents → ⊥

-- no count of a file that the words name rose, nor the sink's
pub record NoCountRose (words : List (List ℕ)) (before after : List ℕ → ℕ) (sink_before sink_after : ℕ) : Type 0 where
  pub reading : IsReadFault words before after → ⊥
  pub writing : Rose sink_before sink_after → ⊥

-- how a call ends then: with its report, accepted or not, or for want of memory
abbrev pub MayEndInOrder : Status → Type 0
MayEndInOrder Done = Unit {0}
MayEndInOrder NotAccepted = Unit {0}
MayEndInOrder Usage = ⊥
MayEndInOrder ReadFault = ⊥
MayEndInOrder WriteFault = ⊥
MayEndInOrder RefusedSource = ⊥
MayEndInOrder RefusedScript = ⊥
MayEndInOrder Limit = ⊥
MayEndInOrder NoMemory = Unit {0}

-- as many bytes as each text has that is an answer are written without a failure
abbrev pub FitsEachAnswer : (PlainTask → PlainSequent → PlainStep → List PlainSequent → Type 0) → (PlainTask → PlainSequent → PlainStep → ℕ → Type 0) → List (List ℕ) → (List ℕ → Option (List ℕ)) → (ℕ → Type 0) → Type 0
FitsEachAnswer leads causes words contents steady =
    (status : Status) (text : List ℕ) → IsAnswer leads causes words contents status text → steady (length text)

-- ---- in memory

-- each file that the words name is held
abbrev pub AreHeld : List (List ℕ) → List (List ℕ × List ℕ) → Type 0
AreHeld words files = (name : List ℕ) → IsNamed words name → IsSome (contents_of files name)

-- so many bytes have room for each text that is an answer
abbrev pub HasRoom : (PlainTask → PlainSequent → PlainStep → List PlainSequent → Type 0) → (PlainTask → PlainSequent → PlainStep → ℕ → Type 0) → List (List ℕ) → (List ℕ → Option (List ℕ)) → ℕ → Type 0
HasRoom leads causes words contents room =
    FitsEachAnswer leads causes words contents (λ n. n ≤ room)
