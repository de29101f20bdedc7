-- What each status of an answer tells.
use Rattle.std.proofs.Common.{◌≡◌, ◌⊎◌, inl, inr, ℕ, List, Option, Some, sym, subst, ◌∙◌}
use Rattle.jd_model.specs.Sequents.{PlainSequent}
use Rattle.jd_sequent.specs.Trees.{PlainStep, ProofTree}
use Rattle.jd_sequent.specs.Obligations.{PlainTask}
use Rattle.jd_answer.specs.Sources.{obligation_name}
use Rattle.jd_answer.specs.Answers.{said_of, HasProof, AreRead, IsAnswer, usage, many_files, long_proof, long_file, refused, judged}
use Rattle.jd_answer.specs.FileAnswers.{IsRefusal}
use Rattle.jd_answer.specs.Sources.{AreProgram}
use Rattle.jdl.specs.Outcomes.{AreUnderstood, IsAccepted, IsNotAccepted, IsSourceRefused, IsScriptRefused, IsPastLimit}
use Rattle.jdl.specs.Outcomes as outcome
use Rattle.jd_answer.specs.declared.status.Status.{Status}
use Rattle.jd_answer.specs.declared.status.Status.TheVariants.{Done, NotAccepted, WriteFault, RefusedSource, RefusedScript, Limit}
use Rattle.jd_answer.proofs.FileAnswers.{refusal_status}
use Rattle.jd_answer.proofs.Derivations.{OneWay, HasNoCause}
use Rattle.jd_answer.proofs.ProofAnswers.{proof_done, proof_not_accepted, proof_no_source, proof_refused, proof_limited}

-- a call that ends so, and not by a fault of writing, was answered so
pub answered_so : (ended status wanted : Status) → (ended ≡ status) ⊎ (ended ≡ WriteFault) → (wanted ≡ WriteFault → ⊥) → ended ≡ wanted → status ≡ wanted
answered_so ended status wanted (inl same) other is = sym same ∙ is
answered_so ended status wanted (inr fault) other is = absurd (other (sym is ∙ fault))

-- ---- Java files that are refused

-- a refusal has none of the other statuses
no_refusal : (names files : List (List ℕ)) (status : Status) (text : List ℕ) → IsRefusal names files status text → (status ≡ RefusedSource → ⊥) → (status ≡ Limit → ⊥) → ⊥
no_refusal names files status text refusal not_source not_limit =
    elim (refusal_status names files status text refusal) [ inl is ↦ not_source is | inr is ↦ not_limit is ]

-- ---- answers

module _ (leads : PlainTask → PlainSequent → PlainStep → List PlainSequent → Type 0) (causes : PlainTask → PlainSequent → PlainStep → ℕ → Type 0) (words : List (List ℕ)) (contents : List ℕ → Option (List ℕ)) where
  understood : (proof bytes : List ℕ) (names files : List (List ℕ)) (q : PlainTask) (p : Option ProofTree) → AreRead words contents proof names bytes files → AreProgram files q → HasProof (obligation_name q) bytes p → AreUnderstood words contents q p
  understood proof bytes names files q p read program has =
      record { proof = proof; proof_bytes = bytes; names = names; files = files; read = read; java_ = program; script_ = has }

  pub answer_done : (status : Status) (text : List ℕ) → IsAnswer leads causes words contents status text → status ≡ Done → IsAccepted leads words contents
  answer_done status text (usage none) is = absurd cc
  answer_done status text (many_files proof names are many) is = absurd cc
  answer_done status text (long_proof proof bytes names are few told past) is = absurd cc
  answer_done status text (long_file proof bytes names read past) is = absurd cc
  answer_done status text (refused proof bytes names files _ _ read refusal) is =
      absurd (no_refusal names files status text refusal (λ other. cc) (λ other. cc))
  answer_done status text (judged proof bytes names files q _ _ read program answer) is =
      let done = proof_done (leads q) (causes q) (said_of words q) q proof bytes status text answer is in
      record { program = q; tree = done.0; understood = understood proof bytes names files q (Some done.0) read program done.1; derived = done.2 }

  pub answer_not_accepted : ((q : PlainTask) → OneWay (leads q)) → ((q : PlainTask) → HasNoCause (leads q) (causes q)) → (status : Status) (text : List ℕ) → IsAnswer leads causes words contents status text → status ≡ NotAccepted → IsNotAccepted leads words contents
  answer_not_accepted way free status text (usage none) is = absurd cc
  answer_not_accepted way free status text (many_files proof names are many) is = absurd cc
  answer_not_accepted way free status text (long_proof proof bytes names are few told past) is = absurd cc
  answer_not_accepted way free status text (long_file proof bytes names read past) is = absurd cc
  answer_not_accepted way free status text (refused proof bytes names files _ _ read refusal) is =
      absurd (no_refusal names files status text refusal (λ other. cc) (λ other. cc))
  answer_not_accepted way free status text (judged proof bytes names files q _ _ read program answer) is =
      let none = proof_not_accepted (leads q) (causes q) (said_of words q) q proof bytes (way q) (free q) status text answer is in
      record { program = q; plain = none.0; understood = understood proof bytes names files q none.0 read program none.1; not_derived = none.2 }

  pub answer_refused_source : (status : Status) (text : List ℕ) → IsAnswer leads causes words contents status text → status ≡ RefusedSource → IsSourceRefused words contents
  answer_refused_source status text (usage none) is = absurd cc
  answer_refused_source status text (many_files proof names are many) is = absurd cc
  answer_refused_source status text (long_proof proof bytes names are few told past) is = absurd cc
  answer_refused_source status text (long_file proof bytes names read past) is = absurd cc
  answer_refused_source status text (refused proof bytes names files _ _ read refusal) is =
      record { proof = proof; proof_bytes = bytes; names = names; files = files; read = read; text = text; refusal = subst (λ s. IsRefusal names files s text) is refusal }
  answer_refused_source status text (judged proof bytes names files q _ _ read program answer) is =
      absurd (proof_no_source (leads q) (causes q) (said_of words q) q proof bytes status text answer is)

  pub answer_refused_script : (status : Status) (text : List ℕ) → IsAnswer leads causes words contents status text → status ≡ RefusedScript → IsScriptRefused words contents
  answer_refused_script status text (usage none) is = absurd cc
  answer_refused_script status text (many_files proof names are many) is = absurd cc
  answer_refused_script status text (long_proof proof bytes names are few told past) is = absurd cc
  answer_refused_script status text (long_file proof bytes names read past) is = absurd cc
  answer_refused_script status text (refused proof bytes names files _ _ read refusal) is =
      absurd (no_refusal names files status text refusal (λ other. cc) (λ other. cc))
  answer_refused_script status text (judged proof bytes names files q _ _ read program answer) is =
      record { proof = proof; proof_bytes = bytes; names = names; files = files; program = q; read = read; java_ = program; no_script = proof_refused (leads q) (causes q) (said_of words q) q proof bytes status text answer is }

  pub answer_limit : (status : Status) (text : List ℕ) → IsAnswer leads causes words contents status text → status ≡ Limit → IsPastLimit leads causes words contents
  answer_limit status text (usage none) is = absurd cc
  answer_limit status text (many_files proof names are many) is = outcome.many_files proof names are many
  answer_limit status text (long_proof proof bytes names are few told past) is = outcome.long_proof proof bytes names are told past
  answer_limit status text (long_file proof bytes names read past) is = outcome.long_file proof bytes names read past
  answer_limit status text (refused proof bytes names files _ _ read refusal) is =
      outcome.many_parts proof bytes text names files read (subst (λ s. IsRefusal names files s text) is refusal)
  answer_limit status text (judged proof bytes names files q _ _ read program answer) is =
      elim (proof_limited (leads q) (causes q) (said_of words q) q proof bytes status text answer is) [
        | inl many ↦ outcome.many_steps proof bytes names files q read program many
        | inr long ↦ outcome.long_report q long.proof long.status long.text (understood proof bytes names files q long.proof read program long.has) long.report long.past
      ]
