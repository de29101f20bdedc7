-- What each status of the answer for a program and a proof file tells.
use Rattle.std.proofs.Common.{◌≡◌, ◌<◌, ◌⊎◌, inl, inr, ℕ, List, [], ◌∷◌, length, Option, Some, ap, sym, refl, subst, ◌∙◌}
use Rattle.jd_bracketed.specs.Tokens.{tokens_of}
use Rattle.jd_model.specs.Sequents.{PlainSequent}
use Rattle.jd_sequent.specs.Trees.{PlainStep, ProofTree}
use Rattle.jd_sequent.specs.Derives.{Derives}
use Rattle.jd_scripts.specs.Answers as script
use Rattle.jd_scripts.specs.Answers.{most_levels, most_steps}
use Rattle.jd_scripts.proofs.Once.{one_answer}
use Rattle.jd_proofs.specs.Outcomes.{Outcome, NoFile, Trees, IsOutcome, outcome}
use Rattle.jd_sequent.specs.Obligations.{PlainTask}
use Rattle.jd_answer.specs.Sources.{obligation_name, obligation_sequent}
use Rattle.jd_answer.specs.Reports.{IsReport}
use Rattle.jd_answer.specs.Answers.{HasProof, IsNoFileAnswer, refused_file, many_steps, IsOutcomeAnswer, no_file, unknown, long_report, replayed, IsProofAnswer, report_limit}
use Rattle.jd_answer.specs.declared.status.Status.{Status}
use Rattle.jd_answer.specs.declared.status.Status.TheVariants.{Done, NotAccepted, RefusedSource, RefusedScript, Limit}
use Rattle.jd_answer.proofs.Derivations.{OneWay, HasNoCause}
use Rattle.jd_answer.proofs.Reports.{report_done, report_not_accepted, no_report}

-- a text has one outcome
pub one_outcome : (names : List (List ℕ)) (bytes : List ℕ) (o other : Outcome) → IsOutcome names (tokens_of bytes) o → IsOutcome names (tokens_of bytes) other → o ≡ other
one_outcome names bytes o other a b =
    a.is ∙ ap (outcome names) (one_answer.one most_steps most_levels bytes a.answer b.answer a.answered b.answered) ∙ sym b.is

-- the report of the proof is too long
pub record IsLong (leads : PlainSequent → PlainStep → List PlainSequent → Type 0) (causes : PlainSequent → PlainStep → ℕ → Type 0) (said : List PlainSequent → List ℕ) (q : PlainTask) (bytes : List ℕ) : Type 0 where
  pub proof : Option ProofTree
  pub has : HasProof (obligation_name q) bytes proof
  pub status : Status
  pub text : List ℕ
  pub report : IsReport leads causes said (obligation_name q) (obligation_sequent q) proof status text
  pub past : report_limit < length text

-- a refusal of the file has one of two statuses
no_file_status : (file : List ℕ) (a : script.Answer) (status : Status) (text : List ℕ) → IsNoFileAnswer file a status text → (status ≡ RefusedScript) ⊎ ((status ≡ Limit) × (a ≡ script.TooManySteps))
no_file_status file a status text (refused_file kind is) = inl refl
no_file_status file a status text (many_steps is) = inr (refl, is)

no_other : (file : List ℕ) (a : script.Answer) (status : Status) (text : List ℕ) → IsNoFileAnswer file a status text → (status ≡ RefusedScript → ⊥) → (status ≡ Limit → ⊥) → ⊥
no_other file a status text is not_script not_limit =
    elim (no_file_status file a status text is) [ inl s ↦ not_script s | inr l ↦ not_limit l.0 ]

module _ (leads : PlainSequent → PlainStep → List PlainSequent → Type 0) (causes : PlainSequent → PlainStep → ℕ → Type 0) (said : List PlainSequent → List ℕ) (q : PlainTask) (file bytes : List ℕ) where
  read_as : (o : Outcome) (p : Option ProofTree) → IsOutcome (obligation_name q ∷ []) (tokens_of bytes) o → o ≡ Trees (p ∷ []) → HasProof (obligation_name q) bytes p
  read_as o p read is = subst (IsOutcome (obligation_name q ∷ []) (tokens_of bytes)) is read

  abbrev Read : Outcome → Type 0
  Read o = IsOutcome (obligation_name q ∷ []) (tokens_of bytes) o

  done_by : (o : Outcome) (status : Status) (text : List ℕ) → Read o → IsOutcomeAnswer leads causes said q file o status text → status ≡ Done → (tree : ProofTree) × HasProof (obligation_name q) bytes (Some tree) × Derives leads tree (obligation_sequent q) []
  done_by o status text read (no_file a _ _ of it) is = absurd (no_other file a status text it (λ other. cc) (λ other. cc))
  done_by o status text read (unknown name of) is = absurd cc
  done_by o status text read (long_report p status' text' of report past) is = absurd cc
  done_by o status text read (replayed p _ _ of report within) is =
      let done = report_done leads causes said (obligation_name q) (obligation_sequent q) p status text report is in
      (done.0, subst (HasProof (obligation_name q) bytes) done.1 (read_as o p read of), done.2)

  pub proof_done : (status : Status) (text : List ℕ) → IsProofAnswer leads causes said q file bytes status text → status ≡ Done → (tree : ProofTree) × HasProof (obligation_name q) bytes (Some tree) × Derives leads tree (obligation_sequent q) []
  proof_done status text a is = done_by a.outcome status text a.read a.answer is

  not_accepted_by : OneWay leads → HasNoCause leads causes → (o : Outcome) (status : Status) (text : List ℕ) → Read o → IsOutcomeAnswer leads causes said q file o status text → status ≡ NotAccepted
      → (p : Option ProofTree) × HasProof (obligation_name q) bytes p × ((tree : ProofTree) → p ≡ Some tree → Derives leads tree (obligation_sequent q) [] → ⊥)
  not_accepted_by way free o status text read (no_file a _ _ of it) is = absurd (no_other file a status text it (λ other. cc) (λ other. cc))
  not_accepted_by way free o status text read (unknown name of) is = absurd cc
  not_accepted_by way free o status text read (long_report p status' text' of report past) is = absurd cc
  not_accepted_by way free o status text read (replayed p _ _ of report within) is =
      (p, read_as o p read of, report_not_accepted leads causes said way free (obligation_name q) (obligation_sequent q) p status text report is)

  pub proof_not_accepted : OneWay leads → HasNoCause leads causes → (status : Status) (text : List ℕ) → IsProofAnswer leads causes said q file bytes status text → status ≡ NotAccepted
      → (p : Option ProofTree) × HasProof (obligation_name q) bytes p × ((tree : ProofTree) → p ≡ Some tree → Derives leads tree (obligation_sequent q) [] → ⊥)
  proof_not_accepted way free status text a is = not_accepted_by way free a.outcome status text a.read a.answer is

  no_source_by : (o : Outcome) (status : Status) (text : List ℕ) → IsOutcomeAnswer leads causes said q file o status text → status ≡ RefusedSource → ⊥
  no_source_by o status text (no_file a _ _ of it) is = no_other file a status text it (λ other. cc) (λ other. cc)
  no_source_by o status text (unknown name of) is = cc
  no_source_by o status text (long_report p status' text' of report past) is = cc
  no_source_by o status text (replayed p _ _ of report within) is =
      no_report leads causes said (obligation_name q) (obligation_sequent q) p status text report (λ other. cc) (λ other. cc)

  pub proof_no_source : (status : Status) (text : List ℕ) → IsProofAnswer leads causes said q file bytes status text → status ≡ RefusedSource → ⊥
  proof_no_source status text a is = no_source_by a.outcome status text a.answer is

  no_trees : (o : Outcome) → ((p : Option ProofTree) → o ≡ Trees (p ∷ []) → ⊥) → Read o → (p : Option ProofTree) → HasProof (obligation_name q) bytes p → ⊥
  no_trees o other read p has = other p (one_outcome (obligation_name q ∷ []) bytes o (Trees (p ∷ [])) read has)

  refused_by : (o : Outcome) (status : Status) (text : List ℕ) → Read o → IsOutcomeAnswer leads causes said q file o status text → status ≡ RefusedScript → (p : Option ProofTree) → HasProof (obligation_name q) bytes p → ⊥
  refused_by o status text read (no_file a _ _ of it) is = no_trees o (λ p trees. cc) read
  refused_by o status text read (unknown name of) is = no_trees o (λ p trees. cc) read
  refused_by o status text read (long_report p status' text' of report past) is = absurd cc
  refused_by o status text read (replayed p _ _ of report within) is =
      absurd (no_report leads causes said (obligation_name q) (obligation_sequent q) p status text report (λ other. cc) (λ other. cc))

  pub proof_refused : (status : Status) (text : List ℕ) → IsProofAnswer leads causes said q file bytes status text → status ≡ RefusedScript → (p : Option ProofTree) → HasProof (obligation_name q) bytes p → ⊥
  proof_refused status text a is = refused_by a.outcome status text a.read a.answer is

  many_steps_by : (a : script.Answer) (o : Outcome) (status : Status) (text : List ℕ) → o ≡ NoFile a → Read o → IsNoFileAnswer file a status text → status ≡ Limit → Read (NoFile script.TooManySteps)
  many_steps_by a o status text of read (refused_file kind kind_is) is = absurd cc
  many_steps_by a o status text of read (many_steps many) is = subst Read (of ∙ ap NoFile many) read

  limited_by : (o : Outcome) (status : Status) (text : List ℕ) → Read o → IsOutcomeAnswer leads causes said q file o status text → status ≡ Limit → Read (NoFile script.TooManySteps) ⊎ IsLong leads causes said q bytes
  limited_by o status text read (no_file a _ _ of it) is = inl (many_steps_by a o status text of read it is)
  limited_by o status text read (unknown name of) is = absurd cc
  limited_by o status text read (long_report p status' text' of report past) is =
      inr (record { proof = p; has = read_as o p read of; status = status'; text = text'; report = report; past = past })
  limited_by o status text read (replayed p _ _ of report within) is =
      absurd (no_report leads causes said (obligation_name q) (obligation_sequent q) p status text report (λ other. cc) (λ other. cc))

  pub proof_limited : (status : Status) (text : List ℕ) → IsProofAnswer leads causes said q file bytes status text → status ≡ Limit → Read (NoFile script.TooManySteps) ⊎ IsLong leads causes said q bytes
  proof_limited status text a is = limited_by a.outcome status text a.read a.answer is
