-- The answer for a program and a proof file.
use Rattle.std.proofs.Common.{◌≡◌, ◌<◌, ◌≤◌, inl, inr, ℕ, List, [], ◌∷◌, length, Option, Some, refl, sym, subst}
use Rattle.std.proofs.lemmas.Bool.{cases_lt}
use Rattle.std.proofs.lemmas.Option.{same_Some}
use Rattle.jd_bracketed.specs.Tokens.{Placed, tokens_of}
use Rattle.jd_model.specs.Sequents.{PlainSequent}
use Rattle.jd_sequent.specs.Trees.{PlainStep, ProofTree}
use Rattle.jd_scripts.specs.Scripts.{Limits}
use Rattle.jd_scripts.specs.Answers as script
use Rattle.jd_scripts.specs.Answers.{Answer, IsAnswer, limits_of, most_levels, most_steps}
use Rattle.jd_script.specs.Answers.{IsRefused}
use Rattle.jd_script.specs.declared.refusal.ScriptRefusal.{ScriptRefusal}
use Rattle.jd_script.specs.declared.refusal.ScriptRefusal.TheVariants as refusals
use Rattle.jd_proofs.specs.Outcomes.{NoFile, UnknownObligation, outcome}
use Rattle.jd_proofs.specs.Answers.{IsUnread}
use Rattle.jd_proofs.specs.declared.refusal.ProofsRefusal.{ProofsRefusal}
use Rattle.jd_proofs.specs.declared.refusal.ProofsRefusal.TheVariants as code
use Rattle.jd_sequent.specs.Obligations.{PlainTask}
use Rattle.jd_answer.specs.Sources.{obligation_name, obligation_sequent}
use Rattle.jd_answer.specs.Reports.{IsReport, report_limit_text}
use Rattle.jd_answer.specs.Answers.{HasProof, IsProofAnswer, IsNoFileAnswer, refused_file, many_steps, no_file, unknown, long_report, replayed, report_limit}
use Rattle.jd_answer.specs.Scripts.{plain_answer, IsUnreadAnswer}
use Rattle.jd_answer.specs.Statuses.{IsJudged}
use Rattle.jd_answer.specs.declared.status.Status.{Status}
use Rattle.jd_answer.specs.declared.status.Status.TheVariants.{Limit}

-- ---- proof files that give no proofs

-- a refusal that gives an answer is refused so
refused_as : (limits : Limits) (tokens : List Placed) (e : ScriptRefusal) (a : Answer) → IsRefused limits tokens e → plain_answer e ≡ Some a → IsAnswer limits tokens a
refused_as limits tokens refusals.Version a is e = subst (IsAnswer limits tokens) (same_Some script.OtherVersion a e) is
refused_as limits tokens (refusals.Syntax file at) a is e = subst (IsAnswer limits tokens) (same_Some (script.Syntax at) a e) is.1
refused_as limits tokens (refusals.DuplicateProof name) a is e = subst (IsAnswer limits tokens) (same_Some (script.DuplicateProof name.items) a e) is
refused_as limits tokens refusals.Truncated a is e = subst (IsAnswer limits tokens) (same_Some script.Truncated a e) is
refused_as limits tokens refusals.TooManyNodes a is e = subst (IsAnswer limits tokens) (same_Some script.TooManySteps a e) is
refused_as limits tokens (refusals.TooDeep file at) a is e = subst (IsAnswer limits tokens) (same_Some (script.TooDeep at) a e) is.1
refused_as limits tokens refusals.NoMemory a is e = absurd cc

-- and that answer is no file
not_read_as : (names : List (List ℕ)) (e : ScriptRefusal) (a : Answer) → plain_answer e ≡ Some a → NoFile a ≡ outcome names a
not_read_as names refusals.Version a e = rw (sym (same_Some script.OtherVersion a e)) refl
not_read_as names (refusals.Syntax file at) a e = rw (sym (same_Some (script.Syntax at) a e)) refl
not_read_as names (refusals.DuplicateProof name) a e = rw (sym (same_Some (script.DuplicateProof name.items) a e)) refl
not_read_as names refusals.Truncated a e = rw (sym (same_Some script.Truncated a e)) refl
not_read_as names refusals.TooManyNodes a e = rw (sym (same_Some script.TooManySteps a e)) refl
not_read_as names (refusals.TooDeep file at) a e = rw (sym (same_Some (script.TooDeep at) a e)) refl
not_read_as names refusals.NoMemory a e = absurd cc

judged_no_file : (file : List ℕ) (a : Answer) (status : Status) (text : List ℕ) → IsNoFileAnswer file a status text → IsJudged status
judged_no_file file a status text (refused_file kind is) = tt
judged_no_file file a status text (many_steps is) = tt

pub unread_is_judged : (file : List ℕ) (e : ProofsRefusal) (status : Status) (text : List ℕ) → IsUnreadAnswer file e status text → IsJudged status
unread_is_judged file (code.File e) status text is = judged_no_file file is.answer status text is.tells
unread_is_judged file (code.UnknownObligation name) status text is = rw (is.0) tt

module _ (leads : PlainSequent → PlainStep → List PlainSequent → Type 0) (causes : PlainSequent → PlainStep → ℕ → Type 0) (said : List PlainSequent → List ℕ) (q : PlainTask) (file bytes called : List ℕ) (called_is : called ≡ obligation_name q) where
  unread_by : (e : ProofsRefusal) (status : Status) (text : List ℕ) → IsUnread (obligation_name q ∷ []) (tokens_of bytes) e → IsUnreadAnswer file e status text → IsProofAnswer leads causes said q file bytes status text
  unread_by (code.File e) status text is tells = record {
    outcome = NoFile tells.answer;
    read = record { answer = tells.answer; answered = refused_as (limits_of most_steps most_levels) (tokens_of bytes) e tells.answer is tells.is; is = not_read_as (obligation_name q ∷ []) e tells.answer tells.is };
    answer = no_file tells.answer status text refl tells.tells;
  }
  unread_by (code.UnknownObligation name) status text is tells =
      rw (tells.0, tells.1) (record { outcome = UnknownObligation name.items; read = is; answer = unknown name.items refl })

  -- the proof file gives no proofs
  pub unread_answer : (e : ProofsRefusal) (status : Status) (text : List ℕ) → IsUnread (called ∷ []) (tokens_of bytes) e → IsUnreadAnswer file e status text → IsProofAnswer leads causes said q file bytes status text
  unread_answer e status text is tells = unread_by e status text (subst (λ n. IsUnread (n ∷ []) (tokens_of bytes) e) called_is is) tells

  -- the report, or that it is too long
  pub limited_report : (p : Option ProofTree) (status status' : Status) (text text' : List ℕ) → HasProof called bytes p → IsReport leads causes said (obligation_name q) (obligation_sequent q) p status text → (report_limit < length text → (status' ≡ Limit) × (text' ≡ report_limit_text)) → (length text ≤ report_limit → (status' ≡ status) × (text' ≡ text)) → IsProofAnswer leads causes said q file bytes status' text'
  limited_report p status status' text text' has report long short =
      let named = subst (λ n. HasProof n bytes p) called_is has in
      elim (cases_lt report_limit (length text)) [
        | inl past ↦ rw ((long past).0, (long past).1) (record { outcome = _; read = named; answer = long_report p status text refl report past })
        | inr within ↦ rw ((short within).0, (short within).1) (record { outcome = _; read = named; answer = replayed p status text refl report within })
      ]
