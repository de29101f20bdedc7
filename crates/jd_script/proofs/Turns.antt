-- A turn of the loop over the tokens.
use Rattle.std.proofs.Common.{◌≡◌, ℕ, List, [], ◌∷◌, Result, Ok, Err, refl, sym, ap, subst, ◌∙◌}
use Rattle.std.specs.Global.{Vec}
use Rattle.jd_bracketed.specs.Tokens.{Placed}
use Rattle.jd_scripts.specs.Scripts.{Limits}
use Rattle.jd_scripts.specs.Answers.{Answer, IsAnswer, limits_of}
use Rattle.jd_scripts.specs.Machine.{State, FileNext, Fault, step}
use Rattle.jd_scripts.specs.Results.{refused, ended, answer_by, answer}
use Rattle.jd_scripts.proofs.Once.{is_answer}
use Rattle.jd_script.specs.Answers.{Answers, AnswersAs, RefusesAs, IsRefused}
use Rattle.jd_scripts.specs.declared.proof.Proof.{Proof}
use Rattle.jd_script.specs.declared.refusal.ScriptRefusal.{ScriptRefusal}
use Rattle.jd_script.specs.declared.refusal.ScriptRefusal.TheVariants as refusals

pub goes : (l : Limits) (left rest : List Placed) (p : Placed) (st s : State) (a : Answer) → left ≡ p ∷ rest → step l st p.0 ≡ Ok s → answer l left st ≡ a → answer l rest s ≡ a
unfolding answer
goes l left rest p st s a e g h = sym (ap (λ ts. answer l ts st) e ∙ ap (answer_by (answer l rest) p) g) ∙ h

pub stops : (l : Limits) (left rest : List Placed) (p : Placed) (st : State) (f : Fault) (a : Answer) → left ≡ p ∷ rest → step l st p.0 ≡ Err f → answer l left st ≡ a → refused p f ≡ a
unfolding answer
stops l left rest p st f a e g h = sym (ap (λ ts. answer l ts st) e ∙ ap (answer_by (answer l rest) p) g) ∙ h

pub ends : (l : Limits) (left : List Placed) (st : State) (a : Answer) → left ≡ [] → answer l left st ≡ a → ended st ≡ a
unfolding answer
ends l left st a e h = sym (ap (λ ts. answer l ts st) e) ∙ h

refused_as : (l : Limits) (tokens : List Placed) (e : ScriptRefusal) (a : Answer) → RefusesAs e a → IsAnswer l tokens a → IsRefused l tokens e
refused_as l tokens refusals.Version a h k = subst (IsAnswer l tokens) h k
refused_as l tokens (refusals.Syntax file at) a h k = (h.0, subst (IsAnswer l tokens) h.1 k)
refused_as l tokens (refusals.DuplicateProof name) a h k = subst (IsAnswer l tokens) h k
refused_as l tokens refusals.Truncated a h k = subst (IsAnswer l tokens) h k
refused_as l tokens refusals.TooManyNodes a h k = subst (IsAnswer l tokens) h k
refused_as l tokens (refusals.TooDeep file at) a h k = (h.0, subst (IsAnswer l tokens) h.1 k)
refused_as l tokens refusals.NoMemory a h k = tt

answered_as : (l : Limits) (tokens : List Placed) (r : Result (Vec Proof) ScriptRefusal) (a : Answer) → AnswersAs r a → IsAnswer l tokens a → Answers l tokens r
answered_as l tokens (Ok ps) a h k = subst (IsAnswer l tokens) h k
answered_as l tokens (Err e) a h k = refused_as l tokens e a h k

pub answers : (steps levels : ℕ) (tokens : List Placed) (r : Result (Vec Proof) ScriptRefusal) → AnswersAs r (answer (limits_of steps levels) tokens FileNext) → Answers (limits_of steps levels) tokens r
answers steps levels tokens r h = answered_as (limits_of steps levels) tokens r (answer (limits_of steps levels) tokens FileNext) h (is_answer (limits_of steps levels) refl tokens)
