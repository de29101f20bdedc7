-- What is told of a refusal of a proof file, by its kind.
use Rattle.std.proofs.Common.{◌≡◌, ◌++◌, ℕ, List, Option, Some, None, option_map, codes, sym, refl, ap, ◌∙◌}
use Rattle.std.specs.Global.{Vec}
use Rattle.std.proofs.lemmas.Option.{none-some}
use Rattle.jd_scripts.specs.Answers as script
use Rattle.jd_scripts.specs.Answers.{Answer}
use Rattle.jd_script.specs.declared.refusal.ScriptRefusal.{ScriptRefusal}
use Rattle.jd_script.specs.declared.refusal.ScriptRefusal.TheVariants as refusals
use Rattle.jd_answer.specs.Answers.{refused_file, many_steps}
use Rattle.jd_answer.specs.Reports.{placed_text, script_kind, script_refusal_text, steps_limit_text}
use Rattle.jd_answer.specs.Scripts.{plain_answer, TellsKind, TellsFile}
use Rattle.jd_answer.specs.declared.status.Status.TheVariants.{RefusedScript, Limit}

tells : (e : ScriptRefusal) (a : Answer) (w : List ℕ) → plain_answer e ≡ Some a → Some w ≡ script_kind a → TellsKind e (Some w)
tells e a w is kind = record { answer = a; is = is; kind_is = kind; limit = λ none. absurd (none-some w (sym none)) }

pub version_told : (e : ScriptRefusal) (w : List ℕ) → e ≡ refusals.Version → w ≡ codes "Version" → TellsKind e (Some w)
version_told e w is text = tells e script.OtherVersion w (ap plain_answer is) (ap Some text)

pub syntax_told : (e : ScriptRefusal) (file at : ℕ) (w : List ℕ) → e ≡ refusals.Syntax file at → w ≡ placed_text (codes "Syntax") at → TellsKind e (Some w)
syntax_told e file at w is text = tells e (script.Syntax at) w (ap plain_answer is) (ap Some text)

pub duplicate_told : (e : ScriptRefusal) (name : Vec ℕ) (w bytes : List ℕ) → e ≡ refusals.DuplicateProof name → bytes ≡ name.items → w ≡ codes "DuplicateProof " ++ bytes → TellsKind e (Some w)
duplicate_told e name w bytes is same text = tells e (script.DuplicateProof name.items) w (ap plain_answer is) (ap Some (text ∙ ap (λ b. codes "DuplicateProof " ++ b) same))

pub truncated_told : (e : ScriptRefusal) (w : List ℕ) → e ≡ refusals.Truncated → w ≡ codes "Truncated" → TellsKind e (Some w)
truncated_told e w is text = tells e script.Truncated w (ap plain_answer is) (ap Some text)

pub steps_told : (e : ScriptRefusal) → e ≡ refusals.TooManyNodes → TellsKind e None
steps_told e is = record { answer = script.TooManySteps; is = ap plain_answer is; kind_is = refl; limit = λ none. refl }

pub deep_told : (e : ScriptRefusal) (file at : ℕ) (w : List ℕ) → e ≡ refusals.TooDeep file at → w ≡ placed_text (codes "TooDeep") at → TellsKind e (Some w)
deep_told e file at w is text = tells e (script.TooDeep at) w (ap plain_answer is) (ap Some text)

pub ruleset told = (version_told, syntax_told, duplicate_told, truncated_told, steps_told, deep_told)

-- ---- the status and the text

pub limit_told : (file : List ℕ) (e : ScriptRefusal) (r : Option (Vec ℕ)) (text : List ℕ) → TellsKind e (option_map (λ v. v.items) r) → r ≡ None → text ≡ steps_limit_text → TellsFile file e Limit text
limit_told file e r text told none is =
    rw is (record { answer = told.answer; is = told.is; tells = many_steps (told.limit (ap (option_map (λ v. v.items)) none)) })

pub kind_told : (file : List ℕ) (e : ScriptRefusal) (r : Option (Vec ℕ)) (w : Vec ℕ) (bytes text : List ℕ) → TellsKind e (option_map (λ v. v.items) r) → r ≡ Some w → bytes ≡ w.items → text ≡ script_refusal_text file bytes → TellsFile file e RefusedScript text
kind_told file e r w bytes text told some same is =
    rw is (record { answer = told.answer; is = told.is; tells = refused_file bytes (sym told.kind_is ∙ (ap (option_map (λ v. v.items)) some ∙ ap Some (sym same))) })

pub ruleset files = (limit_told, kind_told)
