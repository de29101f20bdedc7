-- What a text is as a file of proof scripts, or why it is none, as the code answers.
use Rattle.std.specs.Prelude.{◌≡◌, List, map, Result, Ok, Err}
use Rattle.jd_bracketed.specs.Tokens.{Placed}
use Rattle.jd_scripts.specs.Scripts.{Limits}
use Rattle.jd_scripts.specs.Answers as plain
use Rattle.jd_scripts.specs.Answers.{Answer, IsAnswer}
use Rattle.jd_scripts.specs.ProofViews.{proof_view}
use Rattle.jd_scripts.specs.declared.proof.Proof.{Proof}
use Rattle.jd_script.specs.declared.refusal.ScriptRefusal.{ScriptRefusal}
use Rattle.jd_script.specs.declared.refusal.ScriptRefusal.TheVariants as refusals
use Rattle.std.specs.Global.{Vec}

-- want of memory says nothing of the text
abbrev pub IsRefused : Limits → List Placed → ScriptRefusal → Type 0
IsRefused limits tokens refusals.Version = IsAnswer limits tokens plain.OtherVersion
IsRefused limits tokens (refusals.Syntax file at) = (file ≡ 0) × IsAnswer limits tokens (plain.Syntax at)
IsRefused limits tokens (refusals.DuplicateProof name) = IsAnswer limits tokens (plain.DuplicateProof name.items)
IsRefused limits tokens refusals.Truncated = IsAnswer limits tokens plain.Truncated
IsRefused limits tokens refusals.TooManyNodes = IsAnswer limits tokens plain.TooManySteps
IsRefused limits tokens (refusals.TooDeep file at) = (file ≡ 0) × IsAnswer limits tokens (plain.TooDeep at)
IsRefused limits tokens refusals.NoMemory = Unit {0}

abbrev pub Answers : Limits → List Placed → Result (Vec Proof) ScriptRefusal → Type 0
Answers limits tokens (Ok ps) = IsAnswer limits tokens (plain.Proofs (map proof_view ps.items))
Answers limits tokens (Err e) = IsRefused limits tokens e

-- the code's answer is this one, or memory ran out
abbrev pub RefusesAs : ScriptRefusal → Answer → Type 0
RefusesAs refusals.Version a = a ≡ plain.OtherVersion
RefusesAs (refusals.Syntax file at) a = (file ≡ 0) × (a ≡ plain.Syntax at)
RefusesAs (refusals.DuplicateProof name) a = a ≡ plain.DuplicateProof name.items
RefusesAs refusals.Truncated a = a ≡ plain.Truncated
RefusesAs refusals.TooManyNodes a = a ≡ plain.TooManySteps
RefusesAs (refusals.TooDeep file at) a = (file ≡ 0) × (a ≡ plain.TooDeep at)
RefusesAs refusals.NoMemory a = Unit {0}

abbrev pub AnswersAs : Result (Vec Proof) ScriptRefusal → Answer → Type 0
AnswersAs (Ok ps) a = a ≡ plain.Proofs (map proof_view ps.items)
AnswersAs (Err e) a = RefusesAs e a
