-- What the outcome of a file's proofs says of the text.
use Rattle.std.proofs.Common.{◌≡◌, ℕ, List, Option, Result, Ok, Err, IfOk, IfErr, MatchResult, sym, subst}
use Rattle.std.specs.Global.{Vec}
use Rattle.jd_bracketed.specs.Tokens.{Placed}
use Rattle.jd_sequent.specs.declared.script.ScriptTree.{ScriptTree}
use Rattle.jd_scripts.specs.Scripts.{PlainProof}
use Rattle.jd_scripts.specs.Answers.{Proofs, IsAnswer, limits_of, most_levels, most_steps}
use Rattle.jd_script.specs.Answers.{IsRefused}
use Rattle.jd_proofs.specs.Outcomes.{IsOutcome, Trees}
use Rattle.jd_proofs.specs.Answers.{IsUnread, trees_view}
use Rattle.jd_proofs.specs.Given.{IsRefusedFor, outcome_with}
use Rattle.jd_proofs.specs.declared.refusal.ProofsRefusal.{ProofsRefusal}
use Rattle.jd_proofs.specs.declared.refusal.ProofsRefusal.TheVariants as refusals

refused : (names : List (List ℕ)) (tokens : List Placed) (ps : List PlainProof) (e : ProofsRefusal) → IsAnswer (limits_of most_steps most_levels) tokens (Proofs ps)
    → IsRefusedFor (outcome_with names ps) e → IsUnread names tokens e
refused names tokens ps (refusals.File e) file h = subst (IsRefused (limits_of most_steps most_levels) tokens) (sym h) tt
refused names tokens ps (refusals.UnknownObligation name) file h = record { answer = Proofs ps; answered = file; is = sym h }

pub answered : (names : List (List ℕ)) (tokens : List Placed) (ps : List PlainProof) (r : Result (Vec (Option ScriptTree)) ProofsRefusal)
    → IsAnswer (limits_of most_steps most_levels) tokens (Proofs ps) → IfOk r (λ trees. outcome_with names ps ≡ Trees (trees_view trees.items))
    → IfErr r (IsRefusedFor (outcome_with names ps)) → MatchResult r (λ trees. IsOutcome names tokens (Trees (trees_view trees.items))) (λ e. IsUnread names tokens e)
answered names tokens ps (Ok trees) file is h = record { answer = Proofs ps; answered = file; is = sym is }
answered names tokens ps (Err e) file is h = refused names tokens ps e file h
