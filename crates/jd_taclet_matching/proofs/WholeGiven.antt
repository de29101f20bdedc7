-- What is given, where all is there.
use Rattle.std.proofs.Common.{Bool, List, ap, length, nat_eq, subst, sym, true, ◌≡◌, ◌∙◌, ℕ}
use Rattle.std.specs.Global.{Vec}
use Rattle.std.specs.declared.result.Result.{Result}
use Rattle.jd_model.specs.Programs.{Program}
use Rattle.jd_patterns.specs.Instances.{Instance}
use Rattle.jd_sequent.specs.Obligations.{PlainTask, names_of}
use Rattle.jd_sequent.specs.declared.bad.Bad.{Bad}
use Rattle.jd_sequent.specs.declared.bad.Bad.TheVariants.{BadInst, MissingInst}
use Rattle.jd_syntax.specs.Sxs.{Bracketed}
use Rattle.jd_taclet_matching.proofs.Names.{given_alike}
use Rattle.jd_taclet_matching.specs.Answers.{Answers}
use Rattle.jd_taclet_matching.specs.Given.{given_told}
use Rattle.jd_taclet_matching.specs.OwnedParts.{owned_entries}
use Rattle.jd_taclet_matching.specs.declared.owned.OwnedEntry.{OwnedEntry}
use Rattle.jd_taclet_stages.specs.Stages.{Outcome, all_named, given_for, going, provided}
use Rattle.jd_taclets.specs.Taclets.{InstVar}
use Rattle.jd_tgrammar.specs.NameTables.{NameTable}
use Rattle.jd_told_programs.specs.Told.{told_setting}

both_hold : (b e : Bool) (o : Outcome) → b ≡ true → e ≡ true → o ≡ provided MissingInst b (provided BadInst e o)
both_hold b e o is this = sym (ap (λ x. provided MissingInst x (provided BadInst e o)) is ∙ ap (λ x. provided BadInst x o) this)

pub given_whole : (t : PlainTask) (vs : List InstVar) (given : List (List ℕ × Bracketed)) (σ : Instance) (p : Program) (names : NameTable) (r : Result (Vec OwnedEntry) Bad) (b e : Bool) → b ≡ all_named vs given → b ≡ true → e ≡ nat_eq (length given) (length vs) → e ≡ true → names ≡ names_of t → Answers owned_entries r (going BadInst (given_for names p σ vs given)) → Answers owned_entries r (given_told t vs given σ)
given_whole t vs given σ p names r b e all holds many this same told =
    subst (λ (o : Outcome). Answers owned_entries r o)
    (ap (λ n. going BadInst (given_for n p σ vs given)) same
    ∙ ap (going BadInst) (given_alike p (told_setting t).program σ (names_of t) vs given)
    ∙ both_hold (all_named vs given) (nat_eq (length given) (length vs)) _ (sym all ∙ holds) (sym many ∙ this))
    told
