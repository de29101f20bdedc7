-- What is given, in two steps: what its text stands for, and what it is bound to.
use Rattle.std.proofs.Common.{Bool, List, None, Option, Some, ap, false, length, nat_eq, refl, subst, sym, true, ◌≡◌, ◌∙◌, ℕ}
use Rattle.std.specs.Option.{option_and_then}
use Rattle.std.specs.Global.{Vec}
use Rattle.std.specs.declared.result.Result.{Result}
use Rattle.jd_patterns.specs.Bindings.{Bindings}
use Rattle.jd_patterns.specs.Chosen.{chosen}
use Rattle.jd_schema_matching.specs.Tested.{tests}
use Rattle.jd_sequent.specs.Obligations.{PlainTask, names_of}
use Rattle.jd_sequent.specs.declared.bad.Bad.{Bad}
use Rattle.jd_sequent.specs.declared.bad.Bad.TheVariants.{BadInst, MissingInst}
use Rattle.jd_syntax.specs.Sxs.{Bracketed}
use Rattle.jd_taclet_matching.specs.Given.{given_told}
use Rattle.jd_taclet_premises.specs.declared.parts.GoalParts.{GoalParts}
use Rattle.jd_taclet_stages.specs.Stages.{Goes, Outcome, all_named, and_then, bind_all, given_for, given_stage, going, provided}
use Rattle.jd_taclets.specs.Taclets.{Taclet}
use Rattle.jd_told_programs.specs.Told.{told_setting}
use Rattle.jd_taclet_rules.specs.Goals.{Concludes, HaveInstancesAfter}

in_two : (b e : Bool) (o : Option Bindings) (k : Bindings → Option Bindings) → provided MissingInst b (provided BadInst e (going BadInst (option_and_then k o))) ≡ and_then (provided MissingInst b (provided BadInst e (going BadInst o))) (λ l. going BadInst (k l))
in_two true true None k = refl
in_two true true (Some l) k = refl
in_two true false o k = refl
in_two false e o k = refl

module _ (t : PlainTask) (r : Taclet) (given : List (List ℕ × Bracketed)) (τ l : Bindings) (k : Bindings → Outcome) (is : given_told t r.insts given (chosen tests τ) ≡ Goes l) where
  in_two_steps : given_stage tests t r.insts given τ ≡ going BadInst (bind_all tests l τ)
  in_two_steps = in_two (all_named r.insts given) (nat_eq (length given) (length r.insts)) (given_for (names_of t) (told_setting t).program (chosen tests τ) r.insts given) (λ m. bind_all tests m τ) ∙ ap (λ o. and_then o (λ m. going BadInst (bind_all tests m τ))) is

  pub concludes_given : (x : Result (Vec GoalParts) Bad) → Concludes t r (and_then (going BadInst (bind_all tests l τ)) k) x → Concludes t r (and_then (given_stage tests t r.insts given τ) k) x
  concludes_given x h = subst (λ o. Concludes t r (and_then o k) x) (sym in_two_steps) h

  pub have_given : HaveInstancesAfter t r (and_then (given_stage tests t r.insts given τ) k) → HaveInstancesAfter t r (and_then (going BadInst (bind_all tests l τ)) k)
  have_given h = subst (λ o. HaveInstancesAfter t r (and_then o k)) in_two_steps h
